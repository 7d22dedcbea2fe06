-- Fields that lie one after another are the bytes that they were read from.
use Rattle.std.proofs.Common.{◌≡◌, ◌<◌, ◌≤◌, ℕ, zero, suc, ◌+◌, ◌-◌, ◌*◌, ◌/◌, ◌%◌, ◌^◌, List, [], ◌∷◌, ◌++◌, length, take, drop, refl, ap, ◌∙◌, arith}
use Rattle.std.proofs.Math.Nat.{div-div-eq-div-mul, pow-succ'}
use Rattle.std.proofs.lemmas.List.{take-append-drop, take-take, drop-take, drop-drop, length-drop, take_all}
use Rattle.std.specs.Prelude.{All}
use Rattle.std.specs.Int.{byte_at, bytes_low_first}
use Rattle.byteorder.specs.Endian.{little_from}
use Rattle.byteorder.specs.Numbers.{little_from-cons}
use Rattle.sqe_cqe.specs.Fields.{Field, field, spelled, spelled_fields, StandIn, IsGapless}
use Rattle.sqe_cqe.specs.declared.sqe.Sqe.{Sqe}
use Rattle.sqe_cqe.specs.declared.cqe.Cqe.{Cqe}
use Rattle.sqe_cqe.specs.Sqe.{sqe_of, sqe_bytes, sqe_fields}
use Rattle.sqe_cqe.specs.Cqe.{cqe_of, cqe_bytes, cqe_fields}

-- each is a byte
abbrev pub AreBytes : List ℕ → Type 0
AreBytes [] = Unit {0}
AreBytes (b ∷ bytes) = (b < 256) × AreBytes bytes

-- the bytes of x + 256 m from the second on are those of m
byte_at-suc : (i x m : ℕ) → x < 256 → byte_at (suc i) (x + 256 * m) ≡ byte_at i m
byte_at-suc zero x m h = omega arith
byte_at-suc (suc i) x m h =
    let one : (x + 256 * m) / 256 ≡ m = omega arith in
    let cut : (x + 256 * m) / 256 ^ suc (suc i) ≡ m / 256 ^ suc i = rw (pow-succ' 256 (suc i), ← div-div-eq-div-mul (x + 256 * m) 256 (256 ^ suc i), one) refl in
    ap (λ (n : ℕ). n % 256) cut

bytes_low_first-suc : (i k x m : ℕ) → x < 256 → bytes_low_first (suc i) k (x + 256 * m) ≡ bytes_low_first i k m
bytes_low_first-suc i zero x m h = refl
bytes_low_first-suc i (suc k) x m h = rw (byte_at-suc i x m h, bytes_low_first-suc (suc i) k x m h) refl

-- the number in the first k bytes, written again
pub spelled-again : (k : ℕ) (xs : List ℕ) → AreBytes xs → k ≤ length xs → spelled k (little_from 0 k xs) ≡ take k xs
spelled-again zero xs bytes h = refl
spelled-again (suc k) [] bytes h = absurd (omega arith)
spelled-again (suc k) (x ∷ xs) bytes h =
    let b : x < 256 = bytes.0 in
    let low : byte_at 0 (x + 256 * little_from 0 k xs) ≡ x = omega arith in
    rw (little_from-cons 0 k x xs, low, bytes_low_first-suc 0 k x (little_from 0 k xs) b, spelled-again k xs bytes.1 (omega arith)) refl

AreBytes-drop : (n : ℕ) (xs : List ℕ) → AreBytes xs → AreBytes (drop n xs)
AreBytes-drop zero xs bytes = bytes
AreBytes-drop (suc n) [] bytes = tt
AreBytes-drop (suc n) (x ∷ xs) bytes = AreBytes-drop n xs bytes.1

are_bytes : (xs : List ℕ) → All (λ b. b < 256) xs → AreBytes xs
are_bytes [] all = tt
are_bytes (x ∷ xs) all = (all 0 0 (omega arith), are_bytes xs (λ k d lt. all (suc k) d (omega arith)))

take-parts : (a b : ℕ) (xs : List ℕ) → take a xs ++ take b (drop a xs) ≡ take (a + b) xs
take-parts a b xs =
    let front : take a (take (a + b) xs) ≡ take a xs = take-take a (a + b) xs (omega arith) in
    let back : drop a (take (a + b) xs) ≡ take b (drop a xs) = drop-take a b xs in
    rw (← front, ← back) (take-append-drop a (take (a + b) xs))

gapless-le : (at end : ℕ) (fields : List Field) → IsGapless at end fields → at ≤ end
gapless-le at end [] g = omega arith
gapless-le at end (f ∷ fields) g = let rest = gapless-le (at + f.size) end fields g.1 in omega arith

-- fields that lie one after another and that stand in the bytes, written again
pub spelled_fields-again : (at end : ℕ) (fields : List Field) (bytes : List ℕ) → IsGapless at end fields → StandIn bytes fields → AreBytes bytes → end ≤ length bytes
    → spelled_fields fields ≡ take (end - at) (drop at bytes)
spelled_fields-again at end [] bytes g stand are h = let none : end - at ≡ 0 = omega arith in rw none refl
spelled_fields-again at end (f ∷ fields) bytes g stand are h =
    let le = gapless-le (at + f.size) end fields g.1 in
    let here : f.offset ≡ at = g.0 in
    let value : f.value ≡ field at f.size bytes = stand.0 ∙ ap (λ (o : ℕ). field o f.size bytes) here in
    let room : f.size ≤ length (drop at bytes) = omega (arith, length-drop at bytes) in
    let one : spelled f.size f.value ≡ take f.size (drop at bytes) = ap (spelled f.size) value ∙ spelled-again f.size (drop at bytes) (AreBytes-drop at bytes are) room in
    let rest : spelled_fields fields ≡ take (end - (at + f.size)) (drop f.size (drop at bytes)) = spelled_fields-again (at + f.size) end fields bytes g.1 stand.1 are h ∙ rw drop-drop refl in
    let sizes : f.size + (end - (at + f.size)) ≡ end - at = omega arith in
    rw (one, rest, take-parts f.size (end - (at + f.size)) (drop at bytes), sizes) refl

pub sqe-gapless : (bytes : List ℕ) → IsGapless 0 64 (sqe_fields (sqe_of bytes))
sqe-gapless bytes = (refl, (refl, (refl, (refl, (refl, (refl, (refl, (refl, (refl, (refl, (refl, (refl, (refl, (refl, (refl, (refl, (refl, (refl, (refl, refl)))))))))))))))))))

sqe-stands : (bytes : List ℕ) → StandIn bytes (sqe_fields (sqe_of bytes))
unfolding sqe_of
sqe-stands bytes = (refl, (refl, (refl, (refl, (refl, (refl, (refl, (refl, (refl, (refl, (refl, (refl, (refl, (refl, (refl, (refl, (refl, (refl, (refl, tt)))))))))))))))))))

sqe_bytes-fields : (e : Sqe) → sqe_bytes e ≡ spelled_fields (sqe_fields e)
unfolding sqe_bytes
sqe_bytes-fields e = refl

-- fields of all of the bytes, written again
all-again : (n : ℕ) (fields : List Field) (bytes : List ℕ) → IsGapless 0 n fields → StandIn bytes fields → length bytes ≡ n → All (λ b. b < 256) bytes → spelled_fields fields ≡ bytes
all-again n fields bytes g stand len all =
    spelled_fields-again 0 n fields bytes g stand (are_bytes bytes all) (omega arith) ∙ take_all (n - 0) bytes (omega arith)

pub sqe-again : (bytes : List ℕ) → length bytes ≡ 64 → All (λ b. b < 256) bytes → sqe_bytes (sqe_of bytes) ≡ bytes
sqe-again bytes len all = sqe_bytes-fields (sqe_of bytes) ∙ all-again 64 (sqe_fields (sqe_of bytes)) bytes (sqe-gapless bytes) (sqe-stands bytes) len all

pub cqe-gapless : (bytes : List ℕ) → IsGapless 0 16 (cqe_fields (cqe_of bytes))
cqe-gapless bytes = (refl, (refl, (refl, (refl, (refl, refl)))))

cqe-stands : (bytes : List ℕ) → StandIn bytes (cqe_fields (cqe_of bytes))
unfolding cqe_of
cqe-stands bytes = (refl, (refl, (refl, (refl, (refl, tt)))))

cqe_bytes-fields : (c : Cqe) → cqe_bytes c ≡ spelled_fields (cqe_fields c)
unfolding cqe_bytes
cqe_bytes-fields c = refl

pub cqe-again : (bytes : List ℕ) → length bytes ≡ 16 → All (λ b. b < 256) bytes → cqe_bytes (cqe_of bytes) ≡ bytes
cqe-again bytes len all = cqe_bytes-fields (cqe_of bytes) ∙ all-again 16 (cqe_fields (cqe_of bytes)) bytes (cqe-gapless bytes) (cqe-stands bytes) len all
