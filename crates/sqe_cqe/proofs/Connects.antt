-- Connect data are read of their parts, and fields of fabrics commands stand in the bytes of the entry.
use Rattle.std.proofs.Common.{◌≡◌, ◌<◌, ℕ, zero, suc, ◌+◌, ◌*◌, ◌/◌, ◌%◌, List, ◌++◌, length, take, drop, slice_index, refl, ap, sym, ◌∙◌, arith}
use Rattle.std.proofs.Math.Seq.{take-append_seam, drop-append-add}
use Rattle.std.proofs.lemmas.List.{get_or-drop}
use Rattle.std.specs.Prelude.{All}
use Rattle.byteorder.specs.Endian.{little_from}
use Rattle.sqe_cqe.specs.Fields.{field, spelled, StandIn}
use Rattle.sqe_cqe.specs.Sqe.{sqe_of}
use Rattle.sqe_cqe.specs.Connect.{bytes_in, connect_of, connect_bytes, connect_fields, property_fields, ConnectDataAgain}

-- ---- the data
past : (n m : ℕ) (xs ys : List ℕ) → length xs ≡ n → drop (n + m) (xs ++ ys) ≡ drop m ys
past n m xs ys h = ap (λ (k : ℕ). drop (k + m) (xs ++ ys)) (sym h) ∙ drop-append-add xs ys m

front : (n : ℕ) (xs ys : List ℕ) → length xs ≡ n → take n (xs ++ ys) ≡ xs
front n xs ys h = ap (λ (k : ℕ). take k (xs ++ ys)) (sym h) ∙ take-append_seam xs ys

two-again : (x : ℕ) (rest : List ℕ) → x < 65536 → field 0 2 (spelled 2 x ++ rest) ≡ x
two-again x rest h = omega arith

pub data-again : ConnectDataAgain
unfolding connect_of
data-again d reserved rest id num res sub host =
    let names : List ℕ = d.subnqn ++ (d.hostnqn ++ rest) in
    let after_id : List ℕ = spelled 2 d.cntlid ++ (reserved ++ names) in
    let to_names : drop 256 (d.host_id ++ after_id) ≡ names =
    past 16 240 d.host_id after_id id ∙ past 2 238 (spelled 2 d.cntlid) (reserved ++ names) refl ∙ past 238 0 reserved names res in
    let to_host : drop 512 (d.host_id ++ after_id) ≡ d.hostnqn ++ rest =
    past 16 496 d.host_id after_id id ∙ past 2 494 (spelled 2 d.cntlid) (reserved ++ names) refl
    ∙ past 238 256 reserved names res ∙ past 256 0 d.subnqn (d.hostnqn ++ rest) sub in
    let a : bytes_in 0 16 (connect_bytes d reserved rest) ≡ d.host_id = front 16 d.host_id after_id id in
    let b : field 16 2 (connect_bytes d reserved rest) ≡ d.cntlid =
    ap (λ (xs : List ℕ). field 0 2 xs) (past 16 0 d.host_id after_id id) ∙ two-again d.cntlid (reserved ++ names) num in
    let c : bytes_in 256 256 (connect_bytes d reserved rest) ≡ d.subnqn =
    ap (λ (xs : List ℕ). take 256 xs) to_names ∙ front 256 d.subnqn (d.hostnqn ++ rest) sub in
    let e : bytes_in 512 256 (connect_bytes d reserved rest) ≡ d.hostnqn =
    ap (λ (xs : List ℕ). take 256 xs) to_host ∙ front 256 d.hostnqn rest host in
    λ i. record { host_id = a i; cntlid = b i; subnqn = c i; hostnqn = e i }

-- ---- the entry
-- a field by the bytes of the entry
in_bytes : (i k n : ℕ) (xs : List ℕ) → little_from i k (drop n xs) ≡ little_from (n + i) k xs
in_bytes i zero n xs = refl
in_bytes i (suc k) n xs =
    let step : n + suc i ≡ suc (n + i) = omega arith in
    rw (get_or-drop n xs i 0, in_bytes (suc i) k n xs, step) refl

at : (n size : ℕ) (xs : List ℕ) → field n size xs ≡ little_from n size xs
at n size xs =
    let none : n + 0 ≡ n = omega arith in
    in_bytes 0 size n xs ∙ ap (λ (m : ℕ). little_from m size xs) none

low_half : (a b c d : ℕ) → a < 256 → b < 256 → (a + 256 * (b + 256 * (c + 256 * (d + 256 * 0)))) % 65536 ≡ a + 256 * (b + 256 * 0)
low_half a b c d ha hb = omega arith

high_half : (a b c d : ℕ) → a < 256 → b < 256 → (a + 256 * (b + 256 * (c + 256 * (d + 256 * 0)))) / 65536 ≡ c + 256 * (d + 256 * 0)
high_half a b c d ha hb = omega arith

third : (a b c d : ℕ) → a < 256 → b < 256 → c < 256 → (a + 256 * (b + 256 * (c + 256 * (d + 256 * 0)))) / 65536 % 256 ≡ c + 256 * 0
third a b c d ha hb hc = omega arith

eight : (a b c d e f g h : ℕ) →
    (a + 256 * (b + 256 * (c + 256 * (d + 256 * 0)))) + 4294967296 * (e + 256 * (f + 256 * (g + 256 * (h + 256 * 0))))
    ≡ a + 256 * (b + 256 * (c + 256 * (d + 256 * (e + 256 * (f + 256 * (g + 256 * (h + 256 * 0)))))))
eight a b c d e f g h = omega arith

pub connect-stands : (bytes : List ℕ) → length bytes ≡ 64 → All (λ b. b < 256) bytes → StandIn bytes (connect_fields (sqe_of bytes))
unfolding sqe_of
connect-stands bytes len all =
    let s : ℕ → ℕ = λ i. slice_index bytes i in
    let is : (i : ℕ) → i < 64 → slice_index bytes i < 256 = λ i h. all i 0 (omega arith) in
    let b40 = is 40 (omega arith) in
    let b41 = is 41 (omega arith) in
    let b44 = is 44 (omega arith) in
    let b45 = is 45 (omega arith) in
    let b46 = is 46 (omega arith) in
    let format : field 40 4 bytes % 65536 ≡ field 40 2 bytes =
    ap (λ (x : ℕ). x % 65536) (at 40 4 bytes) ∙ low_half (s 40) (s 41) (s 42) (s 43) b40 b41 ∙ sym (at 40 2 bytes) in
    let id : field 40 4 bytes / 65536 ≡ field 42 2 bytes =
    ap (λ (x : ℕ). x / 65536) (at 40 4 bytes) ∙ high_half (s 40) (s 41) (s 42) (s 43) b40 b41 ∙ sym (at 42 2 bytes) in
    let size : field 44 4 bytes % 65536 ≡ field 44 2 bytes =
    ap (λ (x : ℕ). x % 65536) (at 44 4 bytes) ∙ low_half (s 44) (s 45) (s 46) (s 47) b44 b45 ∙ sym (at 44 2 bytes) in
    let attributes : field 44 4 bytes / 65536 % 256 ≡ field 46 1 bytes =
    ap (λ (x : ℕ). x / 65536 % 256) (at 44 4 bytes) ∙ third (s 44) (s 45) (s 46) (s 47) b44 b45 b46 ∙ sym (at 46 1 bytes) in
    (format, (id, (size, (attributes, (refl, tt)))))

pub property-stands : (bytes : List ℕ) → length bytes ≡ 64 → All (λ b. b < 256) bytes → StandIn bytes (property_fields (sqe_of bytes))
unfolding sqe_of
property-stands bytes len all =
    let s : ℕ → ℕ = λ i. slice_index bytes i in
    let value : field 48 4 bytes + 4294967296 * field 52 4 bytes ≡ field 48 8 bytes =
    ap (λ (x : ℕ). x + 4294967296 * field 52 4 bytes) (at 48 4 bytes)
    ∙ ap (λ (y : ℕ). little_from 48 4 bytes + 4294967296 * y) (at 52 4 bytes)
    ∙ eight (s 48) (s 49) (s 50) (s 51) (s 52) (s 53) (s 54) (s 55) ∙ sym (at 48 8 bytes) in
    (refl, (value, tt))
