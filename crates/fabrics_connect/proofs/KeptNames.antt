-- What a controller keeps of a field names the same.
use Rattle.std.proofs.Common.{◌≡◌, ◌<◌, ◌-◌, ℕ, suc, Bool, true, false, cond, not, ◌==◌, nat_lt, List, [], ◌∷◌, ◌++◌, length, take, replicate, Some, None, refl, sym, ap, ◌∙◌, arith}
use Rattle.std.proofs.Math.Seq.{take-append_seam}
use Rattle.std.proofs.lemmas.List.{length-append, length-take-le}
use Rattle.std.specs.List.{prefix_len}
use Rattle.std.specs.Option.{option_map}
use Rattle.sqe_cqe.specs.Ready.{filled}
use Rattle.fabrics_connect.specs.Names.{name_in, kept_by}
use Rattle.fabrics_connect.specs.Laws.{KeptNamesTheSame}

-- how many bytes stand before the first zero byte, and these
abbrev before : List ℕ → ℕ
before xs = prefix_len (λ (x : ℕ). not (x == 0)) xs

abbrev front : List ℕ → List ℕ
front xs = take (before xs) xs

again_at : (x : ℕ) (xs zs : List ℕ) (b : Bool) → (x == 0) ≡ b
    → before (front xs ++ 0 ∷ zs) ≡ before xs
    → before (front (x ∷ xs) ++ 0 ∷ zs) ≡ before (x ∷ xs)
again_at x xs zs true e ih = let none : before (x ∷ xs) ≡ 0 = rw e refl in rw none refl
again_at x xs zs false e ih =
    let one : before (x ∷ xs) ≡ suc (before xs) = rw e (omega arith) in
    rw (one, e, ih) (omega arith)

again : (xs zs : List ℕ) → before (front xs ++ 0 ∷ zs) ≡ before xs
again [] zs = refl
again (x ∷ xs) zs = again_at x xs zs (x == 0) refl (again xs zs)

lt_true : (m n : ℕ) → m < n → nat_lt m n ≡ true
lt_true m n h = grind arith

named : (xs ys : List ℕ) (n : ℕ) → before ys ≡ n → n < length ys → take n ys ≡ xs
    → name_in ys ≡ Some xs
named xs ys n at lt front =
    let yes : nat_lt n (length ys) ≡ true = lt_true n (length ys) lt in
    rw (at, yes, front) refl

filled_front : (name : List ℕ) (n : ℕ) → length name ≡ n → n < 256
    → filled 256 0 name ≡ name ++ 0 ∷ replicate (255 - n) 0
unfolding filled
filled_front name n len lt =
    let more : 256 - length name ≡ suc (255 - n) = omega (arith, len, lt) in
    rw more refl

kept_at : (field : List ℕ) (b : Bool) → nat_lt (before field) (length field) ≡ b
    → length field ≡ 256
    → name_in (kept_by field (option_map (λ (at : ℕ). take at field) (cond b (Some (before field)) None)))
    ≡ option_map (λ (at : ℕ). take at field) (cond b (Some (before field)) None)
kept_at field false h len = rw h refl
kept_at field true h len =
    let n : ℕ = before field in
    let lt : n < length field = grind arith in
    let size : length (front field) ≡ n = length-take-le n field (omega (arith, lt)) in
    let ys : List ℕ = front field ++ 0 ∷ replicate (255 - n) 0 in
    let is : filled 256 0 (front field) ≡ ys = filled_front (front field) n size (omega (arith, lt, len)) in
    let longer : n < length ys = omega (arith, length-append (front field) (0 ∷ replicate (255 - n) 0), size) in
    let cut : take n ys ≡ front field =
    ap (λ (k : ℕ). take k ys) (sym size) ∙ take-append_seam (front field) (0 ∷ replicate (255 - n) 0) in
    ap name_in is ∙ named (front field) ys n (again field (replicate (255 - n) 0)) longer cut

pub kept_names_the_same : KeptNamesTheSame
kept_names_the_same field len = kept_at field (nat_lt (before field) (length field)) refl len
