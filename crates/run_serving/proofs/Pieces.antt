-- The pieces that a queue's list is made of.
use Rattle.std.proofs.Common.{◌≡◌, ◌<◌, ◌≤◌, ℕ, zero, suc, ◌+◌, Bool, true, false, List, [], ◌∷◌, ◌++◌, length, map, take, slice_index, refl, sym, ap, subst, ◌∙◌, append_assoc, arith}
use Rattle.std.proofs.Math.Seq.{take-append_seam}
use Rattle.std.proofs.lemmas.List.{length-append}
use Rattle.std.specs.List.{AllByRecursion}
use Rattle.std.specs.List.Sorted.{IsPermutation}
use Rattle.std.proofs.lemmas.List.Sorted.{IsPermutation-trans, IsPermutation-append_comm, IsPermutation-append_left, IsPermutation-append_right}
use Rattle.plan_files.specs.Capsules.{Capsule}
use Rattle.tree_target.specs.Model.{Entry, Target}
use Rattle.tree_target.specs.Steps.{target_after}
use Rattle.tree_target.specs.Legal.{after}
use Rattle.run_transcript.specs.Runs.{Placed, Run, IsRising, placed_from, calls_of, target_at}
use Rattle.run_transcript.specs.Turns.{Progress, after_entry, next_call}
use Rattle.run_transcript.specs.Served.{AreFrom, ArePlacedBefore, ServesFile, body_from, finals_from}
use Rattle.run_serving.specs.Goes.{AreNext, progress_after}
use Rattle.run_serving.proofs.Placing.{after-append}

-- ---- the target at a place
pub target_here : (run : Run) (h rest : List Entry) (n : ℕ) → run.history ≡ h ++ rest
    → n ≡ length h → target_at run n ≡ after run.start (calls_of h)
target_here run h rest n is len =
    ap (λ (x : List Entry). after run.start (calls_of x))
    (ap (λ (x : List Entry). take n x) is ∙ ap (λ (m : ℕ). take m (h ++ rest)) len
    ∙ take-append_seam h rest)

pub one_on : (t : Target) (h : List Entry) (e : Entry)
    → after t (calls_of (h ++ e ∷ [])) ≡ target_after (after t (calls_of h)) e.call
one_on t h e = after-append t h (e ∷ [])

pub longer : (h : List Entry) (n : ℕ) (e : Entry) → n ≡ length h → n + 1 ≡ length (h ++ e ∷ [])
longer h n e is = omega (arith, is, length-append h (e ∷ []))

pub cut_on : (h : List Entry) (e : Entry) (group rest history : List Entry)
    → history ≡ h ++ ((e ∷ group) ++ rest) → history ≡ (h ++ e ∷ []) ++ (group ++ rest)
cut_on h e group rest history is = is ∙ sym (append_assoc h (e ∷ []) (group ++ rest))

-- ---- entries that were next are served
pub serves_piece : (run : Run) (final : Bool) (queue : ℕ) (file : List Capsule) (p : Progress)
    (h group rest : List Entry) (n : ℕ) (tail : List Placed)
    → run.history ≡ h ++ (group ++ rest) → n ≡ length h
    → AreNext final queue file p (after run.start (calls_of h)) group
    → ServesFile run queue file (progress_after p group) tail
    → ServesFile run queue file p (placed_from n group ++ tail)
serves_piece run final queue file p h [] rest n tail is len a end = end
serves_piece run final queue file p h (e ∷ group) rest n tail is len a end = (
  ap (λ (t : Target). next_call t queue file p) (target_here run h ((e ∷ group) ++ rest) n is len)
      ∙ a.0,
  serves_piece run final queue file (after_entry p e) (h ++ e ∷ []) group rest (n + 1) tail
      (cut_on h e group rest run.history is) (longer h n e len)
      (subst (λ (t : Target). AreNext final queue file (after_entry p e) t group)
      (sym (one_on run.start h e)) a.2) end,
)

-- ---- final polls and the rest
pub body_keeps : (queue : ℕ) (file : List Capsule) (p : Progress) (t : Target) (n : ℕ)
    (group : List Entry) (tail : List Placed) → AreNext false queue file p t group
    → body_from (length file) p (placed_from n group ++ tail)
    ≡ placed_from n group ++ body_from (length file) (progress_after p group) tail
body_keeps queue file p t n [] tail a = refl
body_keeps queue file p t n (e ∷ group) tail a =
    rw a.1 (ap (λ (r : List Placed). (record { place = n; entry = e }) ∷ r)
    (body_keeps queue file (after_entry p e) (target_after t e.call) (n + 1) group tail a.2))

pub body_skips : (queue : ℕ) (file : List Capsule) (p : Progress) (t : Target) (n : ℕ)
    (group : List Entry) (tail : List Placed) → AreNext true queue file p t group
    → body_from (length file) p (placed_from n group ++ tail)
    ≡ body_from (length file) (progress_after p group) tail
body_skips queue file p t n [] tail a = refl
body_skips queue file p t n (e ∷ group) tail a =
    rw a.1 (body_skips queue file (after_entry p e) (target_after t e.call) (n + 1) group tail a.2)

pub finals_keep : (queue : ℕ) (file : List Capsule) (p : Progress) (t : Target) (n : ℕ)
    (group : List Entry) (tail : List Placed) → AreNext true queue file p t group
    → finals_from (length file) p (placed_from n group ++ tail)
    ≡ placed_from n group ++ finals_from (length file) (progress_after p group) tail
finals_keep queue file p t n [] tail a = refl
finals_keep queue file p t n (e ∷ group) tail a =
    rw a.1 (ap (λ (r : List Placed). (record { place = n; entry = e }) ∷ r)
    (finals_keep queue file (after_entry p e) (target_after t e.call) (n + 1) group tail a.2))

pub finals_skip : (queue : ℕ) (file : List Capsule) (p : Progress) (t : Target) (n : ℕ)
    (group : List Entry) (tail : List Placed) → AreNext false queue file p t group
    → finals_from (length file) p (placed_from n group ++ tail)
    ≡ finals_from (length file) (progress_after p group) tail
finals_skip queue file p t n [] tail a = refl
finals_skip queue file p t n (e ∷ group) tail a =
    rw a.1 (finals_skip queue file (after_entry p e) (target_after t e.call) (n + 1) group tail a.2)

-- ---- places
pub are_from : (n : ℕ) (group : List Entry) → AreFrom n (placed_from n group)
are_from n [] = tt
are_from n (e ∷ group) = (refl, are_from (n + 1) group)

pub below_all : (n m : ℕ) (group : List Entry) → n + length group ≤ m
    → AllByRecursion (λ (x : Placed). x.place < m) (placed_from n group)
below_all n m [] le = tt
below_all n m (e ∷ group) le = (omega (arith, le), below_all (n + 1) m group (omega (arith, le)))

pub above_all : (n m : ℕ) (group : List Entry) → m ≤ n
    → AllByRecursion (λ (x : Placed). m ≤ x.place) (placed_from n group)
above_all n m [] le = tt
above_all n m (e ∷ group) le = (le, above_all (n + 1) m group (omega (arith, le)))

pub all_append : (P : Placed → Type 0) (xs ys : List Placed) → AllByRecursion P xs
    → AllByRecursion P ys → AllByRecursion P (xs ++ ys)
all_append P [] ys a b = b
all_append P (x ∷ xs) ys a b = (a.0, all_append P xs ys a.1 b)

after_one : (n m : ℕ) (late : List Placed) → n < m
    → AllByRecursion (λ (x : Placed). m ≤ x.place) late
    → AllByRecursion (λ (y : Placed). n < y.place) late
after_one n m [] lt a = tt
after_one n m (y ∷ late) lt a = (omega (arith, lt, a.0), after_one n m late lt a.1)

pub placed_before : (m : ℕ) (early late : List Placed)
    → AllByRecursion (λ (x : Placed). x.place < m) early
    → AllByRecursion (λ (x : Placed). m ≤ x.place) late → ArePlacedBefore early late
placed_before m [] late a b = tt
placed_before m (x ∷ early) late a b = (
  after_one x.place m late a.0 b,
  placed_before m early late a.1 b,
)

-- places from n on that rise
abbrev pub Rises : ℕ → List Placed → Type 0
Rises n [] = Unit {0}
Rises n (x ∷ list) = (n ≤ x.place) × Rises (x.place + 1) list

pub rises_from : (n m : ℕ) (list : List Placed) → n ≤ m → Rises m list → Rises n list
rises_from n m [] le r = tt
rises_from n m (x ∷ list) le r = (omega (arith, le, r.0), r.1)

pub rises_on : (n : ℕ) (group : List Entry) (tail : List Placed) → Rises (n + length group) tail
    → Rises n (placed_from n group ++ tail)
rises_on n [] tail r = rises_from n (n + 0) tail (omega arith) r
rises_on n (e ∷ group) tail r =
    let same : n + suc (length group) ≡ n + 1 + length group = omega arith in
    (omega arith, rises_on (n + 1) group tail (subst (λ (m : ℕ). Rises m tail) same r))

-- two places that follow one another
rising_at : (n : ℕ) (list : List Placed) (k : ℕ) → Rises n list
    → k + 1 < length (map (λ p. p.place) list)
    → slice_index (map (λ p. p.place) list) k < slice_index (map (λ p. p.place) list) (k + 1)
rising_at n [] k r lt = absurd (omega arith)
rising_at n (x ∷ []) k r lt = absurd (omega (arith, lt))
rising_at n (x ∷ y ∷ list) zero r lt = omega (arith, r.1.0)
rising_at n (x ∷ y ∷ list) (suc k) r lt =
    let e : suc k + 1 ≡ suc (k + 1) = omega arith in
    rw e (rising_at (x.place + 1) (y ∷ list) k r.1 (omega (arith, lt)))

pub is_rising : (n : ℕ) (list : List Placed) → Rises n list → IsRising list
is_rising n list r k lt = rising_at n list k r lt

-- ---- lists in another order
swap_front : (X Y Z : List Placed) → IsPermutation (X ++ (Y ++ Z)) (Y ++ (X ++ Z))
swap_front X Y Z =
    subst (λ (r : List Placed). IsPermutation r (Y ++ (X ++ Z))) (append_assoc X Y Z)
    (subst (λ (r : List Placed). IsPermutation ((X ++ Y) ++ Z) r) (append_assoc Y X Z)
    (IsPermutation-append_left Z (X ++ Y) (Y ++ X) (IsPermutation-append_comm X Y)))

pub bring_front : (X Y Z : List Placed) → IsPermutation (X ++ (Y ++ Z)) (Y ++ (X ++ Z))
bring_front X Y Z = swap_front X Y Z

-- three pieces before three others
pub mixed : (A B C F R P X : List Placed) → IsPermutation X (F ++ (R ++ P))
    → IsPermutation ((A ++ (B ++ C)) ++ X) ((A ++ F) ++ ((B ++ R) ++ (C ++ P)))
mixed A B C F R P X x =
    let S : List Placed = F ++ (R ++ P) in
    let c : IsPermutation (C ++ S) (F ++ (R ++ (C ++ P))) =
    IsPermutation-trans (C ++ S) (F ++ (C ++ (R ++ P))) (F ++ (R ++ (C ++ P)))
    (swap_front C F (R ++ P))
    (IsPermutation-append_right F (C ++ (R ++ P)) (R ++ (C ++ P)) (swap_front C R P)) in
    let b : IsPermutation (B ++ (C ++ S)) (F ++ (B ++ (R ++ (C ++ P)))) =
    IsPermutation-trans (B ++ (C ++ S)) (B ++ (F ++ (R ++ (C ++ P)))) (F ++ (B ++ (R ++ (C ++ P))))
    (IsPermutation-append_right B (C ++ S) (F ++ (R ++ (C ++ P))) c)
    (swap_front B F (R ++ (C ++ P))) in
    let a : IsPermutation (A ++ (B ++ (C ++ S))) (A ++ (F ++ (B ++ (R ++ (C ++ P))))) =
    IsPermutation-append_right A (B ++ (C ++ S)) (F ++ (B ++ (R ++ (C ++ P)))) b in
    let left : (A ++ (B ++ C)) ++ S ≡ A ++ (B ++ (C ++ S)) =
    append_assoc A (B ++ C) S ∙ ap (λ (r : List Placed). A ++ r) (append_assoc B C S) in
    let right : (A ++ F) ++ ((B ++ R) ++ (C ++ P)) ≡ A ++ (F ++ (B ++ (R ++ (C ++ P)))) =
    append_assoc A F ((B ++ R) ++ (C ++ P))
    ∙ ap (λ (r : List Placed). A ++ (F ++ r)) (append_assoc B R (C ++ P)) in
    IsPermutation-trans ((A ++ (B ++ C)) ++ X) ((A ++ (B ++ C)) ++ S)
    ((A ++ F) ++ ((B ++ R) ++ (C ++ P)))
    (IsPermutation-append_right (A ++ (B ++ C)) X S x)
    (subst (λ (r : List Placed). IsPermutation r ((A ++ F) ++ ((B ++ R) ++ (C ++ P)))) (sym left)
    (subst (λ (r : List Placed). IsPermutation (A ++ (B ++ (C ++ S))) r) (sym right) a))
