-- Which entries of a history are of one kind and of one caller.
use Rattle.std.proofs.Common.{◌≡◌, ◌≢◌, ◌≤◌, ◌<◌, ℕ, zero, suc, ◌+◌, Bool, true, false, cond, ◌&&◌, eqb, List, [], ◌∷◌, ◌++◌, Some, slice_get, refl, sym, ap, subst, ◌∙◌, arith, eq-eqb}
use Rattle.std.specs.List.{sum_by, AllByRecursion}
use Rattle.std.specs.List.Sorted.{IsPermutation}
use Rattle.std.proofs.lemmas.List.Sums.{sum_by-append}
use Rattle.std.proofs.lemmas.List.Sorted.{sum_by-IsPermutation}
use Rattle.tree_target.specs.Model.{Call, Entry, caller_of}
use Rattle.run_transcript.specs.Runs.{Placed, Run, placed_from, callers}
use Rattle.run_verdicts.proofs.Laying.{all, not-some, AreLow, AreHigh}

-- how many entries stand at a place whose calls are of the kind
abbrev pub owns : (Call → Bool) → ℕ → List Placed → ℕ
owns kind p list = sum_by (λ e. cond (eqb e.place p && kind e.entry.call) 1 0) list

owns-append : (kind : Call → Bool) (p : ℕ) (xs ys : List Placed) → owns kind p (xs ++ ys) ≡ owns kind p xs + owns kind p ys
owns-append kind p xs ys = sum_by-append (λ e. cond (eqb e.place p && kind e.entry.call) 1 0) xs ys

owns-cons : (kind : Call → Bool) (p : ℕ) (e : Placed) (list : List Placed) → owns kind p (e ∷ list) ≡ owns kind p (e ∷ []) + owns kind p list
owns-cons kind p e list = owns-append kind p (e ∷ []) list

none-here : (kind : Call → Bool) (p : ℕ) (e : Placed) → eqb e.place p ≡ false → owns kind p (e ∷ []) ≡ 0
none-here kind p e f = rw f refl

other-kind : (kind : Call → Bool) (p : ℕ) (e : Placed) → kind e.entry.call ≡ false → owns kind p (e ∷ []) ≡ 0
other-kind kind p e f = by-test (eqb e.place p) refl where
  by-test : (b : Bool) → eqb e.place p ≡ b → owns kind p (e ∷ []) ≡ 0
  by-test true t = rw (t, f) refl
  by-test false u = rw u refl

-- an entry of the history stands at its place
owns-history : (kind : Call → Bool) (n k : ℕ) (h : List Entry) (e : Entry) → slice_get h k ≡ Some e → kind e.call ≡ true
    → 1 ≤ owns kind (n + k) (placed_from n h)
owns-history kind n k [] e at own = absurd (not-some e at)
owns-history kind n zero (x ∷ h) e at own =
    let is : x ≡ e = cc in
    let mine : kind x.call ≡ true = ap (λ (y : Entry). kind y.call) is ∙ own in
    let here : Placed = record { place = n; entry = x } in
    let a : eqb n (n + 0) ≡ true = eq-eqb n (n + 0) (omega arith) in
    let one : owns kind (n + 0) (here ∷ []) ≡ 1 = rw (a, mine) refl in
    omega (arith, one, owns-cons kind (n + 0) here (placed_from (n + 1) h))
owns-history kind n (suc k) (x ∷ h) e at own =
    let here : Placed = record { place = n; entry = x } in
    let more : 1 ≤ owns kind (n + 1 + k) (placed_from (n + 1) h) = owns-history kind (n + 1) k h e at own in
    let up : n + 1 + k ≡ n + suc k = omega arith in
    let moved : 1 ≤ owns kind (n + suc k) (placed_from (n + 1) h) = subst (λ (p : ℕ). 1 ≤ owns kind p (placed_from (n + 1) h)) up more in
    omega (arith, moved, owns-cons kind (n + suc k) here (placed_from (n + 1) h))

-- ---- lists of one caller
abbrev pub AreOf : ℕ → List Placed → Type 0
AreOf caller list = AllByRecursion (λ e. caller_of e.entry.call ≡ caller) list

-- the lists of the callers from this number on
abbrev pub AreCallers : ℕ → List (List Placed) → Type 0
AreCallers n [] = Unit {0}
AreCallers n (list ∷ lists) = AreOf n list × AreCallers (n + 1) lists

-- calls of the kind are this caller's
abbrev pub IsKindOf : (Call → Bool) → ℕ → Type 0
IsKindOf kind caller = (call : Call) → kind call ≡ true → caller_of call ≡ caller

-- another caller has none of the kind
owns-other : (kind : Call → Bool) (p caller other : ℕ) (list : List Placed) → IsKindOf kind caller → AreOf other list → other ≢ caller
    → owns kind p list ≡ 0
owns-other kind p caller other [] of are ne = refl
owns-other kind p caller other (e ∷ list) of are ne = by-test (kind e.entry.call) refl (owns-other kind p caller other list of are.1 ne) where
  by-test : (b : Bool) → kind e.entry.call ≡ b → owns kind p list ≡ 0 → owns kind p (e ∷ list) ≡ 0
  by-test true t rest = absurd (ne (sym are.0 ∙ of e.entry.call t))
  by-test false f rest = omega (arith, other-kind kind p e f, owns-cons kind p e list, rest)

owns-above : (kind : Call → Bool) (p caller n : ℕ) (lists : List (List Placed)) → IsKindOf kind caller → AreCallers n lists → caller < n
    → owns kind p (all lists) ≡ 0
owns-above kind p caller n [] of are lt = refl
owns-above kind p caller n (list ∷ lists) of are lt =
    let other : n ≢ caller = λ is. absurd (omega (arith, lt, is)) in
    omega (
      arith,
      owns-append kind p list (all lists),
      owns-other kind p caller n list of are.0 other,
      owns-above kind p caller (n + 1) lists of are.1 (omega (arith, lt)),
    )

-- so all of the kind are in the caller's list
owns-all : (kind : Call → Bool) (p n c : ℕ) (lists : List (List Placed)) (list : List Placed) → IsKindOf kind (n + c) → AreCallers n lists
    → slice_get lists c ≡ Some list → owns kind p (all lists) ≡ owns kind p list
owns-all kind p n c [] list of are at = absurd (not-some list at)
owns-all kind p n zero (l ∷ lists) list of are at =
    let is : l ≡ list = cc in
    let same : owns kind p l ≡ owns kind p list = ap (owns kind p) is in
    omega (arith, same, owns-append kind p l (all lists), owns-above kind p (n + 0) (n + 1) lists of are.1 (omega arith))
owns-all kind p n (suc c) (l ∷ lists) list of are at =
    let up : n + suc c ≡ n + 1 + c = omega arith in
    let more : owns kind p (all lists) ≡ owns kind p list = owns-all kind p (n + 1) c lists list (subst (λ (q : ℕ). IsKindOf kind q) up of) are.1 at in
    let other : n ≢ n + suc c = λ is. absurd (omega (arith, is)) in
    omega (arith, more, owns-append kind p l (all lists), owns-other kind p (n + suc c) n l of are.0 other)

-- ---- a list has none at a place that isn't among its places
pub owns-low : (kind : Call → Bool) (p n : ℕ) (list : List Placed) → AreLow n list → n ≤ p → owns kind p list ≡ 0
owns-low kind p n [] low le = refl
owns-low kind p n (e ∷ list) low le =
    let f : eqb e.place p ≡ false = grind (arith, low.0, le) in
    omega (arith, none-here kind p e f, owns-cons kind p e list, owns-low kind p n list low.1 le)

pub owns-high : (kind : Call → Bool) (p n : ℕ) (list : List Placed) → AreHigh n list → p < n → owns kind p list ≡ 0
owns-high kind p n [] high lt = refl
owns-high kind p n (e ∷ list) high lt =
    let f : eqb e.place p ≡ false = grind (arith, high.0, lt) in
    omega (arith, none-here kind p e f, owns-cons kind p e list, owns-high kind p n list high.1 lt)

-- around an entry of another kind, or below the place
pub owns-around : (kind : Call → Bool) (p : ℕ) (front : List Placed) (x : Placed) (rest : List Placed) → owns kind p front ≡ 0
    → owns kind p (x ∷ []) ≡ 0 → owns kind p rest ≡ 0 → owns kind p (front ++ x ∷ rest) ≡ 0
owns-around kind p front x rest a b c = omega (arith, owns-append kind p front (x ∷ rest), owns-cons kind p x rest, a, b, c)

pub owns-kind : (kind : Call → Bool) (p : ℕ) (e : Placed) → kind e.entry.call ≡ false → owns kind p (e ∷ []) ≡ 0
owns-kind kind p e f = other-kind kind p e f

-- an entry of the history of a caller's kind stands in its list
pub own-stands : (run : Run) (kind : Call → Bool) (c k : ℕ) (list : List Placed) (e : Entry)
    → IsPermutation (all (callers run)) (placed_from 0 run.history) → AreCallers 0 (callers run) → IsKindOf kind c
    → slice_get (callers run) c ≡ Some list → slice_get run.history k ≡ Some e → kind e.call ≡ true → 1 ≤ owns kind k list
own-stands run kind c k list e merged are of at here own =
    let some : 1 ≤ owns kind (0 + k) (placed_from 0 run.history) = owns-history kind 0 k run.history e here own in
    let zeroed : 0 + k ≡ k = omega arith in
    let there : 1 ≤ owns kind k (placed_from 0 run.history) = subst (λ (p : ℕ). 1 ≤ owns kind p (placed_from 0 run.history)) zeroed some in
    let same : owns kind k (placed_from 0 run.history) ≡ owns kind k (all (callers run)) =
    sum_by-IsPermutation (λ e. cond (eqb e.place k && kind e.entry.call) 1 0) (all (callers run)) (placed_from 0 run.history) merged in
    let mine : owns kind k (all (callers run)) ≡ owns kind k list =
    owns-all kind k 0 c (callers run) list (subst (λ (q : ℕ). IsKindOf kind q) (up c) of) are at in
    omega (arith, there, same, mine) where
      up : (c : ℕ) → c ≡ 0 + c
      up c = omega arith
