-- Between two calls of a caller's list nothing comes that only its own calls change.
use Rattle.std.proofs.Common.{◌≡◌, ◌≤◌, ◌<◌, ℕ, suc, ◌+◌, Bool, true, false, List, [], ◌∷◌, ◌++◌, length, Some, slice_get, refl, sym, ap, ◌∙◌, arith}
use Rattle.tree_target.specs.Model.{Call, Entry, Target}
use Rattle.run_transcript.specs.Runs.{Placed, Run, IsRising, IsOrdered, callers, target_at, target_after_all}
use Rattle.run_transcript.specs.Served.{IsServed}
use Rattle.run_verdicts.proofs.Laying.{AreLow, AreHigh}
use Rattle.run_verdicts.proofs.Serving.{one-list, cut-at}
use Rattle.served_runs.proofs.Own.{owns, IsKindOf, own-stands, owns-low, owns-high, owns-around, owns-kind}
use Rattle.served_runs.proofs.Between.{NoneOf, Leaves, stays, last-target}
use Rattle.served_runs.proofs.Callers.{callers-own}

-- a caller's list, in which all entries of a kind stand
pub record Own (run : Run) (kind : Call → Bool) (whole : List Placed) : Type 0 where
  pub rising : IsRising whole
  pub stands : (k : ℕ) (e : Entry) → slice_get run.history k ≡ Some e → kind e.call ≡ true → 1 ≤ owns kind k whole

pub own-list : (run : Run) (kind : Call → Bool) (c : ℕ) (list : List Placed) → IsOrdered run → IsServed run → IsKindOf kind c
    → slice_get (callers run) c ≡ Some list → Own run kind list
own-list run kind c list ordered served of at = record {
  rising = one-list IsRising (callers run) c list ordered.rising at;
  stands = λ k e here own. own-stands run kind c k list e ordered.merged (callers-own run served) of at here own;
}

-- the target that the next entry of a list finds; behind the last, that after all
abbrev pub here : Run → List Placed → Target
here run [] = target_after_all run
here run (x ∷ list) = target_at run x.place

-- the place that the next entry has; behind the last, one past all places
abbrev until : Run → Placed → List Placed → ℕ
until run x [] = suc x.place + length run.history
until run x (y ∷ list) = y.place

high-from : (n m : ℕ) (list : List Placed) → m ≤ n → AreHigh n list → AreHigh m list
high-from n m [] le h = tt
high-from n m (e ∷ list) le h = (omega (arith, h.0, le), high-from n m list le h.1)

record Cut (run : Run) (x : Placed) (front rest : List Placed) : Type 0 where
  pub low : AreLow x.place front
  pub above : x.place < until run x rest
  pub high : (k : ℕ) (kind : Call → Bool) → k < until run x rest → owns kind k rest ≡ 0

cut : (run : Run) (whole front : List Placed) (x : Placed) (rest : List Placed) → IsRising whole → whole ≡ front ++ x ∷ rest → Cut run x front rest
cut run whole front x [] rising is = record {
  low = (cut-at whole front x [] rising is).low;
  above = omega arith;
  high = λ k kind lt. refl;
}
cut run whole front x (y ∷ rest) rising is =
    let one = cut-at whole front x (y ∷ rest) rising is in
    let again : whole ≡ (front ++ x ∷ []) ++ y ∷ rest = is ∙ sym (one-more front x (y ∷ rest)) in
    let two = cut-at whole (front ++ x ∷ []) y rest rising again in
    record {
      low = one.low;
      above = last-low front x two.low;
      high = λ k kind lt. owns-high kind k y.place (y ∷ rest) two.high lt;
    } where
      one-more : (front : List Placed) (x : Placed) (rest : List Placed) → (front ++ x ∷ []) ++ rest ≡ front ++ x ∷ rest
      one-more [] x rest = refl
      one-more (z ∷ front) x rest = ap (λ (l : List Placed). z ∷ l) (one-more front x rest)

      last-low : (front : List Placed) (x : Placed) → AreLow y.place (front ++ x ∷ []) → x.place < y.place
      last-low [] x low = low.0
      last-low (z ∷ front) x low = last-low front x low.1

found : (run : Run) {X : Type 0} (part : Target → X) (x : Placed) (rest : List Placed) → part (here run rest) ≡ part (target_at run (until run x rest))
found run part x [] = ap part (sym (last-target run (until run x []) (omega arith)))
found run part x (y ∷ rest) = refl

-- what other calls leave is behind an entry of another kind as it was before it
pub steady : {X : Type 0} (run : Run) (kind : Call → Bool) (part : Target → X) (whole front : List Placed) (x : Placed) (rest : List Placed)
    → Leaves kind part → Own run kind whole → whole ≡ front ++ x ∷ rest → kind x.entry.call ≡ false
    → part (here run rest) ≡ part (target_at run x.place)
steady run kind part whole front x rest leaves own is other =
    let c = cut run whole front x rest own.rising is in
    let none : NoneOf run kind x.place (until run x rest) = λ k e low high at. by-test k e low high at (kind e.call) refl in
    found run part x rest ∙ stays run kind part x.place (until run x rest) (omega (arith, c.above)) leaves none where
      by-test : (k : ℕ) (e : Entry) → x.place ≤ k → k < until run x rest → slice_get run.history k ≡ Some e
          → (b : Bool) → kind e.call ≡ b → kind e.call ≡ false
      by-test k e low high at true t =
          let c = cut run whole front x rest own.rising is in
          let some : 1 ≤ owns kind k whole = own.stands k e at t in
          let no : owns kind k (front ++ x ∷ rest) ≡ 0 =
          owns-around kind k front x rest (owns-low kind k x.place front c.low low) (owns-kind kind k x other) (c.high k kind high) in
          absurd (omega (arith, some, ap (owns kind k) is, no))
      by-test k e low high at false f = f

-- and what is right behind an entry stays up to the next
pub steady-behind : {X : Type 0} (run : Run) (kind : Call → Bool) (part : Target → X) (whole front : List Placed) (x : Placed) (rest : List Placed)
    → Leaves kind part → Own run kind whole → whole ≡ front ++ x ∷ rest
    → part (here run rest) ≡ part (target_at run (x.place + 1))
steady-behind run kind part whole front x rest leaves own is =
    let c = cut run whole front x rest own.rising is in
    let none : NoneOf run kind (x.place + 1) (until run x rest) = λ k e low high at. by-test k e low high at (kind e.call) refl in
    found run part x rest ∙ stays run kind part (x.place + 1) (until run x rest) (omega (arith, c.above)) leaves none where
      by-test : (k : ℕ) (e : Entry) → x.place + 1 ≤ k → k < until run x rest → slice_get run.history k ≡ Some e
          → (b : Bool) → kind e.call ≡ b → kind e.call ≡ false
      by-test k e low high at true t =
          let c = cut run whole front x rest own.rising is in
          let some : 1 ≤ owns kind k whole = own.stands k e at t in
          let alone : owns kind k (x ∷ []) ≡ 0 = owns-low kind k (x.place + 1) (x ∷ []) (omega arith, tt) low in
          let no : owns kind k (front ++ x ∷ rest) ≡ 0 =
          owns-around kind k front x rest (owns-low kind k x.place front c.low (omega (arith, low))) alone (c.high k kind high) in
          absurd (omega (arith, some, ap (owns kind k) is, no))
      by-test k e low high at false f = f
