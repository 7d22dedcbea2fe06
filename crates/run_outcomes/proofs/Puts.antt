-- Pieces that a sink takes, one after another.
use Rattle.std.proofs.Common.{◌≡◌, ◌≤◌, ℕ, ◌+◌, min, List, ◌++◌, length, take, Option, Some, None, Result, Ok, Err, sym, ap, ◌∙◌, append_assoc, arith}
use Rattle.std.proofs.lemmas.List.{take-append-le, take_min}
use Rattle.std.proofs.Math.Seq.{take-append-add}
use Rattle.run_outside.specs.declared.outside.SinkFault.{SinkFault}
use Rattle.run_outside.specs.Outside.{Takes, SinkTakes}

take-longer : (n : ℕ) (xs ys : List ℕ) → take (min n (length xs)) (xs ++ ys) ≡ take n xs
take-longer n xs ys =
    let le : min n (length xs) ≤ length xs = omega arith in
    take-append-le (min n (length xs)) xs ys le ∙ take_min n xs

-- a front of the first piece is a front of both
pub takes_front : (old new : Option (List ℕ)) (a b : List ℕ) (e : SinkFault)
    → SinkTakes old new a (Err e) → SinkTakes old new (a ++ b) (Err e)
takes_front None new a b e t = tt
takes_front (Some old) None a b e t = absurd t
takes_front (Some old) (Some new) a b e t = (
  min t.0 (length a),
  t.1
      ∙ ap (λ (x : List ℕ). old ++ x) (sym (take-longer t.0 a b)),
)

both_taken : (old mid new a b : List ℕ) (r : Result (Unit {0}) SinkFault) → mid ≡ old ++ a
    → Takes mid new b r → Takes old new (a ++ b) r
both_taken old mid new a b (Ok u) e t = t ∙ ap (λ (x : List ℕ). x ++ b) e ∙ append_assoc old a b
both_taken old mid new a b (Err f) e t = (
  length a + t.0,
  t.1 ∙ ap (λ (x : List ℕ). x ++ take t.0 b) e ∙ append_assoc old a (take t.0 b)
      ∙ ap (λ (x : List ℕ). old ++ x) (sym (take-append-add a b t.0)),
)

-- the second piece after the first
pub takes_both : (old mid new : Option (List ℕ)) (a b : List ℕ) (r : Result (Unit {0}) SinkFault)
    → SinkTakes old mid a (Ok tt) → SinkTakes mid new b r → SinkTakes old new (a ++ b) r
takes_both None mid new a b r s t = tt
takes_both (Some old) None new a b r s t = absurd s
takes_both (Some old) (Some mid) None a b r s t = absurd t
takes_both (Some old) (Some mid) (Some new) a b r s t = both_taken old mid new a b r s t
