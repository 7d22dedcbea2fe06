-- A list cut at the first element that passes a test.
use Rattle.std.proofs.Common.{◌≡◌, ◌<◌, ◌≤◌, ◌+◌, ℕ, Bool, true, cond, ltb, List, [], ◌∷◌, length, take, drop, Some, None, refl, subst, arith, inl, inr}
use Rattle.std.specs.Prelude.{position}
use Rattle.std.specs.List.{slice_split, position_or_len}
use Rattle.std.proofs.lemmas.Bool.{ltb-true, cases_Bool, cases_lt, lt-ltb}
use Rattle.std.proofs.lemmas.Option.{cond_some}
use Rattle.std.proofs.lemmas.List.Splits.{slice_split_first, slice_split-cons_no}

-- where an element passes: the parts, and that it stands inside
pub record IsCut (p : ℕ → Bool) (xs : List ℕ) (n : ℕ) : Type 0 where
  pub inside : n < length xs
  pub parts : slice_split p xs ≡ take n xs ∷ slice_split p (drop (n + 1) xs)

pub cut_some : (p : ℕ → Bool) (xs : List ℕ) (n : ℕ) → position p xs ≡ Some n → IsCut p xs n
cut_some p xs n e =
    let c = cond_some (ltb (position_or_len p xs) (length xs)) (position_or_len p xs) n e in
    let inside : position_or_len p xs < length xs = ltb-true (position_or_len p xs) (length xs) c.0
    in
    let here : IsCut p xs (position_or_len p xs) =
    record { inside = inside; parts = slice_split_first p xs 0 inside } in
    subst (λ k. IsCut p xs k) c.1 here

-- where none passes, one part
whole : (p : ℕ → Bool) (xs : List ℕ) → length xs ≤ position_or_len p xs → slice_split p xs ≡ xs ∷ []
whole p [] le = refl
whole p (x ∷ xs) le =
    elim (cases_Bool (p x)) [
      | inl passes ↦ let none : position_or_len p (x ∷ xs) ≡ 0 = rw passes refl in
          absurd (omega (arith, none))
      | inr fails ↦
          let more : position_or_len p (x ∷ xs) ≡ 1 + position_or_len p xs = rw fails refl in
          rw (slice_split-cons_no p x xs fails, whole p xs (omega (arith, more, le))) refl
    ]

pub cut_none : (p : ℕ → Bool) (xs : List ℕ) → position p xs ≡ None → slice_split p xs ≡ xs ∷ []
cut_none p xs e =
    elim (cases_lt (position_or_len p xs) (length xs)) [
      | inl lt ↦ let inside : ltb (position_or_len p xs) (length xs) ≡ true = lt-ltb _ _ lt in
          let some : Some (position_or_len p xs) ≡ None =
          subst (λ (t : Bool). cond t (Some (position_or_len p xs)) None ≡ None) inside e in
          absurd cc
      | inr le ↦ whole p xs le
    ]
