-- A piece of a list some of whose elements were replaced.
use Rattle.std.proofs.Common.{◌≡◌, ◌≤◌, ◌<◌, ◌⊎◌, inl, inr, ℕ, ◌+◌, ◌-◌, min, max, List, ◌++◌, length, take, drop, get_or, refl, sym, ◌∙◌, arith}
use Rattle.std.proofs.lemmas.Bool.{cases_lt}
use Rattle.std.proofs.lemmas.Grind.{common_steps}
use Rattle.std.proofs.lemmas.List.{ext_get_or}

-- the list with these in the place of those from a on
abbrev pub spliced : {X : Type 0} → List X → ℕ → List X → List X
spliced xs a ys = take a xs ++ (ys ++ drop (a + length ys) xs)

spliced-before : {X : Type 0} (d : X) (xs ys : List X) (a i : ℕ) → a + length ys ≤ length xs → i < a → get_or (spliced xs a ys) i d ≡ get_or xs i d
spliced-before d xs ys a i inside h = grind (arith, common_steps)

spliced-within : {X : Type 0} (d : X) (xs ys : List X) (a i : ℕ) → a + length ys ≤ length xs → a ≤ i → i < a + length ys → get_or (spliced xs a ys) i d ≡ get_or ys (i - a) d
spliced-within d xs ys a i inside h g = grind (arith, common_steps)

spliced-after : {X : Type 0} (d : X) (xs ys : List X) (a i : ℕ) → a + length ys ≤ length xs → a + length ys ≤ i → get_or (spliced xs a ys) i d ≡ get_or xs i d
spliced-after d xs ys a i inside h = grind (arith, common_steps)

-- an element of it
pub at-spliced : {X : Type 0} (d : X) (xs ys : List X) (a i : ℕ) → a + length ys ≤ length xs →
    ((i < a) × (get_or (spliced xs a ys) i d ≡ get_or xs i d)) ⊎ (((a ≤ i) × (i < a + length ys) × (get_or (spliced xs a ys) i d ≡ get_or ys (i - a) d))
    ⊎ ((a + length ys ≤ i) × (get_or (spliced xs a ys) i d ≡ get_or xs i d)))
at-spliced d xs ys a i inside =
    elim (cases_lt i a) [
      | inl h ↦ inl (h, spliced-before d xs ys a i inside h)
      | inr h ↦ elim (cases_lt i (a + length ys)) [
        | inl g ↦ inr (inl (h, g, spliced-within d xs ys a i inside h g))
        | inr g ↦ inr (inr (g, spliced-after d xs ys a i inside g))
      ]
    ]

pub length-spliced : {X : Type 0} (xs ys : List X) (a : ℕ) → a + length ys ≤ length xs → length (spliced xs a ys) ≡ length xs
length-spliced xs ys a inside = grind (arith, common_steps)

pub length-piece : {X : Type 0} (xs : List X) (f n : ℕ) → f + n ≤ length xs → length (take n (drop f xs)) ≡ n
length-piece xs f n whole = grind (arith, common_steps)

-- an element of a piece
pub at-piece : {X : Type 0} (d : X) (xs : List X) (f n i : ℕ) → f + n ≤ length xs → i < n → get_or (take n (drop f xs)) i d ≡ get_or xs (f + i) d
at-piece d xs f n i whole lt = grind (arith, common_steps)

-- the piece lies apart from the replaced ones
pub piece-apart : {X : Type 0} (d : X) (xs ys : List X) (a f n : ℕ) → a + length ys ≤ length xs → f + n ≤ length xs → min (f + n) (a + length ys) ≤ max f a
    → take n (drop f (spliced xs a ys)) ≡ take n (drop f xs)
piece-apart d xs ys a f n inside whole apart =
    let long = length-spliced xs ys a inside in
    ext_get_or d _ _ (length-piece (spliced xs a ys) f n (omega arith) ∙ sym (length-piece xs f n whole)) (λ i lt.
    let small : i < n = omega (arith, length-piece (spliced xs a ys) f n (omega arith)) in
    at-piece d (spliced xs a ys) f n i (omega arith) small ∙
    elim (at-spliced d xs ys a (f + i) inside) [
      | inl at ↦ at.1 ∙ sym (at-piece d xs f n i whole small)
      | inr r ↦ elim r [
        | inl at ↦ absurd (omega arith)
        | inr at ↦ at.1 ∙ sym (at-piece d xs f n i whole small)
      ]
    ])

-- an element of a piece that meets the replaced ones
met-at : {X : Type 0} (d : X) (xs ys old new : List X) (a f n from till i : ℕ) → a + length ys ≤ length xs → f + n ≤ length xs
    → from ≡ max f a → till ≡ min (f + n) (a + length ys) → from < till
    → old ≡ take n (drop f xs) → new ≡ take (till - from) (drop (from - a) ys) → length old ≡ n → length new ≡ till - from → i < n
    → get_or (spliced xs a ys) (f + i) d ≡ get_or (spliced old (from - f) new) i d
met-at d xs ys old new a f n from till i inside whole is_from is_till some old_is new_is size many lt =
    let fits : from - f + length new ≤ length old = omega arith in
    let here : get_or old i d ≡ get_or xs (f + i) d = rw old_is (at-piece d xs f n i whole lt) in
    elim (at-spliced d xs ys a (f + i) inside) [
      | inl at ↦ at.1 ∙ sym (spliced-before d old new (from - f) i fits (omega arith) ∙ here)
      | inr r ↦ elim r [
        | inl at ↦
            let k : ℕ = i - (from - f) in
            let inner : k < till - from = omega arith in
            let room : from - a + (till - from) ≤ length ys = omega arith in
            let index : from - a + k ≡ f + i - a = omega arith in
            let there : get_or new k d ≡ get_or ys (from - a + k) d = rw new_is (at-piece d ys (from - a) (till - from) k room inner) in
            at.2 ∙ sym (spliced-within d old new (from - f) i fits (omega arith) (omega arith) ∙ there ∙ rw index refl)
        | inr at ↦ at.1 ∙ sym (spliced-after d old new (from - f) i fits (omega arith) ∙ here)
      ]
    ]

-- the piece from f on, of n elements, meets those from `from` up to `till`
pub piece-met : {X : Type 0} (d : X) (xs ys : List X) (a f n from till : ℕ) → a + length ys ≤ length xs → f + n ≤ length xs
    → from ≡ max f a → till ≡ min (f + n) (a + length ys) → from < till
    → take n (drop f (spliced xs a ys)) ≡ spliced (take n (drop f xs)) (from - f) (take (till - from) (drop (from - a) ys))
piece-met {X = X} d xs ys a f n from till inside whole is_from is_till some =
    let long = length-spliced xs ys a inside in
    let new : List X = take (till - from) (drop (from - a) ys) in
    let old : List X = take n (drop f xs) in
    let many : length new ≡ till - from = length-piece ys (from - a) (till - from) (omega arith) in
    let size : length old ≡ n = length-piece xs f n whole in
    let left : length (take n (drop f (spliced xs a ys))) ≡ n = length-piece (spliced xs a ys) f n (omega arith) in
    let fits : from - f + length new ≤ length old = omega arith in
    ext_get_or d _ _ (left ∙ sym (length-spliced old new (from - f) fits ∙ size)) (λ i lt.
    let small : i < n = omega arith in
    at-piece d (spliced xs a ys) f n i (omega arith) small
    ∙ met-at d xs ys old new a f n from till i inside whole is_from is_till some refl refl size many small)
