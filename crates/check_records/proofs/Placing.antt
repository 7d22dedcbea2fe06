-- Places that ascend, counted.
use Rattle.std.proofs.Common.{◌≡◌, ◌≤◌, ◌<◌, ◌+◌, ℕ, zero, suc, Bool, true, false, cond, eqb, ltb, List, [], ◌∷◌, ◌++◌, length, get_or, take, drop, refl, sym, ap, ◌∙◌, arith, take-append-drop, drop-cons, length-drop, take-suc, get_or-drop, inl, inr, ◌⊎◌}
use Rattle.std.proofs.lemmas.List.Sums.{sum_by-append}
use Rattle.std.proofs.lemmas.List.{drop_all}
use Rattle.std.proofs.Common.{eq-eqb, ltb-true, ltb-false}
use Rattle.std.specs.List.Sorted.{IsNonDecreasing}
use Rattle.run_verdicts.specs.Places.{times, wanted, IsBadPlace, ArePlaces, IsLowest}

lt-or-le : (k i : ℕ) → (k < i) ⊎ (i ≤ k)
lt-or-le k i = by-test (ltb k i) refl where
  by-test : (b : Bool) → ltb k i ≡ b → (k < i) ⊎ (i ≤ k)
  by-test true e = inl (ltb-true k i e)
  by-test false e = inr (ltb-false k i e)

-- the first i places are the numbers below i
abbrev pub AreFirst : List ℕ → ℕ → Type 0
AreFirst xs i = (k : ℕ) → k < i → get_or xs k 0 ≡ k

pub wanted-yes : (n p : ℕ) → p < n → wanted n p ≡ 1
wanted-yes n p h = grind arith

pub wanted-no : (n p : ℕ) → n ≤ p → wanted n p ≡ 0
wanted-no n p h = grind arith

wanted-suc : (i p : ℕ) → wanted i p + cond (eqb i p) 1 0 ≡ wanted (suc i) p
wanted-suc i p = grind arith

one : (p x : ℕ) → times p (x ∷ []) ≡ cond (eqb x p) 1 0
one p x = grind arith

-- among the first i each number below i stands once
firsts : (xs : List ℕ) (i p : ℕ) → i ≤ length xs → AreFirst xs i → times p (take i xs) ≡ wanted i p
firsts xs zero p h first = sym (wanted-no zero p (omega arith))
firsts xs (suc i) p h first =
    let so_far : times p (take i xs) ≡ wanted i p = firsts xs i p (omega arith) (λ k lt. first k (omega arith)) in
    let last : get_or xs i 0 ≡ i = first i (omega arith) in
    let cut : take (suc i) xs ≡ take i xs ++ (i ∷ []) = rw (take-suc xs i 0 (omega arith), last) refl in
    ap (times p) cut ∙ sum_by-append (λ q. cond (eqb q p) 1 0) (take i xs) (i ∷ []) ∙ rw (so_far, one p i) (wanted-suc i p)

-- elements that are above the number looked for
none : (xs : List ℕ) (low p : ℕ) → ((j : ℕ) → j < length xs → low ≤ get_or xs j 0) → p < low → times p xs ≡ 0
none [] low p all h = refl
none (x ∷ xs) low p all h =
    let here : low ≤ x = all 0 (omega arith) in
    let rest : times p xs ≡ 0 = none xs low p (λ j lt. all (suc j) (omega arith)) h in
    grind (arith, here, rest)

counts : (xs : List ℕ) (i p : ℕ) → i ≤ length xs → AreFirst xs i → times p xs ≡ wanted i p + times p (drop i xs)
counts xs i p h first =
    ap (times p) (sym (take-append-drop i xs)) ∙ sum_by-append (λ q. cond (eqb q p) 1 0) (take i xs) (drop i xs) ∙ rw (firsts xs i p h first) refl

later : (xs : List ℕ) (i p : ℕ) → IsNonDecreasing xs → i < length xs → p < get_or xs i 0 → times p (drop i xs) ≡ 0
later xs i p sorted lt h =
    none (drop i xs) (get_or xs i 0) p (λ j below. rw (get_or-drop i xs j 0) (sorted i (i + j) 0 (omega arith) (omega (arith, length-drop i xs)))) h

pub here : (xs : List ℕ) (i : ℕ) → i < length xs → 1 ≤ times (get_or xs i 0) (drop i xs)
here xs i lt = rw (drop-cons xs i 0 lt) (first-counts (get_or xs i 0) (drop (suc i) xs)) where
  first-counts : (x : ℕ) (ys : List ℕ) → 1 ≤ times x (x ∷ ys)
  first-counts x ys =
      let same : eqb x x ≡ true = eq-eqb x x refl in
      let one_more : times x (x ∷ ys) ≡ 1 + times x ys = sum_by-append (λ q. cond (eqb q x) 1 0) (x ∷ []) ys ∙ rw (one x x, same) refl in
      omega (arith, one_more)

here-is : (xs : List ℕ) (i p : ℕ) → i < length xs → p ≡ get_or xs i 0 → 1 ≤ times p (drop i xs)
here-is xs i p lt is = rw is (here xs i lt)

-- below the next place each number that was passed is right
right-below : (xs : List ℕ) (n i k : ℕ) → IsNonDecreasing xs → AreFirst xs i → i < length xs → i ≤ n → k < i → k < get_or xs i 0 → times k xs ≡ wanted n k
right-below xs n i k sorted first lt le low under =
    omega (arith, counts xs i k (omega arith) first, later xs i k sorted lt under, wanted-yes i k low, wanted-yes n k (omega arith))

pub doubled : (xs : List ℕ) (n i p : ℕ) → IsNonDecreasing xs → AreFirst xs i → i < length xs → i ≤ n → p ≡ get_or xs i 0 → p < i → IsLowest (IsBadPlace n xs) p
doubled xs n i p sorted first lt le is low = record {
  here = λ same. omega (arith, same, counts xs i p (omega arith) first, here-is xs i p lt is, wanted-yes i p low, wanted-yes n p (omega arith));
  none_below = λ k below bad. bad (right-below xs n i k sorted first lt le (omega arith) (omega arith));
}

pub missing : (xs : List ℕ) (n i : ℕ) → IsNonDecreasing xs → AreFirst xs i → i < length xs → i < n → i < get_or xs i 0 → IsLowest (IsBadPlace n xs) i
missing xs n i sorted first lt le low = record {
  here = λ same. omega (arith, same, counts xs i i (omega arith) first, later xs i i sorted lt low, wanted-no i i (omega arith), wanted-yes n i le);
  none_below = λ k below bad. bad (right-below xs n i k sorted first lt (omega arith) below (omega arith));
}

pub outside : (xs : List ℕ) (n i p : ℕ) → IsNonDecreasing xs → AreFirst xs i → i < length xs → i ≡ n → p ≡ get_or xs i 0 → i ≤ p → IsLowest (IsBadPlace n xs) p
outside xs n i p sorted first lt le is high = record {
  here = λ same. omega (arith, same, counts xs i p (omega arith) first, here-is xs i p lt is, wanted-no n p (omega arith));
  none_below = λ k below bad. elim (lt-or-le k i) [ inl low ↦ bad (right-below xs n i k sorted first lt (omega arith) low (omega arith)) | inr up ↦ bad (omega (arith, counts xs i k (omega arith) first, later xs i k sorted lt (omega arith), wanted-no i k up, wanted-no n k (omega arith))) ];
}

pub short : (xs : List ℕ) (n i : ℕ) → AreFirst xs i → i ≡ length xs → i < n → IsLowest (IsBadPlace n xs) i
short xs n i first len low = record {
  here = λ same. omega (arith, same, all i, wanted-no i i (omega arith), wanted-yes n i low);
  none_below = λ k below bad. bad (omega (arith, all k, wanted-yes i k below, wanted-yes n k (omega arith)));
} where
  all : (k : ℕ) → times k xs ≡ wanted i k
  all k = omega (arith, counts xs i k (omega arith) first, ap (times k) (drop_all i xs (omega arith)))

pub right : (xs : List ℕ) (n i : ℕ) → AreFirst xs i → i ≡ length xs → i ≡ n → ArePlaces n xs
right xs n i first len is p = omega (arith, counts xs i p (omega arith) first, wanted-same p, ap (times p) (drop_all i xs (omega arith))) where
  wanted-same : (p : ℕ) → wanted i p ≡ wanted n p
  wanted-same p = rw is refl
