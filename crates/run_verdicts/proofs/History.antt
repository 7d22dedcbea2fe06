-- The history of lists whose places are the numbers below n, each once.
use Rattle.std.proofs.Common.{◌≡◌, ◌≢◌, ◌≤◌, ◌<◌, ℕ, zero, suc, ◌+◌, Bool, true, false, cond, not, IsTrue, eqb, ltb, List, [], ◌∷◌, ◌++◌, length, map, filter, take, Some, slice_get, refl, sym, ap, ap₂, subst, ◌∙◌, arith, true≢false, eq-eqb, eqb-true, ltb-true, ltb-false, length-append}
use Rattle.std.specs.List.Sorted.{IsPermutation}
use Rattle.std.proofs.lemmas.List.Sorted.{IsPermutation-refl, IsPermutation-trans, IsPermutation-append_left, IsPermutation-filter_both, IsPermutation-map, sum_by-IsPermutation}
use Rattle.tree_target.specs.Model.{Entry, Target}
use Rattle.tree_target.specs.Steps.{is_lawful, entry_of, target_after}
use Rattle.tree_target.specs.Legal.{IsLegal, after}
use Rattle.run_transcript.specs.Runs.{Placed, placed_from, calls_of}
use Rattle.run_verdicts.specs.Places.{wanted, ArePlaces}
use Rattle.run_verdicts.specs.Nexts.{places_of, below, in_places}
use Rattle.run_verdicts.proofs.Laying.{all, stand, StandsAmong, find-among, at-place, wanted-yes, wanted-no, stand-cons, stand-one, not-some}

-- the one entry at a place below n
pub record IsAt (lists : List (List Placed)) (k : ℕ) : Type 0 where
  pub among : StandsAmong lists k
  pub alone : filter (λ e. eqb e.place k) (all lists) ≡ among.at.entry ∷ []

pub is-at : (n : ℕ) (lists : List (List Placed)) → ArePlaces n (places_of (all lists)) → (k : ℕ) → k < n → IsAt lists k
is-at n lists places k lt =
    let one : stand k (all lists) ≡ 1 = places k ∙ wanted-yes n k lt in
    let s : StandsAmong lists k = find-among k lists (omega (arith, one)) in
    record { among = s; alone = at-place lists k s.caller s.list s.at.front s.at.entry s.at.rest s.is_list s.at.is s.at.place (omega (arith, one)) }

more-history : (lists : List (List Placed)) (k : ℕ) (a : IsAt lists k) → in_places (suc k) (all lists) ≡ in_places k (all lists) ++ a.among.at.entry.entry ∷ []
more-history lists k a = rw a.alone refl

pub length-history : (n : ℕ) (lists : List (List Placed)) → ArePlaces n (places_of (all lists)) → (k : ℕ) → k ≤ n → length (in_places k (all lists)) ≡ k
length-history n lists places zero le = refl
length-history n lists places (suc k) le =
    let a = is-at n lists places k (omega (arith, le)) in
    let one : length (a.among.at.entry.entry ∷ []) ≡ 1 = refl in
    ap (λ (l : List Entry). length l) (more-history lists k a) ∙ omega (arith, length-append (in_places k (all lists)) (a.among.at.entry.entry ∷ []), length-history n lists places k (omega (arith, le)), one)

get-left : (xs ys : List Entry) (k : ℕ) → k < length xs → slice_get (xs ++ ys) k ≡ slice_get xs k
get-left [] ys k lt = absurd (omega (arith, lt))
get-left (x ∷ xs) ys zero lt = refl
get-left (x ∷ xs) ys (suc k) lt = get-left xs ys k (omega (arith, lt))

get-last : (xs : List Entry) (e : Entry) (k : ℕ) → k ≡ length xs → slice_get (xs ++ e ∷ []) k ≡ Some e
get-last [] e zero is = refl
get-last [] e (suc k) is = absurd (omega (arith, is))
get-last (x ∷ xs) e zero is = absurd (omega (arith, is))
get-last (x ∷ xs) e (suc k) is = get-last xs e k (omega (arith, is))

-- what stands at the place k is the entry k of the history
pub get-history : (n : ℕ) (lists : List (List Placed)) → ArePlaces n (places_of (all lists)) → (k : ℕ) (a : IsAt lists k) → (m : ℕ) → k < m → m ≤ n
    → slice_get (in_places m (all lists)) k ≡ Some a.among.at.entry.entry
get-history n lists places k a zero lt le = absurd (omega (arith, lt))
get-history n lists places k a (suc m) lt le = by-test (ltb k m) refl (λ low. get-history n lists places k a m low (omega (arith, le))) where
  b : IsAt lists m
  b = is-at n lists places m (omega (arith, le))

  len : length (in_places m (all lists)) ≡ m
  len = length-history n lists places m (omega (arith, le))

  by-test : (t : Bool) → ltb k m ≡ t → (k < m → slice_get (in_places m (all lists)) k ≡ Some a.among.at.entry.entry) → slice_get (in_places (suc m) (all lists)) k ≡ Some a.among.at.entry.entry
  by-test true t more =
      let low : k < m = ltb-true k m t in
      ap (λ (l : List Entry). slice_get l k) (more-history lists m b) ∙ get-left (in_places m (all lists)) _ k (omega (arith, low, len)) ∙ more low
  by-test false f more =
      let is : m ≡ k = omega (arith, ltb-false k m f, lt) in
      let here : in_places (suc m) (all lists) ≡ in_places m (all lists) ++ a.among.at.entry.entry ∷ [] =
      ap (λ (l : List Placed). in_places m (all lists) ++ map (λ e. e.entry) l) (ap (λ (j : ℕ). filter (λ e. eqb e.place j) (all lists)) is ∙ a.alone) in
      ap (λ (l : List Entry). slice_get l k) here ∙ get-last (in_places m (all lists)) a.among.at.entry.entry k (omega (arith, is, len))

-- ---- legal, entry by entry
pub record IsLegalEntry (t : Target) (e : Entry) : Type 0 where
  pub lawful : IsTrue (is_lawful t e.call)
  pub is : e ≡ entry_of t e.call

pub legal-from : (t : Target) (h : List Entry) → ((k : ℕ) (e : Entry) → slice_get h k ≡ Some e → IsLegalEntry (after t (calls_of (take k h))) e) → IsLegal t h
legal-from t [] each = tt
legal-from t (e ∷ h) each =
    let here : IsLegalEntry t e = each 0 e refl in
    (here.lawful, here.is, legal-from (target_after t e.call) h (λ k x at. each (suc k) x at))

pub legal-at : (t : Target) (h : List Entry) (k : ℕ) (e : Entry) → IsLegal t h → slice_get h k ≡ Some e → IsLegalEntry (after t (calls_of (take k h))) e
legal-at t [] k e legal at = absurd (not-some e at)
legal-at t (x ∷ h) zero e legal at =
    let is : x ≡ e = cc in subst (λ (y : Entry). IsLegalEntry t y) is (record { lawful = legal.0; is = legal.1 })
legal-at t (x ∷ h) (suc k) e legal at = legal-at (target_after t x.call) h k e legal.2 at

pub get-within : (h : List Entry) (k : ℕ) (e : Entry) → slice_get h k ≡ Some e → k < length h
get-within [] k e at = absurd (not-some e at)
get-within (x ∷ h) zero e at = omega arith
get-within (x ∷ h) (suc k) e at = omega (arith, get-within h k e at)

-- ---- merged
placed-append : (n : ℕ) (xs : List Entry) (e : Entry) → placed_from n (xs ++ e ∷ []) ≡ placed_from n xs ++ (record { place = n + length xs; entry = e }) ∷ []
placed-append n [] e = let z : n + 0 ≡ n = omega arith in rw z refl
placed-append n (x ∷ xs) e =
    let up : n + 1 + length xs ≡ n + suc (length xs) = omega arith in
    ap (λ (r : List Placed). (record { place = n; entry = x }) ∷ r) (placed-append (n + 1) xs e ∙ rw up refl)

same-placed : (e : Placed) (k : ℕ) → e.place ≡ k → e ≡ (record { place = k; entry = e.entry })
same-placed e k is = ap with_place is where
  with_place : ℕ → Placed
  with_place m = record { place = m; entry = e.entry }

lower : (m : ℕ) (list : List Placed) → filter (λ e. ltb e.place m) (below (suc m) list) ≡ below m list
lower m [] = refl
lower m (e ∷ list) = by-tests (ltb e.place (suc m)) (ltb e.place m) refl refl (lower m list) where
  by-tests : (a b : Bool) → ltb e.place (suc m) ≡ a → ltb e.place m ≡ b → filter (λ e. ltb e.place m) (below (suc m) list) ≡ below m list
      → filter (λ e. ltb e.place m) (below (suc m) (e ∷ list)) ≡ below m (e ∷ list)
  by-tests true true s t rest = rw (s, t) (ap (λ (l : List Placed). e ∷ l) rest)
  by-tests true false s t rest = rw (s, t) rest
  by-tests false true s t rest = absurd (omega (arith, ltb-false e.place (suc m) s, ltb-true e.place m t))
  by-tests false false s t rest = rw (s, t) rest

at-top : (m : ℕ) (list : List Placed) → filter (λ e. not (ltb e.place m)) (below (suc m) list) ≡ filter (λ e. eqb e.place m) list
at-top m [] = refl
at-top m (e ∷ list) = by-tests (ltb e.place (suc m)) (ltb e.place m) (eqb e.place m) refl refl refl (at-top m list) where
  by-tests : (a b d : Bool) → ltb e.place (suc m) ≡ a → ltb e.place m ≡ b → eqb e.place m ≡ d
      → filter (λ e. not (ltb e.place m)) (below (suc m) list) ≡ filter (λ e. eqb e.place m) list
      → filter (λ e. not (ltb e.place m)) (below (suc m) (e ∷ list)) ≡ filter (λ e. eqb e.place m) (e ∷ list)
  by-tests true true true s t q rest = absurd (omega (arith, ltb-true e.place m t, eqb-true e.place m q))
  by-tests true true false s t q rest = rw (s, t, q) rest
  by-tests true false true s t q rest = rw (s, t, q) (ap (λ (l : List Placed). e ∷ l) rest)
  by-tests true false false s t q rest =
      let is : e.place ≡ m = omega (arith, ltb-true e.place (suc m) s, ltb-false e.place m t) in
      absurd (true≢false (sym (eq-eqb e.place m is) ∙ q))
  by-tests false true d s t q rest = absurd (omega (arith, ltb-false e.place (suc m) s, ltb-true e.place m t))
  by-tests false false true s t q rest = absurd (omega (arith, ltb-false e.place (suc m) s, eqb-true e.place m q))
  by-tests false false false s t q rest = rw (s, q) rest

pub merged : (n : ℕ) (lists : List (List Placed)) → ArePlaces n (places_of (all lists)) → (m : ℕ) → m ≤ n → IsPermutation (below m (all lists)) (placed_from 0 (in_places m (all lists)))
merged n lists places zero le = subst (λ (l : List Placed). IsPermutation l []) (sym (nothing-below (all lists))) (IsPermutation-refl []) where
  nothing-below : (l : List Placed) → below 0 l ≡ []
  nothing-below [] = refl
  nothing-below (e ∷ l) = let f : ltb e.place 0 ≡ false = grind arith in rw f (nothing-below l)
merged n lists places (suc m) le =
    let list : List Placed = all lists in
    let a = is-at n lists places m (omega (arith, le)) in
    let e : Placed = a.among.at.entry in
    let len : length (in_places m list) ≡ m = length-history n lists places m (omega (arith, le)) in
    let parts : IsPermutation (below (suc m) list) (filter (λ e. ltb e.place m) (below (suc m) list) ++ filter (λ e. not (ltb e.place m)) (below (suc m) list)) =
    IsPermutation-filter_both (λ x. ltb x.place m) (λ x. not (ltb x.place m)) (λ x. refl) (below (suc m) list) in
    let cut : IsPermutation (below (suc m) list) (below m list ++ e ∷ []) =
    subst (λ (l : List Placed). IsPermutation (below (suc m) list) l) (ap₂ (λ (x y : List Placed). x ++ y) (lower m list) (at-top m list ∙ a.alone)) parts in
    let more : IsPermutation (below m list ++ e ∷ []) (placed_from 0 (in_places m list) ++ e ∷ []) =
    IsPermutation-append_left (e ∷ []) _ _ (merged n lists places m (omega (arith, le))) in
    let here : e ≡ (record { place = 0 + length (in_places m list); entry = e.entry }) = same-placed e _ (a.among.at.place ∙ omega (arith, len)) in
    let last : placed_from 0 (in_places m list) ++ e ∷ [] ≡ placed_from 0 (in_places (suc m) list) =
    ap (λ (x : Placed). placed_from 0 (in_places m list) ++ x ∷ []) here ∙ sym (placed-append 0 (in_places m list) e.entry) ∙ ap (placed_from 0) (sym (more-history lists m a)) in
    subst (λ (l : List Placed). IsPermutation (below (suc m) list) l) last (IsPermutation-trans _ _ _ cut more)

-- all stand below n
pub all-below : (n : ℕ) (list : List Placed) → ((p : ℕ) → n ≤ p → stand p list ≡ 0) → below n list ≡ list
all-below n [] none = refl
all-below n (e ∷ list) none = by-test (ltb e.place n) refl (all-below n list (λ p le. omega (arith, none p le, stand-cons p e list))) where
  by-test : (b : Bool) → ltb e.place n ≡ b → below n list ≡ list → below n (e ∷ list) ≡ e ∷ list
  by-test true t rest = rw (t, rest) refl
  by-test false f rest =
      let high : n ≤ e.place = ltb-false e.place n f in
      absurd (omega (arith, none e.place high, stand-cons e.place e list, stand-one e.place e refl))

-- ---- the places of a history
placed-low : (p n : ℕ) (h : List Entry) → p < n → stand p (placed_from n h) ≡ 0
placed-low p n [] lt = refl
placed-low p n (e ∷ h) lt =
    let x : Placed = record { place = n; entry = e } in
    let other : eqb n p ≡ false = grind (arith, lt) in
    let none : stand p (x ∷ []) ≡ 0 = rw other refl in
    omega (arith, stand-cons p x (placed_from (n + 1) h), none, placed-low p (n + 1) h (omega (arith, lt)))

placed-high : (p n : ℕ) (h : List Entry) → n + length h ≤ p → stand p (placed_from n h) ≡ 0
placed-high p n [] le = refl
placed-high p n (e ∷ h) le =
    let x : Placed = record { place = n; entry = e } in
    let other : eqb n p ≡ false = grind (arith, le) in
    let none : stand p (x ∷ []) ≡ 0 = rw other refl in
    omega (arith, stand-cons p x (placed_from (n + 1) h), none, placed-high p (n + 1) h (omega (arith, le)))

placed-in : (p n : ℕ) (h : List Entry) → n ≤ p → p < n + length h → stand p (placed_from n h) ≡ 1
placed-in p n [] le lt = absurd (omega (arith, le, lt))
placed-in p n (e ∷ h) le lt = by-test (eqb n p) refl (λ low. placed-in p (n + 1) h low (omega (arith, lt))) where
  x : Placed
  x = record { place = n; entry = e }

  by-test : (b : Bool) → eqb n p ≡ b → (n + 1 ≤ p → stand p (placed_from (n + 1) h) ≡ 1) → stand p (x ∷ placed_from (n + 1) h) ≡ 1
  by-test true t more =
      let is : n ≡ p = eqb-true n p t in
      omega (arith, stand-cons p x (placed_from (n + 1) h), stand-one p x is, placed-low p (n + 1) h (omega (arith, is)))
  by-test false f more =
      let other : n ≢ p = λ is. true≢false (sym (eq-eqb n p is) ∙ f) in
      let none : stand p (x ∷ []) ≡ 0 = rw f refl in
      omega (arith, stand-cons p x (placed_from (n + 1) h), none, more (omega (arith, other, le)))

pub are-places : (list : List Placed) (h : List Entry) → IsPermutation list (placed_from 0 h) → ArePlaces (length h) (places_of list)
are-places list h same p =
    let both : stand p (placed_from 0 h) ≡ stand p list =
    sum_by-IsPermutation (λ q. cond (eqb q p) 1 0) (places_of list) (places_of (placed_from 0 h)) (IsPermutation-map (λ (e : Placed). e.place) list (placed_from 0 h) same) in
    sym both ∙ by-test (ltb p (length h)) refl where
      by-test : (b : Bool) → ltb p (length h) ≡ b → stand p (placed_from 0 h) ≡ wanted (length h) p
      by-test true t =
          let lt : p < length h = ltb-true p (length h) t in
          placed-in p 0 h (omega arith) (omega (arith, lt)) ∙ sym (wanted-yes (length h) p lt)
      by-test false f =
          let le : length h ≤ p = ltb-false p (length h) f in
          placed-high p 0 h (omega (arith, le)) ∙ sym (wanted-no (length h) p le)
