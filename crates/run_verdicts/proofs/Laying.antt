-- Several callers' lists, laid in the order of places.
use Rattle.std.proofs.Common.{◌≡◌, ◌≤◌, ◌<◌, ℕ, zero, suc, ◌+◌, Bool, true, false, cond, eqb, ltb, List, [], ◌∷◌, ◌++◌, filter, flat_map, Option, Some, None, slice_get, refl, sym, ap, ◌∙◌, true≢false, arith, eq-eqb, eqb-true, lt-ltb, ltb-true, ltb-false, is_some}
use Rattle.std.proofs.lemmas.List.{append-nil, map-append}
use Rattle.std.proofs.lemmas.List.Elements.{filter-append}
use Rattle.std.proofs.lemmas.List.Sums.{sum_by-append}
use Rattle.run_transcript.specs.Runs.{Placed}
use Rattle.run_verdicts.specs.Places.{times, wanted}
use Rattle.run_verdicts.specs.Nexts.{places_of, below, in_places}
use Rattle.run_verdicts.specs.Faults.{ComesNext}

abbrev pub all : List (List Placed) → List Placed
all lists = flat_map (λ list. list) lists

-- how often a place stands in a list
abbrev pub stand : ℕ → List Placed → ℕ
stand p list = times p (places_of list)

pub stand-append : (p : ℕ) (xs ys : List Placed) → stand p (xs ++ ys) ≡ stand p xs + stand p ys
stand-append p xs ys = rw map-append (sum_by-append (λ q. cond (eqb q p) 1 0) (places_of xs) (places_of ys))

pub stand-one : (p : ℕ) (e : Placed) → e.place ≡ p → stand p (e ∷ []) ≡ 1
stand-one p e is = let t : eqb e.place p ≡ true = eq-eqb e.place p is in rw t refl

stand-other : (p : ℕ) (e : Placed) → eqb e.place p ≡ false → stand p (e ∷ []) ≡ 0
stand-other p e f = rw f refl

pub stand-cons : (p : ℕ) (e : Placed) (ys : List Placed) → stand p (e ∷ ys) ≡ stand p (e ∷ []) + stand p ys
stand-cons p e ys = stand-append p (e ∷ []) ys

-- an entry of a list stands in it
pub stand-in : (p : ℕ) (front : List Placed) (e : Placed) (rest : List Placed) → e.place ≡ p
    → stand p (front ++ e ∷ rest) ≡ stand p front + (1 + stand p rest)
stand-in p front e rest is = omega (arith, stand-append p front (e ∷ rest), stand-cons p e rest, stand-one p e is)

pub not-some : {A : Type 0} (a : A) → ◌≡◌ {A = Option A} None (Some a) → ⊥
not-some a h = true≢false (sym (ap is_some h))

-- what stands in one list stands in all
pub one-of : (lists : List (List Placed)) (p c : ℕ) (l : List Placed) → slice_get lists c ≡ Some l
    → stand p l ≤ stand p (all lists)
one-of [] p c l h = absurd (not-some l h)
one-of (x ∷ lists) p zero l h = let is : x ≡ l = cc in rw is (omega (arith, stand-append p l (all lists)))
one-of (x ∷ lists) p (suc c) l h = omega (arith, stand-append p x (all lists), one-of lists p c l h)

-- a place that stands once stands in one list
pub one-caller : (lists : List (List Placed)) (p c q : ℕ) (lc lq : List Placed) → stand p (all lists) ≤ 1
    → slice_get lists c ≡ Some lc → slice_get lists q ≡ Some lq → 1 ≤ stand p lc → 1 ≤ stand p lq → c ≡ q
one-caller [] p c q lc lq once hc hq a b = absurd (not-some lc hc)
one-caller (x ∷ lists) p zero zero lc lq once hc hq a b = refl
one-caller (x ∷ lists) p zero (suc q) lc lq once hc hq a b =
    let is : x ≡ lc = cc in
    let same : stand p x ≡ stand p lc = ap (stand p) is in
    absurd (omega (arith, once, stand-append p x (all lists), same, a, b, one-of lists p q lq hq))
one-caller (x ∷ lists) p (suc c) zero lc lq once hc hq a b =
    let is : x ≡ lq = cc in
    let same : stand p x ≡ stand p lq = ap (stand p) is in
    absurd (omega (arith, once, stand-append p x (all lists), same, a, b, one-of lists p c lc hc))
one-caller (x ∷ lists) p (suc c) (suc q) lc lq once hc hq a b =
    ap (λ n. suc n) (one-caller lists p c q lc lq (omega (arith, once, stand-append p x (all lists))) hc hq a b)

-- ---- a place that stands once stands at one point of its list
pub record IsSame (f1 : List Placed) (e1 : Placed) (f2 : List Placed) (e2 : Placed) : Type 0 where
  pub fronts : f1 ≡ f2
  pub entries : e1 ≡ e2

head-is : (x y : Placed) (xs ys : List Placed) → x ∷ xs ≡ y ∷ ys → x ≡ y
head-is x y xs ys h = cc

tail-is : (x y : Placed) (xs ys : List Placed) → x ∷ xs ≡ y ∷ ys → xs ≡ ys
tail-is x y xs ys h = cc

pub one-point : (p : ℕ) (f1 : List Placed) (e1 : Placed) (r1 f2 : List Placed) (e2 : Placed) (r2 : List Placed)
    → f1 ++ e1 ∷ r1 ≡ f2 ++ e2 ∷ r2 → e1.place ≡ p → e2.place ≡ p → stand p (f1 ++ e1 ∷ r1) ≤ 1 → IsSame f1 e1 f2 e2
one-point p [] e1 r1 [] e2 r2 h a b once = record { fronts = refl; entries = head-is e1 e2 r1 r2 h }
one-point p [] e1 r1 (x ∷ f2) e2 r2 h a b once =
    let rest : r1 ≡ f2 ++ e2 ∷ r2 = tail-is e1 x r1 (f2 ++ e2 ∷ r2) h in
    absurd (omega (arith, once, stand-cons p e1 r1, stand-one p e1 a, ap (stand p) rest, stand-in p f2 e2 r2 b))
one-point p (x ∷ f1) e1 r1 [] e2 r2 h a b once =
    let is : x ≡ e2 = head-is x e2 (f1 ++ e1 ∷ r1) r2 h in
    let here : x.place ≡ p = ap (λ (y : Placed). y.place) is ∙ b in
    absurd (omega (arith, once, stand-cons p x (f1 ++ e1 ∷ r1), stand-one p x here, stand-in p f1 e1 r1 a))
one-point p (x ∷ f1) e1 r1 (y ∷ f2) e2 r2 h a b once =
    let is : x ≡ y = head-is x y (f1 ++ e1 ∷ r1) (f2 ++ e2 ∷ r2) h in
    let more = one-point p f1 e1 r1 f2 e2 r2 (tail-is x y _ _ h) a b (omega (arith, once, stand-cons p x (f1 ++ e1 ∷ r1))) in
    record { fronts = cc (is, more.fronts); entries = more.entries }

-- who comes next at a place is one
pub record IsOne (c q : ℕ) (lc lq : List Placed) (p : ℕ) (front : List Placed) (x e : Placed) : Type 0 where
  pub callers : c ≡ q
  pub lists : lc ≡ lq
  pub fronts : below p lc ≡ front
  pub entries : x ≡ e

list-of : (lists : List (List Placed)) (c q : ℕ) (lc lq : List Placed) → c ≡ q → slice_get lists c ≡ Some lc
    → slice_get lists q ≡ Some lq → lc ≡ lq
list-of lists c q lc lq same hc hq =
    let two : Some lc ≡ Some lq = sym hc ∙ ap (slice_get lists) same ∙ hq in cc

pub comes-only : (lists : List (List Placed)) (p c q : ℕ) (lc lq front : List Placed) (x e : Placed) (rest : List Placed)
    → stand p (all lists) ≤ 1 → slice_get lists c ≡ Some lc → slice_get lists q ≡ Some lq → lq ≡ front ++ e ∷ rest
    → e.place ≡ p → ComesNext lc p x → IsOne c q lc lq p front x e
comes-only lists p c q lc lq front x e rest once hc hq is place comes =
    let mine : 1 ≤ stand p lc = omega (arith, ap (stand p) comes.follows, stand-in p (below p lc) x comes.rest comes.place) in
    let stands : 1 ≤ stand p lq = omega (arith, ap (stand p) is, stand-in p front e rest place) in
    let same : c ≡ q = one-caller lists p c q lc lq once hc hq mine stands in
    let list : lc ≡ lq = list-of lists c q lc lq same hc hq in
    let both : below p lc ++ x ∷ comes.rest ≡ front ++ e ∷ rest = sym comes.follows ∙ list ∙ is in
    let few : stand p (below p lc ++ x ∷ comes.rest) ≤ 1 = omega (arith, once, one-of lists p c lc hc, ap (stand p) comes.follows) in
    let point = one-point p (below p lc) x comes.rest front e rest both comes.place place few in
    record { callers = same; lists = list; fronts = point.fronts; entries = point.entries }

-- ---- where a place stands
pub record StandsIn (list : List Placed) (p : ℕ) : Type 0 where
  pub front : List Placed
  pub entry : Placed
  pub rest : List Placed
  pub is : list ≡ front ++ entry ∷ rest
  pub place : entry.place ≡ p

pub find-in : (p : ℕ) (list : List Placed) → 1 ≤ stand p list → StandsIn list p
find-in p [] h = absurd (omega (arith, h))
find-in p (e ∷ list) h = by-test (eqb e.place p) refl (λ more. find-in p list more) where
  by-test : (b : Bool) → eqb e.place p ≡ b → (1 ≤ stand p list → StandsIn list p) → StandsIn (e ∷ list) p
  by-test true t more = record { front = []; entry = e; rest = list; is = refl; place = eqb-true e.place p t }
  by-test false f more =
      let s = more (omega (arith, h, stand-cons p e list, stand-other p e f)) in
      record { front = e ∷ s.front; entry = s.entry; rest = s.rest; is = ap (λ (l : List Placed). e ∷ l) s.is; place = s.place }

pub record StandsAmong (lists : List (List Placed)) (p : ℕ) : Type 0 where
  pub caller : ℕ
  pub list : List Placed
  pub is_list : slice_get lists caller ≡ Some list
  pub at : StandsIn list p

pub find-among : (p : ℕ) (lists : List (List Placed)) → 1 ≤ stand p (all lists) → StandsAmong lists p
find-among p [] h = absurd (omega (arith, h))
find-among p (l ∷ lists) h = by-test (ltb 0 (stand p l)) refl (λ more. find-among p lists more) where
  by-test : (b : Bool) → ltb 0 (stand p l) ≡ b → (1 ≤ stand p (all lists) → StandsAmong lists p) → StandsAmong (l ∷ lists) p
  by-test true t more = record { caller = 0; list = l; is_list = refl; at = find-in p l (omega (arith, ltb-true 0 (stand p l) t)) }
  by-test false f more =
      let s = more (omega (arith, h, stand-append p l (all lists), ltb-false 0 (stand p l) f)) in
      record { caller = suc s.caller; list = s.list; is_list = s.is_list; at = s.at }

-- ---- what is below a place
abbrev pub AreLow : ℕ → List Placed → Type 0
AreLow n [] = Unit {0}
AreLow n (e ∷ list) = (e.place < n) × AreLow n list

abbrev pub AreHigh : ℕ → List Placed → Type 0
AreHigh n [] = Unit {0}
AreHigh n (e ∷ list) = (n ≤ e.place) × AreHigh n list

pub below-low : (i : ℕ) (list : List Placed) → AreLow i list → below i list ≡ list
below-low i [] low = refl
below-low i (e ∷ list) low = let t : ltb e.place i ≡ true = lt-ltb e.place i low.0 in rw (t, below-low i list low.1) refl

pub below-high : (i : ℕ) (list : List Placed) → AreHigh i list → below i list ≡ []
below-high i [] high = refl
below-high i (e ∷ list) high = let f : ltb e.place i ≡ false = grind (arith, high.0) in rw (f, below-high i list high.1) refl

pub below-is : (i : ℕ) (front rest : List Placed) → AreLow i front → AreHigh i rest → below i (front ++ rest) ≡ front
below-is i front rest low high = rw (filter-append, below-low i front low, below-high i rest high) (append-nil front)

pub low-below : (i : ℕ) (list : List Placed) → AreLow i (below i list)
low-below i [] = tt
low-below i (e ∷ list) = by-test (ltb e.place i) refl (low-below i list) where
  by-test : (b : Bool) → ltb e.place i ≡ b → AreLow i (below i list) → AreLow i (below i (e ∷ list))
  by-test true t more = rw t (ltb-true e.place i t, more)
  by-test false f more = rw f more

pub low-last : (i : ℕ) (front : List Placed) (x : Placed) → AreLow i (front ++ x ∷ []) → x.place < i
low-last i [] x low = low.0
low-last i (y ∷ front) x low = low-last i front x low.1

-- ---- the history
pub at-none : (i : ℕ) (list : List Placed) → stand i list ≡ 0 → filter (λ e. eqb e.place i) list ≡ []
at-none i [] none = refl
at-none i (e ∷ list) none = by-test (eqb e.place i) refl (at-none i list (omega (arith, none, stand-cons i e list))) where
  by-test : (b : Bool) → eqb e.place i ≡ b → filter (λ e. eqb e.place i) list ≡ [] → filter (λ e. eqb e.place i) (e ∷ list) ≡ []
  by-test true t rest = absurd (omega (arith, none, stand-cons i e list, stand-one i e (eqb-true e.place i t)))
  by-test false f rest = rw f rest

at-one : (i : ℕ) (front : List Placed) (e : Placed) (rest : List Placed) → e.place ≡ i → stand i (front ++ e ∷ rest) ≤ 1
    → filter (λ e. eqb e.place i) (front ++ e ∷ rest) ≡ e ∷ []
at-one i front e rest is once =
    let sum = stand-in i front e rest is in
    let t : eqb e.place i ≡ true = eq-eqb e.place i is in
    rw (filter-append, at-none i front (omega (arith, sum, once)), t, at-none i rest (omega (arith, sum, once))) refl

-- the one entry at a place, wherever its list is
pub at-place : (lists : List (List Placed)) (i q : ℕ) (list front : List Placed) (e : Placed) (rest : List Placed)
    → slice_get lists q ≡ Some list → list ≡ front ++ e ∷ rest → e.place ≡ i → stand i (all lists) ≤ 1
    → filter (λ e. eqb e.place i) (all lists) ≡ e ∷ []
at-place [] i q list front e rest h is place once = absurd (not-some list h)
at-place (x ∷ lists) i zero list front e rest h is place once =
    let same : x ≡ list = cc in
    let cut : x ≡ front ++ e ∷ rest = same ∙ is in
    let sums : stand i x ≡ stand i front + (1 + stand i rest) = ap (stand i) cut ∙ stand-in i front e rest place in
    let other : stand i (all lists) ≡ 0 = omega (arith, once, stand-append i x (all lists), sums) in
    let mine : stand i (front ++ e ∷ rest) ≤ 1 = omega (arith, once, stand-append i x (all lists), ap (stand i) cut) in
    rw (filter-append, at-none i (all lists) other, cut, at-one i front e rest place mine) refl
at-place (x ∷ lists) i (suc q) list front e rest h is place once =
    let one = one-of lists i q list h in
    let sums : stand i list ≡ stand i front + (1 + stand i rest) = ap (stand i) is ∙ stand-in i front e rest place in
    let none : stand i x ≡ 0 = omega (arith, once, stand-append i x (all lists), one, sums) in
    rw (filter-append, at-none i x none) (at-place lists i q list front e rest h is place (omega (arith, once, stand-append i x (all lists))))

pub history-more : (lists : List (List Placed)) (i q : ℕ) (list front : List Placed) (e : Placed) (rest : List Placed)
    → slice_get lists q ≡ Some list → list ≡ front ++ e ∷ rest → e.place ≡ i → stand i (all lists) ≤ 1
    → in_places (suc i) (all lists) ≡ in_places i (all lists) ++ e.entry ∷ []
history-more lists i q list front e rest h is place once = rw (at-place lists i q list front e rest h is place once) refl

pub wanted-yes : (n p : ℕ) → p < n → wanted n p ≡ 1
wanted-yes n p h = grind arith

pub wanted-no : (n p : ℕ) → n ≤ p → wanted n p ≡ 0
wanted-no n p h = grind arith

pub wanted-most : (n p : ℕ) → wanted n p ≤ 1
wanted-most n p = grind arith
