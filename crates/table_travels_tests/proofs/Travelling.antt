-- Claims and entries that are sent and taken in.
use Rattle.std.proofs.Common.{◌≡◌, ◌≢◌, ℕ, zero, suc, ◌+◌, ◌<◌, ◌==◌, Bool, true, false, cond, List, [], ◌∷◌, ◌++◌, Option, Some, None, length, map, sym, refl, ap, ◌∙◌, subst, arith, eq-eqb, ne_eqb}
use Rattle.ref_state.specs.declared.kinds.Tag.{Tag}
use Rattle.ref_state.specs.declared.kinds.Take.TheVariants as take_of
use Rattle.ref_state.specs.declared.state.Entry.{Entry}
use Rattle.ref_state.specs.State.{total, one_if}
use Rattle.ref_state.specs.Steps.{first, without, listed, is_at}
use Rattle.table_rule.specs.declared.rule.Claim.{Claim}
use Rattle.table_rule.specs.declared.rule.Told.{Told}
use Rattle.table_rule.specs.Shown.{claims_of, extended, claims_but, claims_only, goes_with}
use Rattle.table_travels_tests.specs.Travels.{callers, IsNewest}

pub callers_extended : (t : Tag) (cs : List Claim) → callers (map (extended t) cs) ≡ callers cs
callers_extended t [] = refl
callers_extended t (c ∷ cs) = by_case (c.caller == t.caller) (callers_extended t cs)
  where
    by_case : (z : Bool) → callers (map (extended t) cs) ≡ callers cs
        → callers (cond z (record c { own = c.own ++ t ∷ [] }) c ∷ map (extended t) cs) ≡ c.caller ∷ callers cs
    by_case true r = ap (λ l. c.caller ∷ l) r
    by_case false r = ap (λ l. c.caller ∷ l) r

pub callers_append : (xs ys : List Claim) → callers (xs ++ ys) ≡ callers xs ++ callers ys
callers_append [] ys = refl
callers_append (x ∷ xs) ys = ap (λ l. x.caller ∷ l) (callers_append xs ys)

-- ## A caller that is listed has its claim

abbrev name_of : ℕ → ℕ → ℕ
name_of q n = one_if (n == q)

counted_names : (q : ℕ) (cs : List Claim) → total (claims_of q) cs ≡ total (name_of q) (callers cs)
counted_names q [] = refl
counted_names q (c ∷ cs) = ap (λ n. claims_of q c + n) (counted_names q cs)

pub has_first : (q : ℕ) (ns : List ℕ) (cs : List Claim) → callers cs ≡ q ∷ ns → 0 < total (claims_of q) cs
has_first q ns cs e =
    let n : total (claims_of q) cs ≡ one_if (q == q) + total (name_of q) ns = counted_names q cs ∙ ap (total (name_of q)) e in
    let one : one_if (q == q) ≡ 1 = ap one_if (eq-eqb q q refl) in omega arith

pub has_second : (p q : ℕ) (ns : List ℕ) (cs : List Claim) → callers cs ≡ p ∷ (q ∷ ns) → 0 < total (claims_of q) cs
has_second p q ns cs e =
    let n : total (claims_of q) cs ≡ one_if (p == q) + (one_if (q == q) + total (name_of q) ns) = counted_names q cs ∙ ap (total (name_of q)) e in
    let one : one_if (q == q) ≡ 1 = ap one_if (eq-eqb q q refl) in omega arith

-- ## Claims that go and stay

abbrev pub names_but : (ℕ → Bool) → List ℕ → List ℕ
names_but goes [] = []
names_but goes (q ∷ qs) = cond (goes q) (names_but goes qs) (q ∷ names_but goes qs)

abbrev pub names_only : (ℕ → Bool) → List ℕ → List ℕ
names_only goes [] = []
names_only goes (q ∷ qs) = cond (goes q) (q ∷ names_only goes qs) (names_only goes qs)

pub callers_but : (goes : ℕ → Bool) (cs : List Claim) → callers (claims_but goes cs) ≡ names_but goes (callers cs)
callers_but goes [] = refl
callers_but goes (c ∷ cs) = by_case (goes c.caller) (callers_but goes cs)
  where
    by_case : (z : Bool) → callers (claims_but goes cs) ≡ names_but goes (callers cs)
        → callers (cond z (claims_but goes cs) (c ∷ claims_but goes cs)) ≡ cond z (names_but goes (callers cs)) (c.caller ∷ names_but goes (callers cs))
    by_case true r = r
    by_case false r = ap (λ l. c.caller ∷ l) r

pub callers_only : (goes : ℕ → Bool) (cs : List Claim) → callers (claims_only goes cs) ≡ names_only goes (callers cs)
callers_only goes [] = refl
callers_only goes (c ∷ cs) = by_case (goes c.caller) (callers_only goes cs)
  where
    by_case : (z : Bool) → callers (claims_only goes cs) ≡ names_only goes (callers cs)
        → callers (cond z (c ∷ claims_only goes cs) (claims_only goes cs)) ≡ cond z (c.caller ∷ names_only goes (callers cs)) (names_only goes (callers cs))
    by_case true r = ap (λ l. c.caller ∷ l) r
    by_case false r = r

-- the one caller goes
pub one_goes : (goes : ℕ → Bool) (q : ℕ) (cs : List Claim) → goes q ≡ true → callers cs ≡ q ∷ [] → callers (claims_but goes cs) ≡ []
one_goes goes q cs goer e = callers_but goes cs ∙ (ap (names_but goes) e ∙ ap (λ b. cond b [] (q ∷ [])) goer)

pub one_sent : (goes : ℕ → Bool) (q : ℕ) (cs : List Claim) → goes q ≡ true → callers cs ≡ q ∷ [] → callers (claims_only goes cs) ≡ q ∷ []
one_sent goes q cs goer e = callers_only goes cs ∙ (ap (names_only goes) e ∙ ap (λ b. cond b (q ∷ []) []) goer)

-- of two callers the second goes
pub second_goes : (goes : ℕ → Bool) (p q : ℕ) (cs : List Claim) → goes p ≡ false → goes q ≡ true → callers cs ≡ p ∷ (q ∷ []) → callers (claims_but goes cs) ≡ p ∷ []
second_goes goes p q cs stayer goer e = callers_but goes cs ∙ (ap (names_but goes) e ∙ λ i. cond (stayer i) (cond (goer i) [] (q ∷ [])) (p ∷ cond (goer i) [] (q ∷ [])))

pub second_sent : (goes : ℕ → Bool) (p q : ℕ) (cs : List Claim) → goes p ≡ false → goes q ≡ true → callers cs ≡ p ∷ (q ∷ []) → callers (claims_only goes cs) ≡ q ∷ []
second_sent goes p q cs stayer goer e = callers_only goes cs ∙ (ap (names_only goes) e ∙ λ i. cond (stayer i) (p ∷ cond (goer i) (q ∷ []) []) (cond (goer i) (q ∷ []) []))

-- ## The entry that is given back

module _ (place caller : ℕ) (v : Told) (n : IsNewest place caller v) where
  pub newest_first : first (is_at place) v.view.entries ≡ Some n.entry
  newest_first = ap (first (is_at place)) n.entries ∙ ap (λ b. cond b (Some n.entry) (first (is_at place) n.others)) (eq-eqb n.entry.place place n.at)

  pub goes_back : goes_with (take_of.Entry place) v.view caller ≡ true
  goes_back = ap (λ o. Rattle.table_rule.specs.Shown.is_caller_of o caller) newest_first ∙ eq-eqb caller n.entry.call.caller (sym n.of)

  pub stays_here : (q : ℕ) → q ≢ caller → goes_with (take_of.Entry place) v.view q ≡ false
  stays_here q ne = ap (λ o. Rattle.table_rule.specs.Shown.is_caller_of o q) newest_first ∙ ne_eqb q n.entry.call.caller (λ e. ne (e ∙ n.of))

  pub gives_one : length (without (is_at place) v.view.entries) + length (listed (first (is_at place) v.view.entries)) ≡ length v.view.entries
  gives_one =
      let a : length (without (is_at place) v.view.entries) ≡ length n.others = ap (λ l. length (without (is_at place) l)) n.entries ∙ ap (λ b. length (cond b n.others (n.entry ∷ without (is_at place) n.others))) (eq-eqb n.entry.place place n.at) in
      let b : length (listed (first (is_at place) v.view.entries)) ≡ 1 = ap (λ o. length (listed o)) newest_first in
      let c : length v.view.entries ≡ suc (length n.others) = ap length n.entries in omega arith
