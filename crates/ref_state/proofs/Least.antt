-- The hold with the least place.
use Rattle.std.proofs.Common.{◌≡◌, ℕ, suc, ◌-◌, ◌<◌, ◌≤◌, length, get_or, drop, drop-cons, ◌==◌, ◌&&◌, nat_le, cond, Bool, true, false, List, [], ◌∷◌, sym, refl, ap, ◌∙◌, subst, arith, Option, Some, None, eq-eqb}
use Rattle.ref_state.specs.declared.state.Hold.{Hold}
use Rattle.ref_state.specs.Steps.{first, Some_where, lesser, least_place, place_or, is_least, least}
use Rattle.ref_state.proofs.Lists.{some_is, first_passes}

abbrev at_place : (Hold → Bool) → ℕ → Hold → Bool
at_place p k h = p h && (h.place == k)

-- one that passes has a least place
some_least : (p : Hold → Bool) (hs : List Hold) → Some_where p hs → (k : ℕ)
    × (least_place p hs ≡ Some k)
some_least p [] m = absurd (let e : None ≡ Some m.0 = m.1 in grind arith)
some_least p (h ∷ hs) m = by_case (p h) m.1 (λ e. some_least p hs (m.0, e))
  where
    by_case : (z : Bool) → cond z (Some h) (first p hs) ≡ Some m.0
        → (first p hs ≡ Some m.0 → (k : ℕ) × (least_place p hs ≡ Some k)) → (k : ℕ)
        × (cond z (Some (lesser h.place (least_place p hs))) (least_place p hs) ≡ Some k)
    by_case true e rec = (lesser h.place (least_place p hs), refl)
    by_case false e rec = rec e

-- one that passes stands at the least place
there_at : (p : Hold → Bool) (hs : List Hold) (k : ℕ) → least_place p hs ≡ Some k
    → Some_where (at_place p k) hs
there_at p [] k e = absurd (let h : None ≡ Some k = e in grind arith)
there_at p (h ∷ hs) k e = by_case (p h) e (there_at p hs)
  where
    here : (b : Bool) → b ≡ true → Some_where (at_place p k) hs → (x : Hold)
        × (cond (true && b) (Some h) (first (at_place p k) hs) ≡ Some x)
    here true is rec = (h, refl)
    here false is rec = rec

    found : (h.place ≡ k) → (x : Hold) × (cond (true
        && (h.place == k)) (Some h) (first (at_place p k) hs) ≡ Some x)
    found is = (h, ap (λ b. cond b (Some h) (first (at_place p k) hs)) (eq-eqb h.place k is))

    later : (b : Bool) → Some_where (at_place p k) hs → (x : Hold)
        × (cond (true && b) (Some h) (first (at_place p k) hs) ≡ Some x)
    later true rec = (h, refl)
    later false rec = rec

    by_order : (m : ℕ) (b : Bool) → cond b h.place m ≡ k → Some_where (at_place p m) hs → (x : Hold)
        × (cond (true && (h.place == k)) (Some h) (first (at_place p k) hs) ≡ Some x)
    by_order m true is rec = found is
    by_order m false is rec = later (h.place == k) (subst (λ i. Some_where (at_place p i) hs) is
        rec)

    by_rest : (l : Option ℕ) → least_place p hs ≡ l → lesser h.place l ≡ k
        → ((i : ℕ) → least_place p hs ≡ Some i → Some_where (at_place p i) hs) → (x : Hold)
        × (cond (true && (h.place == k)) (Some h) (first (at_place p k) hs) ≡ Some x)
    by_rest None is at rec = found at
    by_rest (Some m) is at rec = by_order m (nat_le h.place m) at (rec m is)

    by_case : (z : Bool) → cond z (Some (lesser h.place (least_place p hs))) (least_place p hs)
        ≡ Some k → ((i : ℕ) → least_place p hs ≡ Some i → Some_where (at_place p i) hs) → (x : Hold)
        × (cond (z && (h.place == k)) (Some h) (first (at_place p k) hs) ≡ Some x)
    by_case true at rec = by_rest (least_place p hs) refl (some_is at) rec
    by_case false at rec = rec k at

-- where one passes, one has the least place
pub least_there : (p : Hold → Bool) (hs : List Hold) → Some_where p hs
    → Some_where (is_least p hs) hs
least_there p hs m = let s = some_least p hs m in
    subst (λ k. Some_where (at_place p k) hs) (sym (ap place_or s.1)) (there_at p hs s.0 s.1)

left_true : (a b : Bool) → (a && b) ≡ true → a ≡ true
left_true true b e = refl
left_true false b e = e

-- and it passes
pub least_passes : (p : Hold → Bool) (hs : List Hold) (x : Hold) → least p hs ≡ Some x → p x ≡ true
least_passes p hs x e = left_true (p x) (x.place == place_or (least_place p hs))
    (first_passes (is_least p hs) hs x e)

-- the least place of a rest of the list, from that of the rest after its first hold
pub least_more : (p : Hold → Bool) (hs : List Hold) (i : ℕ) (h : Hold) (l : Option ℕ) → 0 < i
    → i ≤ length hs → ((d : Hold) → h ≡ get_or hs (i - 1) d) → l ≡ least_place p (drop i hs)
    → (p h ≡ true → Some (lesser h.place l) ≡ least_place p (drop (i - 1) hs))
    × (p h ≡ false → l ≡ least_place p (drop (i - 1) hs))
least_more p hs i h l some_left near is rest = ((λ e. taken e), λ e. passed e)
  where
    next : suc (i - 1) ≡ i
    next = omega arith

    parted : drop (i - 1) hs ≡ h ∷ drop i hs
    parted = drop-cons hs (i - 1) h (omega arith)
        ∙ ap (λ (x : Hold). x ∷ drop (suc (i - 1)) hs) (sym (is h))
        ∙ ap (λ (n : ℕ). h ∷ drop n hs) next

    taken : p h ≡ true → Some (lesser h.place l) ≡ least_place p (drop (i - 1) hs)
    taken e = ap (λ (m : Option ℕ). Some (lesser h.place m)) rest
        ∙ sym (ap (least_place p) parted ∙ ap (λ (b : Bool). cond b
        (Some (lesser h.place (least_place p (drop i hs)))) (least_place p (drop i hs))) e)

    passed : p h ≡ false → l ≡ least_place p (drop (i - 1) hs)
    passed e = rest ∙ sym (ap (least_place p) parted
        ∙ ap (λ (b : Bool). cond b (Some (lesser h.place (least_place p (drop i hs))))
        (least_place p (drop i hs))) e)
