-- Places and serials: what a step owes to keep them.
use Rattle.std.proofs.Common.{◌≡◌, ◌⊎◌, ℕ, zero, suc, ◌+◌, ◌-◌, ◌<◌, ◌≤◌, ◌==◌, nat_le, Bool, true, false, List, [], ◌∷◌, ◌++◌, length, set, sym, refl, ap, ◌∙◌, subst, inl, inr, ⊎_elim, arith, length-append}
use mathlib.Core.Option.{some, some-injective, some-ne-none}
use lib.ListN.{get_elem?}
use Rattle.ref_state.specs.declared.kinds.Tag.{Tag}
use Rattle.ref_state.specs.declared.state.By.TheVariants as by
use Rattle.ref_state.specs.declared.state.Entry.{Entry}
use Rattle.ref_state.specs.declared.state.Hold.{Hold}
use Rattle.ref_state.specs.declared.state.Section.{Section}
use Rattle.ref_state.specs.declared.state.Section.TheVariants.{Out, In, Placed}
use Rattle.ref_state.specs.declared.state.View.{View}
use Rattle.ref_state.specs.declared.state.Published.{Published}
use Rattle.ref_state.specs.declared.state.State.{State as Core}
use Rattle.ref_state.specs.State.{At, total, own_entry, kept, one_if, has_place, any_entry, published_entry, is_publish}
use Rattle.ref_state.specs.Steps.{after_finish}
use Rattle.ref_state.specs.Soundness.{Every, serial_at, EntryOk, KeepsSeen, PlacesAndSerials}
use Rattle.ref_state.proofs.Lists.{total_set, total_same, total_one, every_map, each_move, each_set, once_more, one_if_le, one_if_not, total_le}

-- w keeps what v keeps, and e
abbrev pub Adds : Entry → View → View → Type 1
Adds e v w = ((f : Entry → ℕ) → total f (kept w) ≡ f e + total f (kept v))
    × ((P : Entry → Type 0) → P e → Every P (kept v) → Every P (kept w))

-- a place is drawn in a section
pub adds_open : (e : Entry) (v w : View) → kept w ≡ e ∷ kept v → Adds e v w
adds_open e v w same = (
  (λ f. ap (total f) same),
  λ P mine all. subst (Every P) (sym same) (
    mine,
    all,
  ),
)

-- an entry is finished at its own step
pub adds_finished : (c : Core) (e : Entry) (v : View) → Adds e v (after_finish c e v)
adds_finished c e v = ((λ f. more f v.section), λ P mine all. every P mine v.section all)
  where
    more : (f : Entry → ℕ) (z : Section) → total f (own_entry z ++ (e ∷ v.entries)) ≡ f e
        + total f (own_entry z ++ v.entries)
    more f Out = refl
    more f In = refl
    more f (Placed x) = omega arith

    every : (P : Entry → Type 0) → P e → (z : Section) → Every P (own_entry z ++ v.entries)
        → Every P (own_entry z ++ (e ∷ v.entries))
    every P mine Out all = (mine, all)
    every P mine In all = (mine, all)
    every P mine (Placed x) all = (all.0, (mine, all.1))

-- after a step on the clock all places so far are seen
knows_more : (n : ℕ) (e : Entry) (v w : View) → Adds e v w → e.place ≡ n → w.seen ≡ n + 1
    → v.seen ≤ n → Every (λ x. x.place < v.seen) (kept v) → Every (λ h. h.place < v.seen) w.holds
    → KeepsSeen w
knows_more n e v w adds here seen before es hs = (
  adds.1 (λ x. x.place < w.seen) (omega arith) (every_map (λ (x : Entry) (h : x.place < v.seen).
      omega arith) (kept v) es),
  every_map (λ (x : Hold) (h : x.place < v.seen). omega arith) w.holds hs,
)

module _ (n s q : ℕ) (ps : List Published) (views : List View) (j : ℕ) (v w : View)
    (sits : At views j v) (p : PlacesAndSerials n s q ps views) where
  abbrev E : (Entry → ℕ) → View → ℕ
  E f u = total f (kept u)

  -- the seat's entries have the same places, serials and steps, and it has as many places left
  pub places_move : ((k : ℕ) → E (has_place k) w ≡ E (has_place k) v)
      → E any_entry w ≡ E any_entry v → E published_entry w ≡ E published_entry v
      → Every (EntryOk n ps) (kept w)
      → w.left ≡ v.left → w.seen ≡ v.seen → Every (λ e. e.place < v.seen) (kept w)
      → Every (λ h. h.place < v.seen) w.holds → PlacesAndSerials n s q ps (set views j w)
  places_move once all published ok left seen es hs = record {
    once = λ k. total_same (E (has_place k)) views j v w sits (once k) ∙ p.once k;
    all = total_same (E any_entry) views j v w sits all ∙ p.all;
    each = each_set (λ _ u. Every (EntryOk n ps) (kept u)) views j w p.each ok;
    published = (
      p.published.0,
      total_same (E published_entry) views j v w sits published
          ∙ p.published.1,
    );
    rising = p.rising;
    left = omega (arith, total_same (λ u. u.left) views j v w sits left, p.left);
    small = p.small;
    seen = each_set (λ _ u. u.seen ≤ n) views j w p.seen (subst (λ (z : ℕ). z ≤ n) (sym seen)
        (p.seen j v sits));
    known = each_set (λ _ u. KeepsSeen u) views j w p.known (
      subst (λ (z : ℕ). Every (λ e. e.place < z) (kept w)) (sym seen) es,
      subst (λ (z : ℕ). Every (λ h. h.place < z) w.holds) (sym seen) hs,
    );
  }

  pub places_stay : kept w ≡ kept v → w.left ≡ v.left → w.seen ≡ v.seen
      → Every (λ h. h.place < v.seen) w.holds → PlacesAndSerials n s q ps (set views j w)
  places_stay same left seen hs = places_move (λ k. ap (total (has_place k)) same)
      (ap (total any_entry) same) (ap (total published_entry) same)
      (subst (Every (EntryOk n ps)) (sym same) (p.each j v sits)) left seen
      (subst (Every (λ e. e.place < v.seen)) (sym same) (p.known j v sits).0) hs

  -- all places so far are below n
  pub all_published : (qs : List Published) → ((i : ℕ) (x : Published) → get_elem? qs i ≡ some x
      → x.place < n) → serial_at qs n ≡ length qs
  all_published [] h = refl
  all_published (x ∷ xs) h = let a : x.place < n = h 0 x refl in
      omega (arith, one_if_le x.place n (omega arith), all_published xs (λ i y e. h (suc i) y e))

  later : (e : Entry) → EntryOk n ps e → EntryOk (n + 1) ps e
  later e ok = record {
    below = (let h = ok.below in omega arith);
    serial = ok.serial;
    published = ok.published;
    plain = ok.plain;
  }

  -- the seat keeps one more entry, which publishes nothing, at the place n
  pub places_draw : (e : Entry) → e.place ≡ n → e.serial ≡ s → is_publish e.by ≡ false → Adds e v w
      → 0 < v.left → w.left ≡ v.left - 1 → w.seen ≡ n + 1 → Every (λ h. h.place < v.seen) w.holds
      → PlacesAndSerials (n + 1) s q ps (set views j w)
  places_draw e here serial plain adds some_left left seen hs = record {
    once = λ k. let f : View → ℕ = λ u. total (has_place k) (kept u) in
        let t : f w ≡ has_place k e + f v = adds.0 (has_place k) in
        let a : has_place k e ≡ one_if (n == k) = ap (λ (x : ℕ). one_if (x == k)) here in
        let o = p.once k in let m = once_more k n in let z = total_set f views j v w sits in
        omega arith;
    all = let t : E any_entry w ≡ 1 + E any_entry v = adds.0 any_entry in
        let z = total_set (E any_entry) views j v w sits in let a = p.all in omega arith;
    each = each_move (λ _ u. Every (EntryOk (n
        + 1) ps) (kept u)) views j w (λ i u _ at. every_map later (kept u) (p.each i u at))
        (adds.1 (EntryOk (n + 1) ps)
        (record {
          below = omega arith;
          serial = serial ∙ (sym p.published.0 ∙ (sym (all_published ps
              (λ i x at. (p.rising i x at).0)) ∙ ap (serial_at ps) (sym here)));
          published = λ yes. absurd (Rattle.std.proofs.lemmas.Bool.true≢false (sym yes ∙ plain));
          plain = λ _ x at same. let b = (p.rising (e.serial - 1) x at).0 in omega arith;
        }) (every_map later (kept v) (p.each j v sits)));
    published = (
      p.published.0,
      let f : View → ℕ = λ u. total published_entry (kept u) in
          let t : f w ≡ published_entry e + f v = adds.0 published_entry in
          let a : published_entry e ≡ 0 = ap one_if plain in
          let o = p.published.1 in let z = total_set f views j v w sits in omega arith,
    );
    rising = λ i x at. let h = p.rising i x at in let b = h.0 in (omega arith, h.1);
    left = let z = total_set (λ u. u.left) views j v w sits in let l = p.left in omega arith;
    small = p.small;
    seen = each_move (λ _ u. u.seen ≤ n + 1) views j w (λ i u _ at. let h = p.seen i u at in
        omega arith) (omega arith);
    known = each_set (λ _ u. KeepsSeen u) views j w p.known (knows_more n e v w adds here seen
        (p.seen j v sits) (p.known j v sits).0 hs);
  }

-- the clock's halves don't run over
pub room : (n s q : ℕ) (ps : List Published) (views : List View) (j : ℕ) (v : View) → At views j v
    → PlacesAndSerials n s q ps views → 0 < v.left → (n + 1 < 4294967296) × (s ≤ n)
room n s q ps views j v sits p some_left =
    let a = total_one (λ (u : View). u.left) views j v sits in let b = p.left in let c = p.small in
    let d = total_le (λ (u : View). total published_entry (kept u))
    (λ (u : View). total any_entry (kept u)) (λ u. total_le published_entry any_entry one
    (kept u)) views in let e = p.published.1 in let f = p.all in (omega arith, omega arith)
  where
    one : (e : Entry) → published_entry e ≤ 1
    one e = at_most (is_publish e.by)
      where
        at_most : (b : Bool) → one_if b ≤ 1
        at_most true = omega arith
        at_most false = omega arith

-- what serials are published up to a place, with one more
serial_snoc : (ps : List Published) (p : Published) (k : ℕ) → serial_at (ps ++ p ∷ []) k
    ≡ serial_at ps k + one_if (nat_le p.place k)
serial_snoc [] p k = omega arith
serial_snoc (x ∷ xs) p k = omega (arith, serial_snoc xs p k)

pub at_longer : {A : Type 0} (l : List A) (x : A) (i : ℕ) (a : A) → get_elem? l i ≡ some a
    → get_elem? (l ++ x ∷ []) i ≡ some a
at_longer [] x i a e = absurd (some-ne-none a (sym e))
at_longer (y ∷ ys) x zero a e = e
at_longer (y ∷ ys) x (suc i) a e = at_longer ys x i a e

pub at_last : {A : Type 0} (l : List A) (x : A) (i : ℕ) → length l ≡ i
    → get_elem? (l ++ x ∷ []) i ≡ some x
at_last [] x zero e = refl
at_last [] x (suc i) e = absurd (omega arith)
at_last (y ∷ ys) x zero e = absurd (omega arith)
at_last (y ∷ ys) x (suc i) e = at_last ys x i (omega arith)

at_end : {A : Type 0} (l : List A) (x : A) (i : ℕ) (a : A) → get_elem? (l ++ x ∷ []) i ≡ some a
    → (get_elem? l i ≡ some a) ⊎ ((i ≡ length l) × (x ≡ a))
at_end [] x zero a e = inr (refl, some-injective x a e)
at_end [] x (suc i) a e = absurd (some-ne-none a (sym e))
at_end (y ∷ ys) x zero a e = inl e
at_end (y ∷ ys) x (suc i) a e = ⊎_elim (λ t. inl t) (λ t. inr (ap suc t.0, t.1)) (at_end ys x i a e)

module _ (n s q : ℕ) (ps : List Published) (views : List View) (j : ℕ) (v w : View)
    (sits : At views j v) (p : PlacesAndSerials n s q ps views) (t : Tag) where
  abbrev ps' : List Published
  ps' = ps ++ record { place = n; call = t } ∷ []

  later_ok : (e : Entry) → EntryOk n ps e → EntryOk (n + 1) ps' e
  later_ok e ok = let b = ok.below in record {
    below = omega arith;
    serial = ok.serial ∙ (let a = serial_snoc ps (record { place = n; call = t }) e.place in
        let z = one_if_not n e.place b in omega arith);
    published = λ yes. at_longer ps _ (e.serial - 1) _ (ok.published yes);
    plain = λ no x at same. ⊎_elim (λ (h : get_elem? ps (e.serial - 1)
        ≡ some x). ok.plain no x h same)
        (λ (h : (e.serial - 1 ≡ length ps) × (record { place = n; call = t } ≡ x)).
        let g : n ≡ x.place = ap (λ (z : Published). z.place) h.1 in
        omega arith) (at_end ps (record { place = n; call = t }) (e.serial - 1) x at);
  }

  all_below : serial_at ps n ≡ length ps
  all_below = all_published n s q ps views j v w sits p ps (λ i x at. (p.rising i x at).0)

  -- the seat publishes the next serial at the place n
  pub places_publish : 0 < v.left → Adds (record {
    place = n;
    serial = s + 1;
    call = t;
    by = by.Publish;
    got = false;
  }) v w → w.left ≡ v.left - 1 → w.seen ≡ n + 1
      → Every (λ h. h.place < v.seen) w.holds → PlacesAndSerials (n + 1) (s
      + 1) q ps' (set views j w)
  places_publish some_left adds left seen hs = let e : Entry =
      record { place = n; serial = s + 1; call = t; by = by.Publish; got = false } in
      let many = p.published.0 in record {
        once = λ k. let f : View → ℕ = λ u. total (has_place k) (kept u) in
            let a : f w ≡ has_place k e + f v = adds.0 (has_place k) in
            let o = p.once k in let m = once_more k n in let z = total_set f views j v w sits in
            omega arith;
        all = let f : View → ℕ = λ u. total any_entry (kept u) in
            let a : f w ≡ 1 + f v = adds.0 any_entry in let z = total_set f views j v w sits in
            let b = p.all in omega arith;
        each = each_move (λ _ u. Every (EntryOk (n
            + 1) ps') (kept u)) views j w (λ i u _ at. every_map later_ok (kept u) (p.each i u at))
            (adds.1 (EntryOk (n + 1) ps') (record {
              below = omega arith;
              serial = let a = serial_snoc ps (record { place = n; call = t }) n in
                  let z = one_if_le n n (omega arith) in let b = all_below in omega arith;
              published = λ _. at_last ps (record { place = n; call = t }) (s + 1 - 1) (omega arith);
              plain = λ no. absurd (let h : true ≡ false = no in grind arith);
            }) (every_map later_ok (kept v) (p.each j v sits)));
        published = (
          let l = length-append ps (record { place = n; call = t } ∷ []) in omega arith,
          let f : View → ℕ = λ u. total published_entry (kept u) in
              let a : f w ≡ 1 + f v = adds.0 published_entry in let z = total_set f views j v w sits in
              let b = p.published.1 in omega arith,
        );
        rising = λ i x at. ⊎_elim
            (λ (h : get_elem? ps i ≡ some x). let r = p.rising i x h in let b = r.0 in let d = r.1 in (
              omega arith,
              let a = serial_snoc ps (record { place = n; call = t }) x.place in
                  let z = one_if_not n x.place b in omega arith,
            ))
            (λ (h : (i ≡ length ps) × (record { place = n; call = t } ≡ x)).
            let g : n ≡ x.place = ap (λ (z : Published). z.place) h.1 in let i' = h.0 in (
              omega arith,
              let a = serial_snoc ps (record { place = n; call = t }) x.place in
                  let z = one_if_le n x.place (omega arith) in let b : serial_at ps x.place ≡ length ps =
                  ap (serial_at ps) (sym g) ∙ all_below in omega arith,
            ))
            (at_end ps (record { place = n; call = t }) i x at);
        left = let z = total_set (λ u. u.left) views j v w sits in let l = p.left in omega arith;
        small = p.small;
        seen = each_move (λ _ u. u.seen ≤ n + 1) views j w (λ i u _ at. let h = p.seen i u at in
            omega arith) (omega arith);
        known = each_set (λ _ u. KeepsSeen u) views j w p.known (knows_more n e v w adds refl seen
            (p.seen j v sits) (p.known j v sits).0 hs);
      }
