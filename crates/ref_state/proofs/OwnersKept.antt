-- Whose hold, whose Execute and whose part.
use Rattle.std.proofs.Common.{◌≡◌, ◌≢◌, ◌⊎◌, ℕ, ◌+◌, ◌<◌, ◌≤◌, ◌==◌, ◌&&◌, not, cond, Bool, true, false, List, [], ◌∷◌, ◌++◌, length, get_or, set, sym, refl, ap, ◌∙◌, subst, ⊎_elim, arith, eq-eqb, length-set}
use Rattle.ref_state.specs.declared.kinds.Tag.{Tag}
use Rattle.ref_state.specs.declared.kinds.Kind.{Kind}
use Rattle.ref_state.specs.declared.kinds.Kind.TheVariants.{EnterSection, DrawPlace, LoadRow, LeaveSection, StoreRow, Publish, LookSection, LoadMode, AddOwn, AddShared, Split, Join, Kill, LookCounter, Fold, LookZero, PlaceDone, LiveShared, LiveMode, TakeTurn, SlotOut, PlaceExecute, SlotIn, GiveTurn}
use Rattle.ref_state.specs.declared.state.Entry.{Entry}
use Rattle.ref_state.specs.declared.state.Hold.{Hold}
use Rattle.ref_state.specs.declared.state.Phase.TheVariants as phase
use Rattle.ref_state.specs.declared.state.View.{View}
use Rattle.ref_state.specs.declared.state.State.{State as Core}
use Rattle.ref_state.specs.State.{total, kept, entries, one_if, executes, is_bare, is_named, has_place, got_at, got_by, submit_got, execute_of, disk, drain, view, no_view}
use Rattle.ref_state.specs.Steps.{next_core, after_add, after_split, split_part, after_join, spent_view}
use Rattle.ref_state.specs.Soundness.{Every, IsSound}
use Rattle.ref_state.specs.Owners.{is_call, is_name, HoldsHaveEntries, ExecutesHaveSubmits, PartOfItsSeat, NumbersStay}
use Rattle.ref_state.proofs.Lists.{total_one, total_le, every_map, or_set, at_or}
use Rattle.ref_state.proofs.SideSteps.{or_before, or_last}
use Rattle.ref_state.proofs.PartSteps.{part_is, numbers_parted}

-- each of a list weighs no more than the list
each_weighs : {A : Type 0} (xs : List A) → Every (λ x. (f : A → ℕ) → f x ≤ total f xs) xs
each_weighs [] = tt
each_weighs (x ∷ xs) = (
  (λ f. omega arith),
  every_map (λ y h f. let a = h f in
      omega arith) xs (each_weighs xs),
)

at_most : (b : Bool) → one_if b ≤ 1
at_most true = omega arith
at_most false = omega arith

-- a place has one entry at most
one_there : (c : Core) → IsSound c → (k : ℕ) (f : Entry → ℕ) → ((e : Entry) → f e ≤ has_place k e)
    → entries f c.views ≤ 1
one_there c sound k f le = let a = total_le (λ (u : View). total f (kept u))
    (λ (u : View). total (has_place k) (kept u)) (λ u. total_le f (has_place k) le (kept u)) c.views
    in
    let b = sound.places.once k in let m = at_most (Rattle.std.proofs.Common.nat_le (k
    + 1) c.given) in omega arith

part_of_one : (a p g : Bool) → one_if ((a && p) && g) ≤ one_if a
part_of_one true p g = at_most (p && g)
part_of_one false p g = omega arith

same_call : (t : Tag) → is_call t t ≡ true
same_call t = ap (λ (z : Bool × Bool × Bool). z.0
    && (z.1 && z.2)) (λ i. (
      eq-eqb t.kind t.kind refl i,
      eq-eqb t.caller t.caller refl i,
      eq-eqb t.number t.number refl i,
    ))

same_name : (t : Tag) → is_named (is_name t) t ≡ true
same_name t = ap (λ (z : Bool × Bool). z.0 && z.1) (λ i. (
  eq-eqb t.caller t.caller refl i,
  eq-eqb t.number t.number refl i,
))

both_true : (a b : Bool) → a ≡ true → b ≡ true → one_if (a && b) ≡ 1
both_true a b s t = ap (λ (z : Bool × Bool). one_if (z.0 && z.1)) (λ i. (s i, t i))

pub holds_have_entries : HoldsHaveEntries
holds_have_entries c sound j v at = every_map (λ h weighs. mine h weighs) v.holds
    (each_weighs v.holds)
  where
    mine : (h : Hold) → ((f : Hold → ℕ) → f h ≤ total f v.holds)
        → entries (got_at h.place (is_call h.call)) c.views ≡ 1
    mine h weighs = let f : Hold → ℕ = got_by h.place (is_call h.call) in let a = weighs f in
        let b = total_one (λ (u : View). total f u.holds) c.views j v at in
        let one : f h ≡ 1 = both_true (h.place == h.place) (is_call h.call h.call)
        (eq-eqb h.place h.place refl) (same_call h.call) in
        let some = sound.split_counts.of_one h.place (is_call h.call) in
        let few = one_there c sound h.place (got_at h.place (is_call h.call))
        (λ e. part_of_one (e.place == h.place) (is_call h.call e.call) e.got) in omega arith

pub executes_have_submits : ExecutesHaveSubmits
executes_have_submits c sound j v at =
    every_map (λ e weighs k is. mine e weighs k is) (kept v) (each_weighs (kept v))
  where
    mine : (e : Entry) → ((f : Entry → ℕ) → f e ≤ total f (kept v)) → (k : ℕ)
        → executes e.by k ≡ true → entries (submit_got k (is_name e.call)) c.views ≡ 1
    mine e weighs k is = let f : Entry → ℕ = execute_of k (is_name e.call) in let a = weighs f in
        let b = total_one (λ (u : View). total f (kept u)) c.views j v at in
        let one : f e ≡ 1 = both_true (executes e.by k) (is_named (is_name e.call) e.call) is
        (same_name e.call) in let some = sound.holds.submits k (is_name e.call) in
        let few = one_there c sound k (submit_got k (is_name e.call))
        (λ x. part_of_one (x.place == k) (is_named (is_name e.call) x.call) (x.got
        && not (is_bare x.call))) in omega arith

pub part_of_its_seat : PartOfItsSeat
part_of_its_seat c j t sound a = let v : View = view c.views j in let u : View = split_part t v in
    let it = part_is t v in
    let last : view (next_core c j (Split t)).views (length c.views) ≡ u =
    or_last (set c.views j (after_split t v)) u (length c.views) no_view
    (length-set c.views j (after_split t v)) in
    let near = (sound.sections.seats_first j v (at_or c.views j no_view a.there)).0 a.seat in (
      ap (λ (x : View). x.role) last ∙ it.0,
      ap (λ (x : View). x.number) last ∙ ((numbers_parted t v).1
          ∙ (sound.turns.numbered j v (at_or c.views j no_view a.there)).0 near),
      ap (λ (x : View). x.seen) last ∙ it.4,
    )

module _ (c : Core) (j : ℕ) (i : ℕ) (inside : i < length c.views) where
  abbrev v : View
  v = view c.views j

  -- one seat's view becomes w, with the seat's number
  one : (l : List View) (p : ℕ) (w : View) → w.number ≡ (view l p).number
      → (view (set l p w) i).number ≡ (view l i).number
  one l p w same = ⊎_elim (λ (t : get_or (set l p w) i no_view
      ≡ get_or l i no_view). ap (λ (x : View). x.number) t)
      (λ (t : (i ≡ p) × (get_or (set l p w) i no_view ≡ w)). ap (λ (x : View). x.number) t.1
      ∙ (same ∙ ap (λ q. (view l q).number) (sym t.0)))
      (or_set l p i w no_view)

  added : (d : ℕ) (up : Bool) → (after_add d up v).number ≡ v.number
  added d true = refl
  added d false = refl

  numbers : (k : Kind) → (view (next_core c j k).views i).number ≡ (view c.views i).number
  numbers EnterSection = one c.views j _ refl
  numbers (DrawPlace t) = one c.views j _ refl
  numbers (LoadRow w) = refl
  numbers LeaveSection = one c.views j _ refl
  numbers (StoreRow w x) = refl
  numbers (Publish t) = one c.views j _ refl
  numbers (LookSection o) = refl
  numbers (LoadMode d) = one c.views j _ refl
  numbers (AddOwn d up) = one c.views j (after_add d up v) (added d up)
  numbers (AddShared d up) = one c.views j (after_add d up v) (added d up)
  numbers (Split t) = let w : View = after_split t v in
      ap (λ (x : View). x.number) (or_before (set c.views j w) (split_part t v) i no_view (let l =
      length-set c.views j w in omega arith)) ∙ one c.views j w (numbers_parted t v).0
  numbers (Join p) = let l : List View = set c.views j (after_join v (view c.views p)) in
      one l p (spent_view (view c.views p)) (sym (⊎_elim
      (λ (t : get_or l p no_view ≡ get_or c.views p no_view). ap (λ (x : View). x.number) t)
      (λ (t : (p ≡ j) × (get_or l p no_view ≡ after_join v (view c.views p))). ap
      (λ (x : View). x.number) t.1 ∙ ap (λ q. (view c.views q).number) (sym t.0))
      (or_set c.views j p (after_join v (view c.views p)) no_view)))
      ∙ one c.views j (after_join v (view c.views p)) refl
  numbers (Kill d) = refl
  numbers (LookCounter d o) = refl
  numbers (Fold d x) = refl
  numbers (LookZero d) = by_case ((disk c d).shared == 0)
    where
      by_case : (z : Bool) → (view (cond z (record c {
        editor =
            record c.editor {
              drains = set c.editor.drains d (record (drain c.editor d) {
                phase =
                    phase.Drained;
                done_placed = false;
              });
            };
      }) c).views i).number ≡ (view c.views i).number
      by_case true = refl
      by_case false = refl
  numbers (PlaceDone d t) = one c.views j _ refl
  numbers (LiveShared d) = refl
  numbers (LiveMode d) = refl
  numbers (TakeTurn n) = by_case (get_or c.turns n 0 == 0)
    where
      by_case : (z : Bool) → (view (cond z (record (record c {
        turns =
            set c.turns n (j + 1);
      }) {
        views = set c.views j (record v {
          turns =
              record { slot = n; out = false } ∷ v.turns;
        });
      }) c).views i).number
          ≡ (view c.views i).number
      by_case true = one c.views j _ refl
      by_case false = refl
  numbers (SlotOut n) = one c.views j _ refl
  numbers (PlaceExecute n t) = one c.views j _ refl
  numbers (SlotIn n) = one c.views j _ refl
  numbers (GiveTurn n) = one c.views j _ refl

pub numbers_stay : NumbersStay
numbers_stay c j k i inside = numbers c j i inside k
