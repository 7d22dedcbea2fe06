-- What one step tells, and what it leaves to the others.
use Rattle.std.proofs.Common.{◌≡◌, ◌≢◌, ℕ, zero, suc, ◌+◌, ◌-◌, ◌%◌, ◌<◌, ◌≤◌, ◌==◌, cond, Bool, true, false, List, [], ◌∷◌, ◌++◌, length, get_or, set, sym, inl, inr, refl, ap, ◌∙◌, subst, ⊎_elim, arith, get_or-set_same, get_or-set_other}
use Rattle.std.proofs.lemmas.Bool.{eqb-true}
use mathlib.Core.Option.{some, some-ne-none}
use lib.ListN.{get_elem?}
use Rattle.ref_state.specs.declared.kinds.Kind.{Kind}
use Rattle.ref_state.specs.declared.kinds.Kind.TheVariants.{EnterSection, DrawPlace, LoadRow, LeaveSection, StoreRow, Publish, LookSection, LoadMode, AddOwn, AddShared, Split, Join, Kill, LookCounter, Fold, LookZero, PlaceDone, LiveShared, LiveMode, TakeTurn, SlotOut, PlaceExecute, SlotIn, GiveTurn}
use Rattle.ref_state.specs.declared.kinds.Answer.TheVariants as answer
use Rattle.ref_state.specs.declared.state.Entry.{Entry}
use Rattle.ref_state.specs.declared.state.LoadedMode.TheVariants.{Killed}
use Rattle.ref_state.specs.declared.state.Phase.TheVariants as phase
use Rattle.ref_state.specs.declared.state.View.{View}
use Rattle.ref_state.specs.declared.state.Mark.{Mark}
use Rattle.ref_state.specs.declared.state.Mark.TheVariants.{Unseen, Noted, Passed}
use Rattle.ref_state.specs.declared.state.Drain.{Drain}
use Rattle.ref_state.specs.declared.state.Disk.{Disk}
use Rattle.ref_state.specs.declared.state.State.{State as Core}
use Rattle.ref_state.specs.State.{At, total, kept, entries, any_entry, has_place, has_got, one_if, once_below, is_odd, mark, looked, is_killed, no_disk, disk, drain, view, no_view}
use Rattle.ref_state.specs.Steps.{next_core, answer_of, at_mark, at_drain, looked_at, word_after}
use Rattle.ref_state.specs.Soundness.{IsSound, LoadedModeFits, puts_of}
use Rattle.ref_state.specs.OneStep.{PutThatFindsOne, WordsFollowCounts, IsPassedOrNoted, LookTells, takes_place, place_in, IsNewPlace, PlacesAreNew, JoinKeepsTheLarger, OthersStay, EntriesAndPlacesLeft, GatheredHasAll}
use Rattle.ref_state.proofs.Lists.{at_or, set_else, total_set, total_le}
use Rattle.ref_state.proofs.ShownKept.{drain_looked}
use Rattle.ref_state.proofs.Consequences.{last_put_ends}

-- ## What a put tells

word_is : {x y : ℕ} → answer.Word x ≡ answer.Word y → x ≡ y
word_is e = grind arith

-- no more sections got a hold than entries there are, and of these fewer than the quotas
few_puts : (c : Core) → IsSound c → puts_of c.views < 4294967296
few_puts c sound = let a = sound.places.all in let b = sound.places.left in
    let s = sound.places.small in
    let d = total_le (λ (u : View). total has_got (kept u)) (λ (u : View). total any_entry (kept u))
    (λ u. total_le has_got any_entry got_one (kept u)) c.views in omega arith
  where
    at_most : (b : Bool) → one_if b ≤ 1
    at_most true = omega arith
    at_most false = omega arith

    got_one : (e : Entry) → has_got e ≤ 1
    got_one e = at_most e.got

pub put_that_finds_one : PutThatFindsOne
put_that_finds_one c j d sound a found = let v : View = view c.views j in let ok = a.may in
    let one : (disk c d).shared ≡ 1 = word_is found in
    let fits : LoadedModeFits c.editor j v (Killed d) =
    subst (LoadedModeFits c.editor j v) ok.0 (sound.modes.loaded j v
    (at_or c.views j no_view a.there)) in
    let counts = sound.split_counts.counts d ok.2 in let few = few_puts c sound in
    ⊎_elim
    (λ (t : (drain c.editor d).phase ≡ phase.Killed). absurd (let b = (counts.killed t).1 in
    omega arith))
    (λ (t : (drain c.editor d).phase ≡ phase.Folded). last_put_ends c j d sound a t left_none)
    fits.2
  where
    left_none : (disk (next_core c j (AddShared d false)) d).shared ≡ 0
    left_none = ap (λ (k : Disk). k.shared) (get_or-set_same c.disks d _ no_disk a.may.2)
        ∙ ap (word_after false) (word_is found)

words_up : (u d : ℕ) → ((u + (18446744073709551616 - d % 18446744073709551616)) %
    18446744073709551616 + 1) % 18446744073709551616
    ≡ (u + 1 + (18446744073709551616 - d % 18446744073709551616)) % 18446744073709551616
words_up u d = omega arith

words_down : (u d : ℕ) → ((u + (18446744073709551616 - d % 18446744073709551616)) %
    18446744073709551616 + 18446744073709551615) % 18446744073709551616
    ≡ (u + (18446744073709551616 - (d + 1) % 18446744073709551616)) % 18446744073709551616
words_down u d = omega arith

pub words_follow_counts : WordsFollowCounts
words_follow_counts true x = words_up x.ups x.downs
words_follow_counts false x = words_down x.ups x.downs

-- ## What a look tells

looked_tells : (m : Mark) (w : ℕ) → IsPassedOrNoted w (looked m w)
looked_tells Unseen w = by_case (is_odd w) refl
  where
    by_case : (z : Bool) → is_odd w ≡ z → IsPassedOrNoted w (cond z (Noted w) Passed)
    by_case true e = inr (refl, e)
    by_case false e = inl refl
looked_tells (Noted x) w = by_case (is_odd w) (w == x) refl (eqb-true w x)
  where
    by_case : (z y : Bool) → is_odd w ≡ z → (y ≡ true → w ≡ x)
        → IsPassedOrNoted w (cond z (cond y (Noted x) Passed) Passed)
    by_case true true e same = inr (ap (λ i. Noted i) (sym (same refl)), e)
    by_case true false e same = inl refl
    by_case false y e same = inl refl
looked_tells Passed w = inl refl

mark_tells : (o w : ℕ) (ms : List Mark) → o < length ms
    → IsPassedOrNoted w (mark (at_mark o w ms) o)
mark_tells o w ms near = subst (IsPassedOrNoted w) (sym (get_or-set_same ms o (looked (mark ms o) w)
    Unseen near)) (looked_tells (mark ms o) w)

pub look_tells : LookTells
look_tells c j o w sound a found = let same : (view c.views o).word ≡ w = word_is found in
    let ok = a.may in let many = sound.sections.marked in
    subst (λ (x : ℕ). IsPassedOrNoted w (mark (at_mark o x c.editor.marks) o)
    × ((d : ℕ) → (drain c.editor d).phase ≡ phase.Killed
    → IsPassedOrNoted w (mark (drain (looked_at o x c.editor) d).marks o))) (sym same)
    (mark_tells o w c.editor.marks (omega arith), λ d killed. at_disk d killed)
  where
    at_disk : (d : ℕ) → (drain c.editor d).phase ≡ phase.Killed
        → IsPassedOrNoted w (mark (drain (looked_at o w c.editor) d).marks o)
    at_disk d killed = let b : Drain = drain c.editor d in let long =
        (sound.modes.wide d killed).1 in let near = a.may.1 in
        let kept : at_drain o w b ≡ record b { marks = at_mark o w b.marks } =
        rw (ap is_killed killed) refl in
        subst (λ (z : Drain). IsPassedOrNoted w (mark z.marks o))
        (sym (drain_looked o w c.editor.drains d ∙ kept)) (mark_tells o w b.marks (omega arith))

-- ## What a place tells

-- what is set at a seat is found there
set_at : (l : List View) (j : ℕ) (w : View) → j < length l → view (set l j w) j ≡ w
set_at l j w near = get_or-set_same l j w no_view near

module _ (c : Core) (j : ℕ) (sound : IsSound c) where
  new_at : (k : Kind) (w : View) → j < length c.views → (next_core c j k).views ≡ set c.views j w
      → w.seen ≡ c.given + 1 → place_in (answer_of c j k) ≡ c.given → IsNewPlace c j k
  new_at k w there views seen told = record {
    told = told;
    unseen = sound.places.seen j (view c.views j) (at_or c.views j no_view there);
    seen = ap (λ (l : List View). (view l j).seen) views
        ∙ (ap (λ (v : View). v.seen) (set_at c.views j w there) ∙ seen);
  }

  new_place : (k : Kind) → j < length c.views → takes_place k ≡ true → IsNewPlace c j k
  new_place (DrawPlace t) there e = new_at (DrawPlace t) _ there refl refl refl
  new_place (Publish t) there e = new_at (Publish t) _ there refl refl refl
  new_place (PlaceDone d t) there e = new_at (PlaceDone d t) _ there refl refl refl
  new_place (PlaceExecute n t) there e = new_at (PlaceExecute n t) _ there refl refl refl
  new_place EnterSection there e = absurd (let h : false ≡ true = e in grind arith)
  new_place (LoadRow w) there e = absurd (let h : false ≡ true = e in grind arith)
  new_place LeaveSection there e = absurd (let h : false ≡ true = e in grind arith)
  new_place (StoreRow w x) there e = absurd (let h : false ≡ true = e in grind arith)
  new_place (LookSection o) there e = absurd (let h : false ≡ true = e in grind arith)
  new_place (LoadMode d) there e = absurd (let h : false ≡ true = e in grind arith)
  new_place (AddOwn d up) there e = absurd (let h : false ≡ true = e in grind arith)
  new_place (AddShared d up) there e = absurd (let h : false ≡ true = e in grind arith)
  new_place (Split t) there e = absurd (let h : false ≡ true = e in grind arith)
  new_place (Join p) there e = absurd (let h : false ≡ true = e in grind arith)
  new_place (Kill d) there e = absurd (let h : false ≡ true = e in grind arith)
  new_place (LookCounter d o) there e = absurd (let h : false ≡ true = e in grind arith)
  new_place (Fold d x) there e = absurd (let h : false ≡ true = e in grind arith)
  new_place (LookZero d) there e = absurd (let h : false ≡ true = e in grind arith)
  new_place (LiveShared d) there e = absurd (let h : false ≡ true = e in grind arith)
  new_place (LiveMode d) there e = absurd (let h : false ≡ true = e in grind arith)
  new_place (TakeTurn n) there e = absurd (let h : false ≡ true = e in grind arith)
  new_place (SlotOut n) there e = absurd (let h : false ≡ true = e in grind arith)
  new_place (SlotIn n) there e = absurd (let h : false ≡ true = e in grind arith)
  new_place (GiveTurn n) there e = absurd (let h : false ≡ true = e in grind arith)

pub places_are_new : PlacesAreNew
places_are_new c j k sound a takes = new_place c j sound k a.there takes

pub join_keeps_the_larger : JoinKeepsTheLarger
join_keeps_the_larger c j p a = let ok = a.may in
    ap (λ (v : View). v.seen) (get_or-set_other (set c.views j _) p j _ no_view (λ e. ok.0 (sym e))
    ∙ set_at c.views j _ a.there)

-- ## What a step leaves alone

before_end : {A : Type 0} (l : List A) (x : A) (i : ℕ) (a : A) → get_elem? l i ≡ some a
    → get_elem? (l ++ x ∷ []) i ≡ some a
before_end [] x i a e = absurd (some-ne-none a (sym e))
before_end (y ∷ ys) x zero a e = e
before_end (y ∷ ys) x (suc i) a e = before_end ys x i a e

module _ (c : Core) (j : ℕ) (i : ℕ) (v : View) (other : i ≢ j) (at : At c.views i v) where
  beside : (w : View) → At (set c.views j w) i v
  beside w = set_else c.views j i w other ∙ at

  stays : (k : Kind) → ((p : ℕ) → k ≡ Join p → i ≢ p) → At (next_core c j k).views i v
  stays EnterSection not_joined = beside _
  stays (DrawPlace t) not_joined = beside _
  stays (LoadRow w) not_joined = at
  stays LeaveSection not_joined = beside _
  stays (StoreRow w x) not_joined = at
  stays (Publish t) not_joined = beside _
  stays (LookSection o) not_joined = at
  stays (LoadMode d) not_joined = beside _
  stays (AddOwn d up) not_joined = beside _
  stays (AddShared d up) not_joined = beside _
  stays (Split t) not_joined = before_end (set c.views j _) _ i v (beside _)
  stays (Join p) not_joined = set_else (set c.views j _) p i _ (not_joined p refl) ∙ beside _
  stays (Kill d) not_joined = at
  stays (LookCounter d o) not_joined = at
  stays (Fold d x) not_joined = at
  stays (LookZero d) not_joined = by_case ((disk c d).shared == 0)
    where
      by_case : (z : Bool) → At (cond z (record c {
        editor =
            record c.editor {
              drains = set c.editor.drains d (record (drain c.editor d) {
                phase =
                    phase.Drained;
                done_placed = false;
              });
            };
      }) c).views i v
      by_case true = at
      by_case false = at
  stays (PlaceDone d t) not_joined = beside _
  stays (LiveShared d) not_joined = at
  stays (LiveMode d) not_joined = at
  stays (TakeTurn n) not_joined = by_case (get_or c.turns n 0 == 0)
    where
      by_case : (z : Bool) → At (cond z (record (record c {
        turns =
            set c.turns n (j + 1);
      }) {
        views = set c.views j (record (view c.views j) {
          turns =
              record { slot = n; out = false } ∷ (view c.views j).turns;
        });
      }) c).views i v
      by_case true = beside _
      by_case false = at
  stays (SlotOut n) not_joined = beside _
  stays (PlaceExecute n t) not_joined = beside _
  stays (SlotIn n) not_joined = beside _
  stays (GiveTurn n) not_joined = beside _

pub others_stay : OthersStay
others_stay c j k i v other not_joined at = stays c j i v other at k not_joined

-- ## Who has every entry

pub entries_and_places_left : EntriesAndPlacesLeft
entries_and_places_left c sound = let a = sound.places.all in let b = sound.places.left in
    omega arith

pub gathered_has_all : GatheredHasAll
gathered_has_all c j v sound at all =
    let a : total (λ u. total any_entry (kept u)) (set c.views j no_view) + total any_entry (kept v)
    ≡ entries any_entry c.views + 0 = total_set (λ (u : View). total any_entry (kept u)) c.views
    j v no_view at in
    let b : total (λ u. u.left) (set c.views j no_view) + v.left ≡ total (λ u. u.left) c.views + 0 =
    total_set (λ (u : View). u.left) c.views j v no_view at in
    let many = sound.places.all in let left = sound.places.left in
    let others : entries any_entry (set c.views j no_view) ≡ 0 = omega arith in
    (omega arith, λ k. here k others)
  where
    at_most : (b : Bool) → one_if b ≤ 1
    at_most true = omega arith
    at_most false = omega arith

    here : (k : ℕ) → entries any_entry (set c.views j no_view) ≡ 0
        → total (has_place k) (kept v) ≡ once_below k c.given
    here k others = let few : entries (has_place k) (set c.views j no_view) ≤ entries any_entry
        (set c.views j no_view)
        = total_le (λ (u : View). total (has_place k) (kept u))
        (λ (u : View). total any_entry (kept u)) (λ u. total_le (has_place k) any_entry
        (λ e. at_most (e.place == k)) (kept u)) (set c.views j no_view) in
        let mine : entries (has_place k) (set c.views j no_view) + total (has_place k) (kept v)
        ≡ entries (has_place k) c.views + 0 = total_set (λ (u : View). total (has_place k)
        (kept u)) c.views j v no_view at in
        let once = sound.places.once k in omega arith
