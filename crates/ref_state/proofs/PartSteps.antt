-- split and join keep soundness: they leave all collections as they are.
use Rattle.std.proofs.Common.{◌≡◌, ◌≢◌, ◌⊎◌, ℕ, ◌+◌, ◌<◌, ◌≤◌, List, [], ◌∷◌, ◌++◌, length, set, sym, refl, ap, ◌∙◌, subst, inl, inr, ⊎_elim, arith, Some, None, length-set, length-append, max}
use mathlib.Core.Option.{some}
use lib.ListN.{get_elem?}
use Rattle.ref_state.specs.declared.kinds.Take.{Take}
use Rattle.ref_state.specs.declared.kinds.Take.TheVariants as take
use Rattle.ref_state.specs.declared.kinds.Kind.TheVariants.{Split, Join}
use Rattle.ref_state.specs.declared.state.Entry.{Entry}
use Rattle.ref_state.specs.declared.state.Hold.{Hold}
use Rattle.ref_state.specs.declared.state.Section.TheVariants.{Out}
use Rattle.ref_state.specs.declared.state.Role.TheVariants.{Seat, Part, Spent}
use Rattle.ref_state.specs.declared.state.LoadedMode.TheVariants.{NotLoaded}
use Rattle.ref_state.specs.declared.state.View.{View}
use Rattle.ref_state.specs.declared.state.State.{State as Core}
use Rattle.ref_state.specs.State.{At, total, own_entry, kept, entries, holds, has_place, any_entry, has_got, got_at, got_by, submit_got, bare_got, execute_of, published_entry, any_hold, on_disk, waiting_hold, done_hold, bare_hold, of_slot, is_odd, is_open, read, Reads, Shows, mark, IsAwaited, IsLiveOrAwaited, disk, drain, no_view, view}
use Rattle.ref_state.specs.Steps.{is_least, after_step, MayStep, is_on, is_at, after_split, split_part, MayTake, after_join, spent_view, without, MayLoad}
use Rattle.ref_state.specs.Soundness.{Each, Every, EntryOk, KeepsSeen, LoadedModeFits}
use Rattle.ref_state.proofs.Whole.{Counts, Whole}
use Rattle.ref_state.proofs.Lists.{total_append, total_set, each_set, at_or}
use Rattle.ref_state.proofs.ShownKept.{loaded_stays}
use Rattle.ref_state.proofs.Lists.{at_end, set_else, every_append, every_left, every_map, every_right, every_without, parted, some_append}

-- ## A split

pub total_split : (f : View → ℕ) (views : List View) (j : ℕ) (v w u : View) → At views j v
    → f w + f u ≡ f v → total f (set views j w ++ u ∷ []) ≡ total f views
total_split f views j v w u at same = let a = total_append f (set views j w) (u ∷ []) in
    let b = total_set f views j v w at in omega arith

pub each_split : (P : ℕ → View → Type 0) (views : List View) (j : ℕ) (w u : View) → Each views P
    → P j w → ((i : ℕ) → i ≡ length views → P i u) → Each (set views j w ++ u ∷ []) P
each_split P views j w u all mine new i x e = ⊎_elim (λ (t : get_elem? (set views j w) i
    ≡ some x). each_set P views j w all mine i x t) (λ (t : (i ≡ length (set views j w))
    × (u ≡ x)). subst (P i) t.1 (new i (t.0
    ∙ length-set views j w))) (at_end (set views j w) u i x e)

pub holds_parted : (t : Take) (v : View) (f : Hold → ℕ) → total f (after_split t v).holds
    + total f (split_part t v).holds ≡ total f v.holds
holds_parted take.Nothing v f = omega arith
holds_parted (take.Hold d) v f = parted (is_least (is_on d) v.holds) f v.holds
holds_parted take.Place v f = omega arith
holds_parted (take.Entry p) v f = omega arith

entries_parted : (t : Take) (v : View) (f : Entry → ℕ) → total f (kept (after_split t v))
    + total f (kept (split_part t v)) ≡ total f (kept v)
entries_parted take.Nothing v f = omega arith
entries_parted (take.Hold d) v f = omega arith
entries_parted take.Place v f = omega arith
entries_parted (take.Entry p) v f = let a =
    total_append f (own_entry v.section) (without (is_at p) v.entries) in
    let b = total_append f (own_entry v.section) v.entries in
    let c = parted (is_at p) f v.entries in omega arith

left_parted : (t : Take) (v : View) → MayTake t v → (after_split t v).left + (split_part t v).left
    ≡ v.left
left_parted take.Nothing v m = omega arith
left_parted (take.Hold d) v m = omega arith
left_parted take.Place v m = omega arith
left_parted (take.Entry p) v m = omega arith

pub turns_parted : (t : Take) (v : View) → ((after_split t v).turns ≡ v.turns)
    × ((split_part t v).turns ≡ [])
turns_parted take.Nothing v = (refl, refl)
turns_parted (take.Hold d) v = (refl, refl)
turns_parted take.Place v = (refl, refl)
turns_parted (take.Entry p) v = (refl, refl)

pub numbers_parted : (t : Take) (v : View) → ((after_split t v).number ≡ v.number)
    × ((split_part t v).number ≡ v.number)
numbers_parted take.Nothing v = (refl, refl)
numbers_parted (take.Hold d) v = (refl, refl)
numbers_parted take.Place v = (refl, refl)
numbers_parted (take.Entry p) v = (refl, refl)

-- what the seat keeps of itself
pub same_seat : (t : Take) (v : View) → ((after_split t v).role ≡ v.role)
    × ((after_split t v).word ≡ v.word) × ((after_split t v).section ≡ v.section)
    × ((after_split t v).loaded ≡ v.loaded) × ((after_split t v).seen ≡ v.seen)
same_seat take.Nothing v = (refl, refl, refl, refl, refl)
same_seat (take.Hold d) v = (refl, refl, refl, refl, refl)
same_seat take.Place v = (refl, refl, refl, refl, refl)
same_seat (take.Entry p) v = (refl, refl, refl, refl, refl)

pub part_is : (t : Take) (v : View) → ((split_part t v).role ≡ Part) × ((split_part t v).word ≡ 0)
    × ((split_part t v).section ≡ Out) × ((split_part t v).loaded ≡ NotLoaded)
    × ((split_part t v).seen ≡ v.seen)
part_is take.Nothing v = (refl, refl, refl, refl, refl)
part_is (take.Hold d) v = (refl, refl, refl, refl, refl)
part_is take.Place v = (refl, refl, refl, refl, refl)
part_is (take.Entry p) v = (refl, refl, refl, refl, refl)

pub every_parted : (P : Entry → Type 0) (t : Take) (v : View) → Every P (kept v)
    → Every P (kept (after_split t v)) × Every P (kept (split_part t v))
every_parted P take.Nothing v a = (a, tt)
every_parted P (take.Hold d) v a = (a, tt)
every_parted P take.Place v a = (a, tt)
every_parted P (take.Entry p) v a = let b =
    every_without P (is_at p) v.entries (every_right P (own_entry v.section) v.entries a) in (
      every_append P (own_entry v.section) (without (is_at p) v.entries)
          (every_left P (own_entry v.section) v.entries a) b.0,
      b.1,
    )

pub every_hold_parted : (P : Hold → Type 0) (t : Take) (v : View) → Every P v.holds
    → Every P (after_split t v).holds × Every P (split_part t v).holds
every_hold_parted P take.Nothing v a = (a, tt)
every_hold_parted P (take.Hold d) v a = every_without P (is_least (is_on d) v.holds) v.holds a
every_hold_parted P take.Place v a = (a, tt)
every_hold_parted P (take.Entry p) v a = (a, tt)

pub every_done_parted : (P : Entry → Type 0) (t : Take) (v : View) → Every P v.entries
    → Every P (after_split t v).entries × Every P (split_part t v).entries
every_done_parted P take.Nothing v a = (a, tt)
every_done_parted P (take.Hold d) v a = (a, tt)
every_done_parted P take.Place v a = (a, tt)
every_done_parted P (take.Entry p) v a = every_without P (is_at p) v.entries a

module _ (c : Core) (j : ℕ) (v : View) (sits : At c.views j v) (seat : v.role
    ≡ Seat) (s : Whole c) where
  pub splits : (t : Take) → MayStep c j v (Split t) → Whole (after_step c j v (Split t))
  splits t ok = let w : View = after_split t v in let u : View = split_part t v in
      let me = same_seat t v in let it = part_is t v in record {
        puts = s.puts;
        places = record {
          once = λ k. entries_same (has_place k) ∙ s.places.once k;
          all = entries_same any_entry ∙ s.places.all;
          each = each_split (λ _ x. Every (EntryOk c.given c.editor.published) (kept x)) c.views j w u
              s.places.each (every_parted (EntryOk c.given c.editor.published) t v
              (s.places.each j v sits)).0 (λ i _. (every_parted (EntryOk c.given c.editor.published) t v
              (s.places.each j v sits)).1);
          published = (s.places.published.0, entries_same published_entry ∙ s.places.published.1);
          rising = s.places.rising;
          left = let a = total_split (λ x. x.left) c.views j v w u sits (left_parted t v ok.1) in
              let b = s.places.left in omega arith;
          small = s.places.small;
          seen = each_split (λ _ x. x.seen ≤ c.given) c.views j w u s.places.seen
              (subst (λ (n : ℕ). n ≤ c.given) (sym me.4) (s.places.seen j v sits))
              (λ i _. subst (λ (n : ℕ). n ≤ c.given) (sym it.4) (s.places.seen j v sits));
          known = let k = s.places.known j v sits in
              let es = every_parted (λ e. e.place < v.seen) t v k.0 in
              let hs = every_hold_parted (λ h. h.place < v.seen) t v k.1 in
              each_split (λ _ x. KeepsSeen x) c.views j w u s.places.known (knows w es.0 hs.0 me.4)
              (λ i _. knows u es.1 hs.1 it.4);
        };
        sides = record {
          two = s.sides.two;
          confs = s.sides.confs;
          wide = s.sides.wide;
          last = s.sides.last;
          spare = s.sides.spare;
          still = s.sides.still;
          reads = each_split (λ _ x. (r : ℕ) → Reads x r → (r ≡ c.serial)
              ⊎ (r + 1 ≡ c.serial)) c.views j w u s.sides.reads (λ r e. s.sides.reads j v sits r
              (sym (ap read me.2) ∙ e)) (λ i _ r e. absurd (none_read t v it.2 r e));
        };
        sections = record {
          many = (let l = length-set c.views j w in let a = length-append (set c.views j w) (u ∷ []) in
              let m = s.sections.many in omega arith);
          marked = s.sections.marked;
          seats_first = each_split (λ i x. (x.role ≡ Seat → i < c.seats)
              × (x.role ≢ Seat → x.section ≡ Out)) c.views j w u s.sections.seats_first (
                (λ e. (s.sections.seats_first j v sits).0 seat),
                λ other. absurd (other (me.0
                    ∙ seat)),
              ) (λ i _. (
                (λ e. absurd (let h : Part ≡ Seat = sym it.0 ∙ e in grind arith)),
                λ _. it.2,
              ));
          odd = each_split (λ _ x. is_odd x.word
              ≡ is_open x.section) c.views j w u s.sections.odd (ap is_odd me.1
              ∙ (s.sections.odd j v sits ∙ ap is_open (sym me.2))) (λ i _. ap is_odd it.1
              ∙ ap is_open (sym it.2));
          old = each_split (λ i x. (r : ℕ) → Reads x r → r + 1 ≡ c.serial
              → IsAwaited (mark c.editor.marks i) x.word) c.views j w u s.sections.old
              (λ r e last. subst (λ z. IsAwaited (mark c.editor.marks j) z) (sym me.1)
              (s.sections.old j v sits r (sym (ap read me.2)
              ∙ e) last)) (λ i _ r e last. absurd (none_read t v it.2 r e));
        };
        references = record {
          puts = let a = holds_same any_hold in let b = entries_same has_got in
              let d = s.references.puts in omega arith;
          as_many = s.references.as_many;
          counts = λ d near. subst (λ (z : ℕ × ℕ). Counts c.seats z.0 s.puts z.1 (disk c d)
              (drain c.editor d)) (λ i. (
                sym (entries_same has_got) i,
                sym (holds_same (on_disk d)) i,
              )) (s.references.counts d near);
        };
        modes = record {
          mode = s.modes.mode;
          loaded = each_split (λ i x. LoadedModeFits c.editor i x x.loaded) c.views j w u s.modes.loaded
              (subst (LoadedModeFits c.editor j w) (sym (me.3
              ∙ ok.0)) tt) (λ i _. subst (LoadedModeFits c.editor i u) (sym it.3) tt);
          looked = s.modes.looked;
          wide = s.modes.wide;
        };
        shown = record {
          last = s.shown.last;
          sections = λ d. each_split (λ i x. (r : ℕ) → Reads x r → Shows c.editor r d
              → IsLiveOrAwaited (drain c.editor d) i x.word) c.views j w u (s.shown.sections d)
              (λ r e shows. subst (IsLiveOrAwaited (drain c.editor d) j) (sym me.1)
              (s.shown.sections d j v sits r (sym (ap read me.2)
              ∙ e) shows)) (λ i _ r e shows. absurd (none_read t v it.2 r e));
        };
        turns = let both = turns_parted t v in let named = numbers_parted t v in record {
          numbered = each_split (λ i x. (i < c.seats → x.number ≡ i)
              × (x.number < c.seats)) c.views j w u s.turns.numbered
              (subst (λ (n : ℕ). (j < c.seats → n ≡ j)
              × (n < c.seats)) (sym named.0) (s.turns.numbered j v sits))
              (λ i end. (
                (λ near. absurd (let m = s.sections.many in omega arith)),
                subst (λ (n : ℕ). n < c.seats) (sym named.1) (s.turns.numbered j v sits).1,
              ));
          holders = λ n near. total_split (λ x. total (of_slot n) x.turns) c.views j v w u sits (let a =
              ap (total (of_slot n)) both.0 in let b = ap (total (of_slot n)) both.1 in omega arith)
              ∙ s.turns.holders n near;
          owner = each_split (λ i x. Every (λ y. get_elem? c.turns y.slot
              ≡ some (i + 1)) x.turns) c.views j w u s.turns.owner
              (subst (Every (λ y. get_elem? c.turns y.slot ≡ some (j
              + 1))) (sym both.0) (s.turns.owner j v sits))
              (λ i _. subst (Every (λ y. get_elem? c.turns y.slot ≡ some (i + 1))) (sym both.1) tt);
        };
        executes = record {
          of_one = λ k p. let a = holds_same (got_by k p) in let b = entries_same (got_at k p) in
              let e = s.executes.of_one k p in omega arith;
          submits = λ k p. let a = holds_same (waiting_hold k p) in
              let b = entries_same (execute_of k p) in let d = entries_same (submit_got k p) in
              let e = s.executes.submits k p in omega arith;
          executed = λ k p. let a = holds_same (done_hold k p) in
              let b = entries_same (execute_of k p) in let e = s.executes.executed k p in omega arith;
          bare = λ k p. let a = holds_same (bare_hold k p) in let b = entries_same (bare_got k p) in
              let e = s.executes.bare k p in omega arith;
        };
      }
    where
      knows : (x : View) → Every (λ e. e.place < v.seen) (kept x)
          → Every (λ h. h.place < v.seen) x.holds → x.seen ≡ v.seen → KeepsSeen x
      knows x es hs same = (
        subst (λ (n : ℕ). Every (λ e. e.place < n) (kept x)) (sym same) es,
        subst (λ (n : ℕ). Every (λ h. h.place < n) x.holds) (sym same) hs,
      )

      none_read : (t : Take) (v : View) → (split_part t v).section ≡ Out → (r : ℕ)
          → Reads (split_part t v) r → ⊥
      none_read t v out r e = let h : None ≡ Some r = sym (ap read out) ∙ e in grind arith

      entries_same : (f : Entry → ℕ) → entries f (set c.views j (after_split t v)
          ++ split_part t v ∷ []) ≡ entries f c.views
      entries_same f = total_split (λ x. total f (kept x)) c.views j v (after_split t v)
          (split_part t v) sits (entries_parted t v f)

      holds_same : (f : Hold → ℕ) → holds f (set c.views j (after_split t v) ++ split_part t v ∷ [])
          ≡ holds f c.views
      holds_same f = total_split (λ x. total f x.holds) c.views j v (after_split t v)
          (split_part t v) sits (holds_parted t v f)

  -- ## A join

  -- the part is taken in, and leaves what it kept
  pub joins : (p : ℕ) → MayStep c j v (Join p) → Whole (after_step c j v (Join p))
  joins p ok = let u : View = view c.views p in let w : View = after_join v u in let out = ok.4 in
      record {
        puts = s.puts;
        places = record {
          once = λ k. entries_same p ok (has_place k) ∙ s.places.once k;
          all = entries_same p ok any_entry ∙ s.places.all;
          each = each_join p ok (λ _ x. Every (EntryOk c.given c.editor.published) (kept x))
              s.places.each
              (let a = s.places.each j v sits in let b = s.places.each p u (there p ok) in
              let P = EntryOk c.given c.editor.published in
              every_append P (own_entry v.section) (u.entries
              ++ v.entries) (every_left P (own_entry v.section) v.entries a)
              (every_append P u.entries v.entries (every_right P (own_entry u.section) u.entries b)
              (every_right P (own_entry v.section) v.entries a))) tt;
          published = (s.places.published.0, entries_same p ok published_entry ∙ s.places.published.1);
          rising = s.places.rising;
          left = let a = total_join p ok (λ x. x.left) (omega arith) in let b = s.places.left in
              omega arith;
          small = s.places.small;
          seen = each_join p ok (λ _ x. x.seen ≤ c.given) s.places.seen (let a =
              s.places.seen j v sits in let b = s.places.seen p u (there p ok) in
              omega arith) (omega arith);
          known = each_join p ok (λ _ x. KeepsSeen x) s.places.known
              (knows_both u (s.places.known j v sits) (s.places.known p u (there p ok))) (tt, tt);
        };
        sides = record {
          two = s.sides.two;
          confs = s.sides.confs;
          wide = s.sides.wide;
          last = s.sides.last;
          spare = s.sides.spare;
          still = s.sides.still;
          reads = each_join p ok (λ _ x. (r : ℕ) → Reads x r → (r ≡ c.serial)
              ⊎ (r + 1 ≡ c.serial)) s.sides.reads (s.sides.reads j v sits) (λ r e. absurd (let h : None
              ≡ Some r = e in grind arith));
        };
        sections = record {
          many = (let l = length-set c.views j w in
              let a = length-set (set c.views j w) p (spent_view u) in let m = s.sections.many in
              omega arith);
          marked = s.sections.marked;
          seats_first = each_join p ok (λ i x. (x.role ≡ Seat → i < c.seats)
              × (x.role ≢ Seat → x.section ≡ Out)) s.sections.seats_first
              (s.sections.seats_first j v sits) (
                (λ e. absurd (let h : Spent ≡ Seat = e in
                    grind arith)),
                λ _. refl,
              );
          odd = each_join p ok (λ _ x. is_odd x.word
              ≡ is_open x.section) s.sections.odd (s.sections.odd j v sits)
              (s.sections.odd p u (there p ok) ∙ ap is_open out);
          old = each_join p ok (λ i x. (r : ℕ) → Reads x r → r + 1 ≡ c.serial
              → IsAwaited (mark c.editor.marks i) x.word) s.sections.old (s.sections.old j v sits)
              (λ r e last. absurd (let h : None ≡ Some r = e in grind arith));
        };
        references = record {
          puts = let a = holds_same p ok any_hold in let b = entries_same p ok has_got in
              let d = s.references.puts in omega arith;
          as_many = s.references.as_many;
          counts = λ d near. subst (λ (z : ℕ × ℕ). Counts c.seats z.0 s.puts z.1 (disk c d)
              (drain c.editor d)) (λ i. (
                sym (entries_same p ok has_got) i,
                sym (holds_same p ok (on_disk d)) i,
              )) (s.references.counts d near);
        };
        modes = record {
          mode = s.modes.mode;
          loaded = each_join p ok (λ i x. LoadedModeFits c.editor i x x.loaded) s.modes.loaded
              (loaded_stays c.editor j v w v.loaded refl refl (may_more u) (s.modes.loaded j v sits))
              tt;
          looked = s.modes.looked;
          wide = s.modes.wide;
        };
        shown = record {
          last = s.shown.last;
          sections = λ d. each_join p ok (λ i x. (r : ℕ) → Reads x r → Shows c.editor r d
              → IsLiveOrAwaited (drain c.editor d) i x.word) (s.shown.sections d)
              (s.shown.sections d j v sits) (λ r e shows. absurd (let h : None ≡ Some r = e in
              grind arith));
        };
        turns = record {
          numbered = each_join p ok (λ i x. (i < c.seats → x.number ≡ i)
              × (x.number < c.seats)) s.turns.numbered (s.turns.numbered j v sits)
              (s.turns.numbered p u (there p ok));
          holders = λ n near. total_join p ok (λ x. total (of_slot n) x.turns) (let a =
              ap (total (of_slot n)) ok.6 in omega arith) ∙ s.turns.holders n near;
          owner = each_join p ok (λ i x. Every (λ y. get_elem? c.turns y.slot
              ≡ some (i + 1)) x.turns) s.turns.owner (s.turns.owner j v sits) tt;
        };
        executes = record {
          of_one = λ k q. let a = holds_same p ok (got_by k q) in
              let b = entries_same p ok (got_at k q) in let e = s.executes.of_one k q in omega arith;
          submits = λ k q. let a = holds_same p ok (waiting_hold k q) in
              let b = entries_same p ok (execute_of k q) in let d =
              entries_same p ok (submit_got k q) in let e = s.executes.submits k q in omega arith;
          executed = λ k q. let a = holds_same p ok (done_hold k q) in
              let b = entries_same p ok (execute_of k q) in let e = s.executes.executed k q in
              omega arith;
          bare = λ k q. let a = holds_same p ok (bare_hold k q) in
              let b = entries_same p ok (bare_got k q) in let e = s.executes.bare k q in omega arith;
        };
      }
    where
      there : (p : ℕ) → MayStep c j v (Join p) → At c.views p (view c.views p)
      there p ok = at_or c.views p no_view ok.2

      there_after : (p : ℕ) (ok : MayStep c j v (Join p))
          → At (set c.views j (after_join v (view c.views p))) p (view c.views p)
      there_after p ok = set_else c.views j p (after_join v (view c.views p)) ok.0
          ∙ at_or c.views p no_view ok.2

      total_join : (p : ℕ) (ok : MayStep c j v (Join p)) (f : View → ℕ)
          → f (after_join v (view c.views p)) + f (spent_view (view c.views p)) ≡ f v
          + f (view c.views p) → total f (after_step c j v (Join p)).views ≡ total f c.views
      total_join p ok f same = let a = total_set f c.views j v (after_join v (view c.views p)) sits
          in let b = total_set f (set c.views j (after_join v (view c.views p))) p (view c.views p)
          (spent_view (view c.views p)) (set_else c.views j p (after_join v (view c.views p)) ok.0
          ∙ at_or c.views p no_view ok.2) in omega arith

      each_join : (p : ℕ) (ok : MayStep c j v (Join p)) (P : ℕ → View → Type 0) → Each c.views P
          → P j (after_join v (view c.views p)) → P p (spent_view (view c.views p))
          → Each (after_step c j v (Join p)).views P
      each_join p ok P all mine other = each_set P (set c.views j (after_join v (view c.views p))) p
          (spent_view (view c.views p)) (each_set P c.views j (after_join v (view c.views p)) all
          mine) other

      entries_same : (p : ℕ) (ok : MayStep c j v (Join p)) (f : Entry → ℕ)
          → entries f (after_step c j v (Join p)).views ≡ entries f c.views
      entries_same p ok f = let u : View = view c.views p in total_join p ok (λ x. total f (kept x))
          (let a = total_append f (own_entry v.section) (u.entries ++ v.entries) in
          let b = total_append f u.entries v.entries in let d =
          total_append f (own_entry v.section) v.entries in
          let e = total_append f (own_entry u.section) u.entries in
          let g : total f (own_entry u.section) ≡ 0 = ap (λ z. total f (own_entry z)) ok.4 in
          omega arith)

      holds_same : (p : ℕ) (ok : MayStep c j v (Join p)) (f : Hold → ℕ)
          → holds f (after_step c j v (Join p)).views ≡ holds f c.views
      holds_same p ok f = let u : View = view c.views p in
          total_join p ok (λ x. total f x.holds) (let a = total_append f u.holds v.holds in
          omega arith)

      may_more : (u : View) (d : ℕ) → MayLoad c.editor v d → MayLoad c.editor (after_join v u) d
      may_more u d may = ⊎_elim (λ (m : (r : ℕ) × Reads v r
          × Shows c.editor r d). inl m) (λ m. inr (some_append (is_on d) u.holds v.holds m)) may

      knows_both : (u : View) → KeepsSeen v → KeepsSeen u → KeepsSeen (after_join v u)
      knows_both u a b = let m : ℕ = max v.seen u.seen in let P : Entry
          → Type 0 = λ e. e.place < m in let Q : Hold → Type 0 = λ h. h.place < m in
          let mine : Every P (kept v) = every_map (λ (x : Entry) (h : x.place < v.seen). omega
          arith) (kept v) a.0 in let other : Every P (kept u) =
          every_map (λ (x : Entry) (h : x.place < u.seen). omega arith) (kept u) b.0 in (
            every_append P (own_entry v.section) (u.entries
                ++ v.entries) (every_left P (own_entry v.section) v.entries mine)
                (every_append P u.entries v.entries (every_right P (own_entry u.section) u.entries
                other) (every_right P (own_entry v.section) v.entries mine)),
            every_append Q u.holds v.holds (every_map (λ (x : Hold) (h : x.place < u.seen). omega
                arith) u.holds b.1) (every_map (λ (x : Hold) (h : x.place < v.seen). omega arith)
                v.holds a.1),
          )
