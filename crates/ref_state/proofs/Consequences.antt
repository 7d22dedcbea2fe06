-- What soundness says of sides, gets, folded counts and the end of a life.
use Rattle.std.proofs.Common.{◌≡◌, ◌≢◌, ◌⊎◌, ℕ, zero, suc, ◌+◌, ◌-◌, ◌/◌, ◌%◌, ◌<◌, ◌==◌, cond, Bool, true, false, List, [], ◌∷◌, length, get_or, set, sym, refl, ap, ◌∙◌, subst, inl, inr, ⊎_elim, arith, Some, None, get_or-set_same, get_or-set_other}
use mathlib.Core.Logic.{dite}
use native.Mathlib.Decide.{ℕ_discrete}
use Rattle.ref_state.specs.declared.kinds.Kind.{Kind}
use Rattle.ref_state.specs.declared.kinds.Kind.TheVariants.{EnterSection, DrawPlace, LoadRow, LeaveSection, StoreRow, Publish, LookSection, LoadMode, AddOwn, AddShared, Split, Join, Kill, LookCounter, Fold, LookZero, PlaceDone, LiveShared, LiveMode, TakeTurn, SlotOut, PlaceExecute, SlotIn, GiveTurn}
use Rattle.ref_state.specs.declared.kinds.Answer.TheVariants as answer
use Rattle.ref_state.specs.declared.state.Section.{Section}
use Rattle.ref_state.specs.declared.state.Section.TheVariants.{Out, In, Placed}
use Rattle.ref_state.specs.declared.state.View.{View}
use Rattle.ref_state.specs.declared.state.Phase.{Phase}
use Rattle.ref_state.specs.declared.state.Phase.TheVariants as phase
use Rattle.ref_state.specs.declared.state.Drain.{Drain}
use Rattle.ref_state.specs.declared.state.State.{State as Core}
use Rattle.ref_state.specs.State.{At, total, holds_on, on_disk, read, Reads, side, conf, Shows, overlaid, disk, drain, no_drain, view, no_view, IsAwaited, mark}
use Rattle.ref_state.specs.Steps.{MayStep, MayAdd, IsAllowed, after_step, next_core, answer_of, serial_of, Step, Some_where, may_put, is_least, is_held, after_join, spent_view, after_split, split_part, at_drain}
use Rattle.ref_state.specs.Soundness.{IsSound}
use Rattle.ref_state.specs.Runs.{LastSerialAlone, ReadSideStays, RowsOfSerial, ConfsStay, ShownCounts, GetsMeetNoFold, FoldedIsHolds, IsOver, NoAddOn, LastPutEnds, DoneIsOver, OverStays}
use Rattle.ref_state.proofs.Lists.{or_set, at_or, some_is, total_set, total_same, total_one, total_append, set_else, first_passes, without_total, change_same}
use Rattle.ref_state.proofs.Least.{least_there, least_passes}
use Rattle.ref_state.proofs.ShownKept.{drain_looked, phase_looked}
use Rattle.ref_state.proofs.SideSteps.{recent, or_before}
use Rattle.ref_state.proofs.SectionSteps.{put_disk, here_on, else_on, hold_more}
use Rattle.ref_state.proofs.PartSteps.{holds_parted, total_split}
use Rattle.ref_state.proofs.Law.{sound_step}

-- ## Sides and sections

pub last_serial_alone : LastSerialAlone
last_serial_alone c j v s sound passed at reads =
    recent c.seats c.rows c.serial c.sides c.editor c.views sound.sides sound.sections passed j v s
    at reads

-- what is stored is on the side that no section reads
stored : (c : Core) (j w x : ℕ) → IsSound c → MayStep c j (view c.views j) (StoreRow w x)
    → (i : ℕ) (v : View) (s : ℕ) → At c.views i v → Reads v s
    → side (next_core c j (StoreRow w x)) s ≡ side c s
stored c j w x sound ok i v s at reads =
    let now : s ≡ c.serial = recent c.seats c.rows c.serial c.sides c.editor c.views sound.sides
    sound.sections ok.2 i v s at reads in
    get_or-set_other c.sides ((c.serial + 1) % 2) (s % 2) (set (side c (c.serial
    + 1)) w x) [] (λ e. omega arith)

pub read_side_stays : ReadSideStays
read_side_stays c j (StoreRow w x) sound a i v s at reads =
    stored c j w x sound a.may i v s at reads
read_side_stays c j EnterSection sound a i v s at reads = refl
read_side_stays c j (DrawPlace t) sound a i v s at reads = refl
read_side_stays c j (LoadRow w) sound a i v s at reads = refl
read_side_stays c j LeaveSection sound a i v s at reads = refl
read_side_stays c j (Publish t) sound a i v s at reads = refl
read_side_stays c j (LookSection o) sound a i v s at reads = refl
read_side_stays c j (LoadMode d) sound a i v s at reads = refl
read_side_stays c j (AddOwn d up) sound a i v s at reads = refl
read_side_stays c j (AddShared d up) sound a i v s at reads = refl
read_side_stays c j (Split t) sound a i v s at reads = refl
read_side_stays c j (Join p) sound a i v s at reads = refl
read_side_stays c j (Kill d) sound a i v s at reads = refl
read_side_stays c j (LookCounter d o) sound a i v s at reads = refl
read_side_stays c j (Fold d x) sound a i v s at reads = refl
read_side_stays c j (LookZero d) sound a i v s at reads = by_case ((disk c d).shared == 0)
  where
    by_case : (z : Bool) → side (cond z (record c {
      editor =
          record c.editor {
            drains = set c.editor.drains d (record (drain c.editor d) {
              phase =
                  phase.Drained;
              done_placed = false;
            });
          };
    }) c) s ≡ side c s
    by_case true = refl
    by_case false = refl
read_side_stays c j (PlaceDone d t) sound a i v s at reads = refl
read_side_stays c j (LiveShared d) sound a i v s at reads = refl
read_side_stays c j (LiveMode d) sound a i v s at reads = refl
read_side_stays c j (TakeTurn n) sound a i v s at reads = by_case (get_or c.turns n 0 == 0)
  where
    by_case : (z : Bool) → side (cond z (record (record c {
      turns =
          set c.turns n (j + 1);
    }) {
      views = set c.views j (record (view c.views j) {
        turns =
            record { slot = n; out = false } ∷ (view c.views j).turns;
      });
    }) c) s ≡ side c s
    by_case true = refl
    by_case false = refl
read_side_stays c j (SlotOut n) sound a i v s at reads = refl
read_side_stays c j (PlaceExecute n t) sound a i v s at reads = refl
read_side_stays c j (SlotIn n) sound a i v s at reads = refl
read_side_stays c j (GiveTurn n) sound a i v s at reads = refl

-- the side of an open section has the words of its serial
pub side_is : (c : Core) (i : ℕ) (v : View) (s : ℕ) → IsSound c → At c.views i v → Reads v s
    → side c s ≡ conf c.editor s
side_is c i v s sound at reads = ⊎_elim (λ (t : s ≡ c.serial). last t) (λ (t : s + 1
    ≡ c.serial). before t c.editor.pending refl) (sound.sides.reads i v at s reads)
  where
    last : s ≡ c.serial → side c s ≡ conf c.editor s
    last t = ap (λ (r : ℕ). get_or c.sides (r % 2) []) t ∙ (sound.sides.last
        ∙ ap (λ (r : ℕ). conf c.editor r) (sym t))

    before : s + 1 ≡ c.serial → (ps : List (ℕ × ℕ)) → c.editor.pending ≡ ps
        → side c s ≡ conf c.editor s
    before t [] none = let same : s % 2 ≡ (c.serial + 1) % 2 = omega arith in
        let back : c.serial - 1 ≡ s = omega arith in
        ap (λ (r : ℕ). get_or c.sides r []) same ∙ (sound.sides.spare
        ∙ (ap (overlaid (conf c.editor (c.serial - 1))) none
        ∙ ap (λ (r : ℕ). conf c.editor r) back))
    before t (p ∷ ps) was = last (recent c.seats c.rows c.serial c.sides c.editor c.views
        sound.sides sound.sections
        (sound.sides.still (λ e. let h : p ∷ ps ≡ [] = sym was ∙ e in grind arith)) i v s at reads)

serial_read : (z : Section) (s : ℕ) → read z ≡ Some s → serial_of z ≡ s
serial_read Out s e = absurd (let h : None ≡ Some s = e in grind arith)
serial_read In s e = absurd (let h : None ≡ Some s = e in grind arith)
serial_read (Placed x) s e = some_is e

pub rows_of_serial : RowsOfSerial
rows_of_serial c j w s sound a reads = let v : View = view c.views j in
    ap (λ (l : List ℕ). answer.Word (get_or l w 0)) (ap (λ (r : ℕ). side c r)
    (serial_read v.section s reads) ∙ side_is c j v s sound (at_or c.views j no_view a.there)
    reads)

pub confs_stay : ConfsStay
confs_stay c j (Publish t) s sound a near = or_before c.editor.confs (side c (c.serial
    + 1)) s [] (let l = sound.sides.confs in omega arith)
confs_stay c j EnterSection s sound a near = refl
confs_stay c j (DrawPlace t) s sound a near = refl
confs_stay c j (LoadRow w) s sound a near = refl
confs_stay c j LeaveSection s sound a near = refl
confs_stay c j (StoreRow w x) s sound a near = refl
confs_stay c j (LookSection o) s sound a near = refl
confs_stay c j (LoadMode d) s sound a near = refl
confs_stay c j (AddOwn d up) s sound a near = refl
confs_stay c j (AddShared d up) s sound a near = refl
confs_stay c j (Split t) s sound a near = refl
confs_stay c j (Join p) s sound a near = refl
confs_stay c j (Kill d) s sound a near = refl
confs_stay c j (LookCounter d o) s sound a near = refl
confs_stay c j (Fold d x) s sound a near = refl
confs_stay c j (LookZero d) s sound a near = by_case ((disk c d).shared == 0)
  where
    by_case : (z : Bool) → conf (cond z (record c {
      editor =
          record c.editor {
            drains = set c.editor.drains d (record (drain c.editor d) {
              phase =
                  phase.Drained;
              done_placed = false;
            });
          };
    }) c).editor s ≡ conf c.editor s
    by_case true = refl
    by_case false = refl
confs_stay c j (PlaceDone d t) s sound a near = refl
confs_stay c j (LiveShared d) s sound a near = refl
confs_stay c j (LiveMode d) s sound a near = refl
confs_stay c j (TakeTurn n) s sound a near = by_case (get_or c.turns n 0 == 0)
  where
    by_case : (z : Bool) → conf (cond z (record (record c {
      turns =
          set c.turns n (j + 1);
    }) {
      views = set c.views j (record (view c.views j) {
        turns =
            record { slot = n; out = false } ∷ (view c.views j).turns;
      });
    }) c).editor s
        ≡ conf c.editor s
    by_case true = refl
    by_case false = refl
confs_stay c j (SlotOut n) s sound a near = refl
confs_stay c j (PlaceExecute n t) s sound a near = refl
confs_stay c j (SlotIn n) s sound a near = refl
confs_stay c j (GiveTurn n) s sound a near = refl

-- ## References

pub shown_counts : ShownCounts
shown_counts c j v s d sound at reads shows = ⊎_elim (λ (t : (drain c.editor d).phase
    ≡ phase.Live). inl t) (λ (t : ((drain c.editor d).phase ≡ phase.Killed)
    × IsAwaited (mark (drain c.editor d).marks j) v.word). inr t.0)
    (sound.shown.sections d j v at s reads shows)

pub gets_meet_no_fold : GetsMeetNoFold
gets_meet_no_fold c j d sound a = ⊎_elim
    (λ (b : IsAllowed c j (AddOwn d true)). let m = b.may in
    shown_counts c j (view c.views j) m.1.0.0 d sound (at_or c.views j no_view b.there) m.1.0.1
    m.1.0.2)
    (λ (b : IsAllowed c j (AddShared d true)). let m = b.may in
    shown_counts c j (view c.views j) m.1.0.0 d sound (at_or c.views j no_view b.there) m.1.0.1
    m.1.0.2)
    a

-- a disk that isn't live is there
pub not_live_there : (ds : List Drain) (d : ℕ) → ((get_or ds d no_drain).phase ≢ phase.Live)
    → d < length ds
not_live_there [] d other = absurd (other refl)
not_live_there (x ∷ xs) zero other = omega arith
not_live_there (x ∷ xs) (suc d) other = let r = not_live_there xs d other in omega arith

pub folded_is_holds : FoldedIsHolds
folded_is_holds c d sound is = let near = not_live_there c.editor.drains d (λ e.
    let h : phase.Folded ≡ phase.Live = sym is ∙ e in grind arith) in
    let many = sound.split_counts.as_many in ((sound.folded_counts d (omega arith)).folded is).0

-- ## The end of a life

abbrev Ended : Phase → Type 0
Ended f = ((f ≡ phase.Folded) ⊎ (f ≡ phase.Drained)) ⊎ (f ≡ phase.Armed)

not_live : (f : Phase) → Ended f → f ≡ phase.Live → ⊥
not_live f u e = grind arith

not_killed : (f : Phase) → Ended f → f ≡ phase.Killed → ⊥
not_killed f u e = grind arith

-- a seat that may put a hold on a disk keeps one
may_hold : (d : ℕ) (views : List View) (j : ℕ) (v : View) → At views j v
    → Some_where (may_put d) v.holds → 0 < holds_on d views
may_hold d views j v at m = let a = total_one (λ (u : View). total (on_disk d) u.holds) views j v at
    in let b = without_total (may_put d) (on_disk d) v.holds m.0 m.1 in
    let z : on_disk d m.0 ≡ 1 = here_on d m.0 (put_disk d m.0
    (first_passes (may_put d) v.holds m.0 m.1)) in omega arith

module _ (c : Core) (j d : ℕ) (sound : IsSound c) (there : j < length c.views) (over : IsOver c d)
  where
    abbrev v : View
    v = view c.views j

    sits : At c.views j v
    sits = at_or c.views j no_view there

    no_up : (up : (s : ℕ) × Reads v s × Shows c.editor s d) → ⊥
    no_up up = ⊎_elim (λ (t : (drain c.editor d).phase
        ≡ phase.Live). not_live (drain c.editor d).phase over.0 t) (λ (t : (drain c.editor d).phase
        ≡ phase.Killed). not_killed (drain c.editor d).phase over.0 t)
        (shown_counts c j v up.0 d sound sits up.1 up.2)

    no_down : Some_where (may_put d) v.holds → ⊥
    no_down m = let h = may_hold d c.views j v sits m in let z = over.1 in absurd (omega arith)

    no_add : (up : Bool) → MayAdd c.editor v d up → ⊥
    no_add true m = no_up m.0
    no_add false m = no_down m

    -- no step is a get or a put on the disk
    pub no_add_on : (k : Kind) → MayStep c j v k → NoAddOn d k
    no_add_on k ok = record {
      own_up = λ e. let m : MayStep c j v (AddOwn d true) = subst (MayStep c j v) e ok in
          no_add true m.1;
      own_down = λ e. let m : MayStep c j v (AddOwn d false) = subst (MayStep c j v) e ok in
          no_add false m.1;
      shared_up = λ e. let m : MayStep c j v (AddShared d true) = subst (MayStep c j v) e ok in
          no_add true m.1;
      shared_down = λ e. let m : MayStep c j v (AddShared d false) = subst (MayStep c j v) e ok in
          no_add false m.1;
    }

    -- ### The holds on the disk stay

    abbrev H : View → ℕ
    H u = total (on_disk d) u.holds

    stays : (w : View) → H w ≡ H v → holds_on d (set c.views j w) ≡ holds_on d c.views
    stays w same = total_same H c.views j v w sits same

    added : (e : ℕ) (up : Bool) → MayAdd c.editor v e up
        → holds_on d (set c.views j (Rattle.ref_state.specs.Steps.after_add e up v))
        ≡ holds_on d c.views
    added e up m = dite (ℕ_discrete e d) (λ t. absurd (no_add up
        (subst (λ i. MayAdd c.editor v i up) t m))) (λ f. by_way up m (λ t. f (sym t)))
      where
        by_way : (up : Bool) → MayAdd c.editor v e up → d ≢ e
            → holds_on d (set c.views j (Rattle.ref_state.specs.Steps.after_add e up v))
            ≡ holds_on d c.views
        by_way true m other = stays (Rattle.ref_state.specs.Steps.after_get e v) (let a =
            hold_more (on_disk d) 0 e v.section v.holds m.1 (else_on e d other) in omega arith)
        by_way false m other = let l = least_there (may_put e) v.holds m in
            stays (Rattle.ref_state.specs.Steps.after_put e v)
            (let a = without_total (is_least (may_put e) v.holds) (on_disk d) v.holds l.0 l.1 in
            let z = else_on e d other l.0 (put_disk e l.0 (least_passes (may_put e) v.holds l.0
            l.1)) in omega arith)

    joins : (p : ℕ) → MayStep c j v (Join p) → holds_on d (next_core c j (Join p)).views
        ≡ holds_on d c.views
    joins p ok = let u : View = view c.views p in
        let a = total_set H c.views j v (after_join v u) sits in
        let b = total_set H (set c.views j (after_join v u)) p u (spent_view u)
        (set_else c.views j p (after_join v u) ok.0 ∙ at_or c.views p no_view ok.2) in
        let e = total_append (on_disk d) u.holds v.holds in omega arith

    holds_stay : (k : Kind) → MayStep c j v k → holds_on d (next_core c j k).views
        ≡ holds_on d c.views
    holds_stay EnterSection ok = stays _ refl
    holds_stay (DrawPlace t) ok = stays _ refl
    holds_stay (LoadRow w) ok = refl
    holds_stay LeaveSection ok = stays _ refl
    holds_stay (StoreRow w x) ok = refl
    holds_stay (Publish t) ok = stays _ refl
    holds_stay (LookSection o) ok = refl
    holds_stay (LoadMode e) ok = stays _ refl
    holds_stay (AddOwn e up) ok = added e up ok.1
    holds_stay (AddShared e up) ok = added e up ok.1
    holds_stay (Split t) ok = total_split H c.views j v (after_split t v) (split_part t v) sits
        (holds_parted t v (on_disk d))
    holds_stay (Join p) ok = joins p ok
    holds_stay (Kill e) ok = refl
    holds_stay (LookCounter e o) ok = refl
    holds_stay (Fold e x) ok = refl
    holds_stay (LookZero e) ok = by_case ((disk c e).shared == 0)
      where
        by_case : (z : Bool) → holds_on d (cond z (record c {
          editor =
              record c.editor {
                drains = set c.editor.drains e (record (drain c.editor e) {
                  phase =
                      phase.Drained;
                  done_placed = false;
                });
              };
        }) c).views ≡ holds_on d c.views
        by_case true = refl
        by_case false = refl
    holds_stay (PlaceDone e t) ok = stays _ refl
    holds_stay (LiveShared e) ok = refl
    holds_stay (LiveMode e) ok = refl
    holds_stay (TakeTurn n) ok = by_case (get_or c.turns n 0 == 0)
      where
        by_case : (z : Bool) → holds_on d (cond z (record (record c {
          turns =
              set c.turns n (j + 1);
        }) {
          views = set c.views j (record v {
            turns =
                record { slot = n; out = false } ∷ v.turns;
          });
        }) c).views ≡ holds_on d c.views
        by_case true = stays _ refl
        by_case false = refl
    holds_stay (SlotOut n) ok = stays _ refl
    holds_stay (PlaceExecute n t) ok = stays _ (change_same (is_least (is_held t (n / 8)) v.holds)
        (λ h. record h { executed = true }) (on_disk d) (λ x. refl) v.holds)
    holds_stay (SlotIn n) ok = stays _ refl
    holds_stay (GiveTurn n) ok = stays _ refl

    -- ### The phase goes on to armed, and no further

    at_drain_of : (e : ℕ) (b : Drain) → (Ended (drain c.editor e).phase → Ended b.phase)
        → Ended (get_or (set c.editor.drains e b) d no_drain).phase
    at_drain_of e b goes = ⊎_elim (λ (t : get_or (set c.editor.drains e b) d no_drain
        ≡ drain c.editor d). subst (λ (x : Drain). Ended x.phase) (sym t) over.0)
        (λ (t : (d ≡ e) × (get_or (set c.editor.drains e b) d no_drain
        ≡ b)). subst (λ (x : Drain). Ended x.phase) (sym t.1)
        (goes (subst (λ i. Ended (drain c.editor i).phase) t.0 over.0)))
        (or_set c.editor.drains e d b no_drain)

    phase_ends : (k : Kind) → MayStep c j v k → k ≢ LiveMode d
        → Ended (drain (next_core c j k).editor d).phase
    phase_ends EnterSection ok other = over.0
    phase_ends (DrawPlace t) ok other = over.0
    phase_ends (LoadRow w) ok other = over.0
    phase_ends LeaveSection ok other = over.0
    phase_ends (StoreRow w x) ok other = over.0
    phase_ends (Publish t) ok other = over.0
    phase_ends (LookSection o) ok other = subst Ended (sym (ap (λ (b : Drain). b.phase)
        (drain_looked o (view c.views o).word c.editor.drains d)
        ∙ phase_looked o (view c.views o).word (drain c.editor d))) over.0
    phase_ends (LoadMode e) ok other = over.0
    phase_ends (AddOwn e up) ok other = over.0
    phase_ends (AddShared e up) ok other = over.0
    phase_ends (Split t) ok other = over.0
    phase_ends (Join p) ok other = over.0
    phase_ends (Kill e) ok other = at_drain_of e _ (λ x. absurd
        (not_live (drain c.editor e).phase x ok.2))
    phase_ends (LookCounter e o) ok other = at_drain_of e _ (λ x. x)
    phase_ends (Fold e y) ok other = at_drain_of e _ (λ x. absurd
        (not_killed (drain c.editor e).phase x ok.2))
    phase_ends (LookZero e) ok other = by_case ((disk c e).shared == 0)
      where
        by_case : (z : Bool) → Ended (drain (cond z (record c {
          editor =
              record c.editor {
                drains = set c.editor.drains e (record (drain c.editor e) {
                  phase =
                      phase.Drained;
                  done_placed = false;
                });
              };
        }) c).editor d).phase
        by_case true = at_drain_of e _ (λ x. inl (inr refl))
        by_case false = over.0
    phase_ends (PlaceDone e t) ok other = at_drain_of e _ (λ x. x)
    phase_ends (LiveShared e) ok other = at_drain_of e _ (λ x. inr refl)
    phase_ends (LiveMode e) ok other = ⊎_elim (λ (t : get_or (set c.editor.drains e
        (record (drain c.editor e) { phase = phase.Live })) d no_drain
        ≡ drain c.editor d). subst (λ (x : Drain). Ended x.phase) (sym t) over.0)
        (λ (t : (d ≡ e) × (get_or (set c.editor.drains e (record (drain c.editor e) {
          phase =
              phase.Live;
        })) d no_drain ≡ record (drain c.editor e) {
          phase =
              phase.Live;
        })). absurd (other (ap (λ i. LiveMode i) (sym t.0))))
        (or_set c.editor.drains e d (record (drain c.editor e) { phase = phase.Live }) no_drain)
    phase_ends (TakeTurn n) ok other = by_case (get_or c.turns n 0 == 0)
      where
        by_case : (z : Bool) → Ended (drain (cond z (record (record c {
          turns =
              set c.turns n (j + 1);
        }) {
          views = set c.views j (record v {
            turns =
                record { slot = n; out = false } ∷ v.turns;
          });
        }) c).editor d).phase
        by_case true = over.0
        by_case false = over.0
    phase_ends (SlotOut n) ok other = over.0
    phase_ends (PlaceExecute n t) ok other = over.0
    phase_ends (SlotIn n) ok other = over.0
    phase_ends (GiveTurn n) ok other = over.0

    pub over_step : (k : Kind) → MayStep c j v k → k ≢ LiveMode d → IsOver (next_core c j k) d
    over_step k ok other = (phase_ends k ok other, holds_stay k ok ∙ over.1)

pub over_stays : OverStays
over_stays [] c e d sound over run none = (subst (λ x. IsOver x d) (sym run) over, tt)
over_stays (s ∷ steps) c e d sound over run none = let a = run.1.allowed in let m : Core = run.0 in
    let next : IsOver m d = subst (λ x. IsOver x d) (sym run.1.after)
    (over_step c s.0 d sound a.there over s.1 a.may none.0) in
    let rest = over_stays steps m e d (sound_step c m s.0 s.1 run.1 sound) next run.2 none.1 in
    (rest.0, (no_add_on c s.0 d sound a.there over s.1 a.may, rest.1))

pub last_put_ends : LastPutEnds
last_put_ends c j d sound a is zero_now = let k : Kind = AddShared d false in
    let after : IsSound (next_core c j k) = sound_step c (next_core c j k) j k (record {
      allowed =
          a;
      after = refl;
    }) sound in
    let count : (disk (next_core c j k) d).shared ≡ holds_on d (next_core c j k).views =
    folded_is_holds (next_core c j k) d after is in (inl (inl is), sym count ∙ zero_now)

pub done_is_over : DoneIsOver
done_is_over c j d t sound a = let ok = a.may in let near = not_live_there c.editor.drains d (λ e.
    let h : phase.Drained ≡ phase.Live = sym ok.3 ∙ e in grind arith) in
    let many = sound.split_counts.as_many in
    let none = ((sound.folded_counts d ok.1).drained ok.3).1 in (
      inl (inr (ap (λ (b : Drain). b.phase) (get_or-set_same c.editor.drains d
          (record (drain c.editor d) { done_placed = true }) no_drain near) ∙ ok.3)),
      total_same (λ (u : View). total (on_disk d) u.holds) c.views j (view c.views j) _
          (at_or c.views j no_view a.there) refl ∙ none,
    )
