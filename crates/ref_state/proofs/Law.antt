-- Each allowed step keeps soundness, and so does each run.
use Rattle.std.proofs.Common.{◌≡◌, ℕ, List, [], ◌∷◌, true, false, sym, subst}
use Rattle.ref_state.specs.declared.kinds.Kind.{Kind}
use Rattle.ref_state.specs.declared.kinds.Kind.TheVariants.{EnterSection, DrawPlace, LoadRow, LeaveSection, StoreRow, Publish, LookSection, LoadMode, AddOwn, AddShared, Split, Join, Kill, LookCounter, Fold, LookZero, PlaceDone, LiveShared, LiveMode, TakeTurn, SlotOut, PlaceExecute, SlotIn, GiveTurn}
use Rattle.ref_state.specs.declared.state.State.{State as Core}
use Rattle.ref_state.specs.declared.state.View.{View}
use Rattle.ref_state.specs.declared.state.Role.TheVariants.{Seat}
use Rattle.ref_state.specs.State.{At, view, no_view}
use Rattle.ref_state.specs.Steps.{after_step, MayStep, Step}
use Rattle.ref_state.specs.Soundness.{opened_core}
use Rattle.ref_state.specs.Soundness.{IsSound}
use Rattle.ref_state.proofs.Whole.{Whole, parts_of, whole_of}
use Rattle.ref_state.specs.Runs.{Run, AlwaysSound}
use Rattle.ref_state.proofs.SectionSteps as passk
use Rattle.ref_state.proofs.SideSteps as passa
use Rattle.ref_state.proofs.ReferenceSteps as passb
use Rattle.ref_state.proofs.PartSteps as passs
use Rattle.ref_state.proofs.DrainSteps as passc
use Rattle.ref_state.proofs.TurnSteps as passd
use Rattle.ref_state.proofs.Opened.{opens}
use Rattle.ref_state.proofs.Lists.{at_or}

pub kept_by_all : (c : Core) (j : ℕ) (v : View) → At c.views j v → v.role ≡ Seat → Whole c
    → (k : Kind) → MayStep c j v k → Whole (after_step c j v k)
kept_by_all c j v at seat s EnterSection ok = passk.enters c j v at seat s ok
kept_by_all c j v at seat s (DrawPlace t) ok = passk.draws c j v at seat s t ok
kept_by_all c j v at seat s (LoadRow w) ok = s
kept_by_all c j v at seat s LeaveSection ok = passk.leaves c j v at seat s ok
kept_by_all c j v at seat s (StoreRow w x) ok = passa.stores c j v at seat s w x ok
kept_by_all c j v at seat s (Publish t) ok = passa.publishes c j v at seat s t ok
kept_by_all c j v at seat s (LookSection o) ok = passk.looks c j v at seat s o ok
kept_by_all c j v at seat s (LoadMode d) ok = passb.loads c j v at seat s d ok
kept_by_all c j v at seat s (AddOwn d true) ok = passk.ups_own c j v at seat s d ok
kept_by_all c j v at seat s (AddOwn d false) ok = passk.downs_own c j v at seat s d ok
kept_by_all c j v at seat s (AddShared d true) ok = passb.ups_shared c j v at seat s d ok
kept_by_all c j v at seat s (AddShared d false) ok = passb.downs_shared c j v at seat s d ok
kept_by_all c j v at seat s (Split t) ok = passs.splits c j v at seat s t ok
kept_by_all c j v at seat s (Join p) ok = passs.joins c j v at seat s p ok
kept_by_all c j v at seat s (Kill d) ok = passc.kills c j v at seat s d ok
kept_by_all c j v at seat s (LookCounter d o) ok = passc.counters c j v at seat s d o ok
kept_by_all c j v at seat s (Fold d x) ok = passc.folds c j v at seat s d x ok
kept_by_all c j v at seat s (LookZero d) ok = passc.zeros c j v at seat s d ok
kept_by_all c j v at seat s (PlaceDone d t) ok = passd.dones c j v at seat s d t ok
kept_by_all c j v at seat s (LiveShared d) ok = passc.arms c j v at seat s d ok
kept_by_all c j v at seat s (LiveMode d) ok = passc.revives c j v at seat s d ok
kept_by_all c j v at seat s (TakeTurn n) ok = passd.takes c j v at seat s n ok
kept_by_all c j v at seat s (SlotOut n) ok = passd.goes_out c j v at seat s n ok
kept_by_all c j v at seat s (PlaceExecute n t) ok = passd.performs c j v at seat s n t ok
kept_by_all c j v at seat s (SlotIn n) ok = passd.comes_in c j v at seat s n ok
kept_by_all c j v at seat s (GiveTurn n) ok = passd.gives c j v at seat s n ok

pub step_kept : (c d : Core) (j : ℕ) (k : Kind) → Step c j k d → Whole c → Whole d
step_kept c d j k t s = let a = t.allowed in
    subst Whole (sym t.after) (kept_by_all c j (view c.views j) (at_or c.views j no_view a.there)
    a.seat s k a.may)

pub run_kept : (steps : List (ℕ × Kind)) (c d : Core) → Whole c → Run c steps d → Whole d
run_kept [] c d s r = subst Whole (sym r) s
run_kept (x ∷ steps) c d s r = run_kept steps r.0 d (step_kept c r.0 x.0 x.1 r.1 s) r.2

pub sound_step : (c d : Core) (j : ℕ) (k : Kind) → Step c j k d → IsSound c → IsSound d
sound_step c d j k t s = parts_of d (step_kept c d j k t (whole_of c s))

pub always : AlwaysSound
always quotas disks slots words steps c small r =
    parts_of c (run_kept steps (opened_core quotas disks slots words) c
    (opens quotas disks slots words small) r)
