-- A life has one Done.
use Rattle.std.proofs.Common.{◌≡◌, ◌≢◌, ℕ, ◌+◌, ◌*◌, ◌≤◌, ◌==◌, cond, Bool, true, false, List, [], ◌∷◌, get_or, set, sym, refl, ap, ◌∙◌, ⊎_elim, arith, get_or-set_same, get_or-set_other, eq-eqb, ne_eqb}
use mathlib.Core.Logic.{dite}
use native.Mathlib.Decide.{ℕ_discrete}
use Rattle.ref_state.specs.declared.kinds.Kind.{Kind}
use Rattle.ref_state.specs.declared.kinds.Kind.TheVariants.{EnterSection, DrawPlace, LoadRow, LeaveSection, StoreRow, Publish, LookSection, LoadMode, AddOwn, AddShared, Split, Join, Kill, LookCounter, Fold, LookZero, PlaceDone, LiveShared, LiveMode, TakeTurn, SlotOut, PlaceExecute, SlotIn, GiveTurn}
use Rattle.ref_state.specs.declared.state.View.{View}
use Rattle.ref_state.specs.declared.state.Phase.{Phase}
use Rattle.ref_state.specs.declared.state.Phase.TheVariants as phase
use Rattle.ref_state.specs.declared.state.Drain.{Drain}
use Rattle.ref_state.specs.declared.state.State.{State as Core}
use Rattle.ref_state.specs.State.{one_if, no_drain, disk, drain, view, is_killed}
use Rattle.ref_state.specs.Steps.{MayStep, after_step, at_mark, at_drain}
use Rattle.ref_state.specs.Runs.{EachStep}
use Rattle.ref_state.specs.Lives.{is_done_of, is_revival_of, revivals, is_done_in, has_done, DonesFollowLives, DoneOnceInLife, LifeAfterItsDone}
use Rattle.ref_state.proofs.Lists.{or_set}
use Rattle.ref_state.proofs.ShownKept.{drain_looked}
use Rattle.ref_state.proofs.Consequences.{not_live_there}

at_phase : (b : Drain) (f : Phase) (placed : Bool) → b.phase ≡ f → b.done_placed ≡ placed
    → has_done b ≡ is_done_in f placed
at_phase b f placed is was = ap (λ (z : Phase × Bool). is_done_in z.0 z.1) (λ i. (is i, was i))

-- a look changes marks alone
looked_done : (o w : ℕ) (b : Drain) → has_done (at_drain o w b) ≡ has_done b
looked_done o w b = by_case (is_killed b.phase)
  where
    by_case : (z : Bool) → has_done (cond z (record b { marks = at_mark o w b.marks }) b)
        ≡ has_done b
    by_case true = refl
    by_case false = refl

module _ (c : Core) (j : ℕ) (v : View) (d : ℕ) where
  -- the drain of a disk changes, and its Done is as placed as before
  stays_at : (e : ℕ) (b : Drain) → has_done b ≡ has_done (drain c.editor e)
      → 0 + one_if (has_done (drain c.editor d)) ≡ 0
      + one_if (has_done (get_or (set c.editor.drains e b) d no_drain))
  stays_at e b same = ap (λ (z : Bool). 0 + one_if z) (⊎_elim
      (λ (t : get_or (set c.editor.drains e b) d no_drain ≡ drain c.editor d). sym (ap has_done t))
      (λ (t : (d ≡ e) × (get_or (set c.editor.drains e b) d no_drain
      ≡ b)). ap (λ i. has_done (drain c.editor i)) t.0 ∙ (sym same ∙ sym (ap has_done t.1)))
      (or_set c.editor.drains e d b no_drain))

  -- it changes by x and y, and these count where the disk is d
  moves_at : (e : ℕ) (b : Drain) (x y : ℕ) → (drain c.editor e).phase ≢ phase.Live
      → x + one_if (has_done (drain c.editor e)) ≡ y + one_if (has_done b)
      → x * one_if (e == d) + one_if (has_done (drain c.editor d)) ≡ y * one_if (e == d)
      + one_if (has_done (get_or (set c.editor.drains e b) d no_drain))
  moves_at e b x y other change = dite (ℕ_discrete e d)
      (λ t. let a : get_or (set c.editor.drains e b) d no_drain ≡ b =
      ap (λ i. get_or (set c.editor.drains e b) i no_drain) (sym t)
      ∙ get_or-set_same c.editor.drains e b no_drain (not_live_there c.editor.drains e other) in
      let f : one_if (has_done (get_or (set c.editor.drains e b) d no_drain))
      ≡ one_if (has_done b) = ap (λ (z : Drain). one_if (has_done z)) a in
      let g : one_if (has_done (drain c.editor d)) ≡ one_if (has_done (drain c.editor e)) =
      ap (λ i. one_if (has_done (drain c.editor i))) (sym t) in
      let u : x * one_if (e == d) ≡ x = ap (λ (z : Bool). x * one_if z) (eq-eqb e d t)
      ∙ omega arith in
      let w : y * one_if (e == d) ≡ y = ap (λ (z : Bool). y * one_if z) (eq-eqb e d t)
      ∙ omega arith in omega arith)
      (λ t. let u : x * one_if (e == d) ≡ 0 = ap (λ (z : Bool). x * one_if z) (ne_eqb e d t)
      ∙ omega arith in
      let w : y * one_if (e == d) ≡ 0 = ap (λ (z : Bool). y * one_if z) (ne_eqb e d t)
      ∙ omega arith in
      let h : one_if (has_done (get_or (set c.editor.drains e b) d no_drain))
      ≡ one_if (has_done (drain c.editor d)) =
      ap (λ (z : Drain). one_if (has_done z)) (get_or-set_other c.editor.drains e d b no_drain
      (λ q. t (sym q))) in omega arith)

  done_step : (k : Kind) → MayStep c j v k
      → one_if (is_done_of d k) + one_if (has_done (drain c.editor d)) ≡ one_if (is_revival_of d k)
      + one_if (has_done (drain (after_step c j v k).editor d))
  done_step EnterSection ok = refl
  done_step (DrawPlace t) ok = refl
  done_step (LoadRow w) ok = refl
  done_step LeaveSection ok = refl
  done_step (StoreRow w x) ok = refl
  done_step (Publish t) ok = refl
  done_step (LookSection o) ok = ap (λ (z : Bool). 0
      + one_if z) (sym (ap has_done (drain_looked o (view c.views o).word c.editor.drains d)
      ∙ looked_done o (view c.views o).word (drain c.editor d)))
  done_step (LoadMode e) ok = refl
  done_step (AddOwn e up) ok = refl
  done_step (AddShared e up) ok = refl
  done_step (Split t) ok = refl
  done_step (Join p) ok = refl
  done_step (Kill e) ok = stays_at e _ (sym (at_phase (drain c.editor e) phase.Live
      (drain c.editor e).done_placed ok.2 refl))
  done_step (LookCounter e o) ok = stays_at e _ refl
  done_step (Fold e x) ok = stays_at e _ (sym (at_phase (drain c.editor e) phase.Killed
      (drain c.editor e).done_placed ok.2 refl))
  done_step (LookZero e) ok = by_case ((disk c e).shared == 0)
    where
      by_case : (z : Bool) → 0 + one_if (has_done (drain c.editor d)) ≡ 0
          + one_if (has_done (drain (cond z (record c {
            editor =
                record c.editor {
                  drains = set c.editor.drains e (record (drain c.editor e) {
                    phase =
                        phase.Drained;
                    done_placed = false;
                  });
                };
          }) c).editor d))
      by_case true = stays_at e _ (sym (at_phase (drain c.editor e) phase.Folded
          (drain c.editor e).done_placed ok.2 refl))
      by_case false = refl
  done_step (PlaceDone e t) ok = let b : Drain = record (drain c.editor e) { done_placed = true } in
      let f : one_if (has_done (drain c.editor e)) ≡ 0 =
      ap one_if (at_phase (drain c.editor e) phase.Drained false ok.3 ok.4) in
      let g : one_if (has_done b) ≡ 1 = ap one_if (at_phase b phase.Drained true ok.3 refl) in
      let m = moves_at e b 1 0 (λ z. let h : phase.Drained ≡ phase.Live = sym ok.3 ∙ z in
      grind arith) (omega arith) in omega arith
  done_step (LiveShared e) ok = stays_at e _ (sym (at_phase (drain c.editor e) phase.Drained true
      ok.2 ok.3))
  done_step (LiveMode e) ok = let b : Drain = record (drain c.editor e) { phase = phase.Live } in
      let f : one_if (has_done (drain c.editor e)) ≡ 1 =
      ap one_if (at_phase (drain c.editor e) phase.Armed (drain c.editor e).done_placed ok.2
      refl) in
      let m = moves_at e b 0 1 (λ z. let h : phase.Armed ≡ phase.Live = sym ok.2 ∙ z in
      grind arith) (omega arith) in omega arith
  done_step (TakeTurn n) ok = by_case (get_or c.turns n 0 == 0)
    where
      by_case : (z : Bool) → 0 + one_if (has_done (drain c.editor d)) ≡ 0
          + one_if (has_done (drain (cond z (record (record c {
            turns =
                set c.turns n (j + 1);
          }) {
            views = set c.views j (record v {
              turns =
                  record { slot = n; out = false } ∷ v.turns;
            });
          }) c).editor d))
      by_case true = refl
      by_case false = refl
  done_step (SlotOut n) ok = refl
  done_step (PlaceExecute n t) ok = refl
  done_step (SlotIn n) ok = refl
  done_step (GiveTurn n) ok = refl

pub dones_follow_lives : DonesFollowLives
dones_follow_lives [] c e d run = ap (λ (m : Core). 0
    + one_if (has_done (drain m.editor d))) (sym run)
dones_follow_lives (s ∷ steps) c e d run = let m : Core = run.0 in
    let rest = dones_follow_lives steps m e d run.2 in
    let here = done_step c s.0 (view c.views s.0) d s.1 run.1.allowed.may in
    let next : one_if (has_done (drain m.editor d))
    ≡ one_if (has_done (drain (after_step c s.0 (view c.views s.0) s.1).editor d)) =
    ap (λ (n : Core). one_if (has_done (drain n.editor d))) run.1.after in omega arith

no_revival : (d : ℕ) (k : Kind) → k ≢ LiveMode d → one_if (is_revival_of d k) ≡ 0
no_revival d (LiveMode e) other = ap one_if (ne_eqb e d (λ t. other (ap (λ i. LiveMode i) t)))
no_revival d EnterSection other = refl
no_revival d (DrawPlace t) other = refl
no_revival d (LoadRow w) other = refl
no_revival d LeaveSection other = refl
no_revival d (StoreRow w x) other = refl
no_revival d (Publish t) other = refl
no_revival d (LookSection o) other = refl
no_revival d (LoadMode e) other = refl
no_revival d (AddOwn e up) other = refl
no_revival d (AddShared e up) other = refl
no_revival d (Split t) other = refl
no_revival d (Join p) other = refl
no_revival d (Kill e) other = refl
no_revival d (LookCounter e o) other = refl
no_revival d (Fold e x) other = refl
no_revival d (LookZero e) other = refl
no_revival d (PlaceDone e t) other = refl
no_revival d (LiveShared e) other = refl
no_revival d (TakeTurn n) other = refl
no_revival d (SlotOut n) other = refl
no_revival d (PlaceExecute n t) other = refl
no_revival d (SlotIn n) other = refl
no_revival d (GiveTurn n) other = refl

none_revives : (d : ℕ) (steps : List (ℕ × Kind)) → EachStep (λ s. s.1 ≢ LiveMode d) steps
    → revivals d steps ≡ 0
none_revives d [] none = refl
none_revives d (s ∷ steps) none = let a = no_revival d s.1 none.0 in
    let b = none_revives d steps none.1 in omega arith

pub done_once_in_life : DoneOnceInLife
done_once_in_life steps c e d run none = let a = dones_follow_lives steps c e d run in
    let b = none_revives d steps none in let m = at_most (has_done (drain e.editor d)) in
    omega arith
  where
    at_most : (b : Bool) → one_if b ≤ 1
    at_most true = omega arith
    at_most false = omega arith

pub life_after_its_done : LifeAfterItsDone
life_after_its_done steps c e d j live run none may = let a = dones_follow_lives steps c e d run in
    let b = none_revives d steps none in
    let f : one_if (has_done (drain c.editor d)) ≡ 0 =
    ap one_if (at_phase (drain c.editor d) phase.Live (drain c.editor d).done_placed live refl)
    in
    let ok = may.may in let g : one_if (has_done (drain e.editor d)) ≡ 1 =
    ap one_if (at_phase (drain e.editor d) phase.Armed (drain e.editor d).done_placed ok.2 refl)
    in omega arith
