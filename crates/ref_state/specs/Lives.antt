-- The lives of a disk's reference. A life begins where the disk is live, at the opening or by
-- `live_mode`, and ends where it is made live again. Within it the disk's Done is placed once.
use Rattle.std.specs.Prelude.{◌≡◌, ◌≢◌, ℕ, ◌+◌, ◌≤◌, Bool, true, false, ◌==◌, List}
use Rattle.ref_state.specs.declared.kinds.Kind.{Kind}
use Rattle.ref_state.specs.declared.kinds.Kind.TheVariants.{PlaceDone, LiveMode}
use Rattle.ref_state.specs.declared.state.Phase.{Phase}
use Rattle.ref_state.specs.declared.state.Phase.TheVariants as phase
use Rattle.ref_state.specs.declared.state.Drain.{Drain}
use Rattle.ref_state.specs.declared.state.State.{State as Core}
use Rattle.ref_state.specs.State.{total, one_if, drain}
use Rattle.ref_state.specs.Steps.{IsAllowed}
use Rattle.ref_state.specs.Runs.{Run, EachStep}

-- it places the Done of the disk d
abbrev pub is_done_of : ℕ → Kind → Bool
is_done_of d (PlaceDone e t) = e == d
is_done_of d _ = false

-- it makes the disk d live again
abbrev pub is_revival_of : ℕ → Kind → Bool
is_revival_of d (LiveMode e) = e == d
is_revival_of d _ = false

-- how many of the steps place the Done of the disk d
abbrev pub dones : ℕ → List (ℕ × Kind) → ℕ
dones d steps = total (λ s. one_if (is_done_of d s.1)) steps

-- how many of the steps make the disk d live again
abbrev pub revivals : ℕ → List (ℕ × Kind) → ℕ
revivals d steps = total (λ s. one_if (is_revival_of d s.1)) steps

-- the Done of the life that stands is placed: the disk is drained with its Done placed, or armed
-- for its next life
abbrev pub is_done_in : Phase → Bool → Bool
is_done_in phase.Drained placed = placed
is_done_in phase.Armed placed = true
is_done_in _ placed = false

abbrev pub has_done : Drain → Bool
has_done b = is_done_in b.phase b.done_placed

-- along every run a disk has as many Dones as new lives, but for the Done of the life that stands
-- at either end
abbrev pub DonesFollowLives : Type 0
DonesFollowLives = (steps : List (ℕ × Kind)) (c e : Core) (d : ℕ) → Run c steps e
    → dones d steps + one_if (has_done (drain c.editor d)) ≡ revivals d steps
    + one_if (has_done (drain e.editor d))

-- in one life, where no step makes the disk live again, its Done is placed at most once
abbrev pub DoneOnceInLife : Type 0
DoneOnceInLife = (steps : List (ℕ × Kind)) (c e : Core) (d : ℕ) → Run c steps e
    → EachStep (λ s. s.1 ≢ LiveMode d) steps
    → dones d steps ≤ 1

-- a disk that was live is made live again only where its Done was placed since
abbrev pub LifeAfterItsDone : Type 0
LifeAfterItsDone = (steps : List (ℕ × Kind)) (c e : Core) (d j : ℕ)
    → (drain c.editor d).phase ≡ phase.Live → Run c steps e
    → EachStep (λ s. s.1 ≢ LiveMode d) steps → IsAllowed e j (LiveMode d) → dones d steps ≡ 1
