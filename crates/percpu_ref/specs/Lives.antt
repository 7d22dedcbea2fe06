-- The life of a disk's reference, as the editor knows it: live, killed, folded, drained, live
-- again.
use Rattle.std.specs.Prelude.{◌≡◌, ◌≢◌, ℕ, ◌<◌, List, map, length, slice_index_or, Option, Some, None}
use Rattle.ref_state.specs.declared.state.Count.{Count}
use Rattle.ref_state.specs.declared.state.Drain.{Drain}
use Rattle.ref_state.specs.declared.state.Editor.{Editor}
use Rattle.ref_state.specs.declared.state.Phase.TheVariants as phase
use Rattle.ref_state.specs.State.{drain, AllPassed}
use Rattle.ref_state.specs.Steps.{count_or}
use Rattle.table_rule.specs.declared.rule.Told.{Told}
use Rattle.table_rule.specs.Plays.{with_life, armed, revived}
use Rattle.percpu_ref.specs.declared.lives.Polled.{Polled}
use Rattle.percpu_ref.specs.declared.lives.Polled.TheVariants.{Drained, Draining}
use Rattle.rcu_sections.specs.Grace.{Look, after_looks, Noted}

-- the disk is killed, and these section words were noted right after its kill
pub record IsKilled (disk : ℕ) (words : List ℕ) (v : Told) : Type 0 where
  pub phase_is : (drain v.notes disk).phase ≡ phase.Killed
  pub noted : Noted v.seats words (drain v.notes disk).marks
  pub wide : length (drain v.notes disk).marks ≡ v.seats
  pub long : length (drain v.notes disk).looked ≡ v.seats

-- looks leave it killed, with the words that were noted
abbrev pub KilledStays : Type 0
KilledStays = (disk : ℕ) (words : List ℕ) (ls : List Look) (v : Told) → IsKilled disk words v
    → IsKilled disk words (after_looks ls v)

-- a change of one disk's life leaves another killed
abbrev pub OthersStay : Type 0
OthersStay = (disk other : ℕ) (words : List ℕ) (life : Drain) (v : Told) → other ≢ disk
    → IsKilled disk words v → IsKilled disk words (record v { notes = with_life other life v.notes })

-- a folded life: the own counters stood at these whole numbers, which are its bases
abbrev pub folded_life : List (Option Count) → Drain → Drain
folded_life counters b = record b {
  phase = phase.Folded;
  looked = counters;
  bases = map count_or counters;
}

-- each own counter was looked at, and then their sum went into the shared count with the bias
-- taken off
pub record FoldsNow (disk : ℕ) (v w : Told) : Type 0 where
  pub counters : List (Option Count)
  pub found : List (ℕ × ℕ)
  pub each : (o : ℕ) → o < v.seats → (x : Count) × (slice_index_or counters o None ≡ Some x)
  pub told : w ≡ record v {
    notes = with_life disk (folded_life counters (drain v.notes disk)) v.notes;
    found = found;
  }

-- every section that could count on its own counter was left first
pub record Folds (disk : ℕ) (v w : Told) : Type 0 where
  pub looks : List Look
  pub over : AllPassed v.seats (drain (after_looks looks v).notes disk).marks
  pub folds : FoldsNow disk (after_looks looks v) w

-- the disk's reference is live again, its counters going on from their bases
abbrev pub new_life : ℕ → Editor → Editor
new_life disk k = let b : Editor = with_life disk (armed disk k) k in with_life disk (revived disk b) b

-- what a poll answers that found so many holds
abbrev pub IsPolled : ℕ → ℕ → Polled → Type 0
IsPolled disk n Drained = n ≡ 0
IsPolled disk n (Draining f m) = (n ≢ 0) × (m ≡ n) × (f.disk ≡ disk)
