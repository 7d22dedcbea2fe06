-- What the seats of a twin table keep between two calls.
use Rattle.std.specs.Prelude.{◌≡◌, ◌≢◌, ℕ, ◌+◌, ◌-◌, ◌<◌, [], ◌∷◌, length}
use Rattle.ref_state.specs.declared.state.Phase.{Phase}
use Rattle.ref_state.specs.declared.state.Section.TheVariants.{Out}
use Rattle.ref_state.specs.declared.state.LoadedMode.TheVariants.{NotLoaded}
use Rattle.ref_state.specs.State.{total, conf, drain}
use Rattle.table_rule.specs.declared.rule.Told.{Told}
use Rattle.table_rule.specs.Counted.{Counted}
use Rattle.table_rule.specs.Shown.{claims_of}

-- a seat whose section is closed, that keeps no hold and may draw its own calls
pub record Rests (number : ℕ) (v : Told) : Type 0 where
  pub out : v.view.section ≡ Out
  pub free : v.view.loaded ≡ NotLoaded
  pub none : v.view.holds ≡ []
  pub claim : 0 < total (claims_of number) v.claims

-- the editor's seat, where the last configuration has this number twice
pub record Edits (number : ℕ) (v : Told) : Type 0 where
  pub claim : 0 < total (claims_of 0) v.claims
  pub confs : length v.notes.confs ≡ length v.notes.published + 1
  pub before : length (conf v.notes (length v.notes.published - 1)) ≡ 2
  pub shown : conf v.notes (length v.notes.published) ≡ number ∷ (number ∷ [])

-- the disk's reference is in this phase
abbrev pub IsIn : Phase → ℕ → Told → Type 0
IsIn phase disk v = (drain v.notes disk).phase ≡ phase

-- the other disks' references are in the phases that they were in
abbrev pub LeavesOthers : ℕ → Told → Told → Type 0
LeavesOthers disk v w = (d : ℕ) → d ≢ disk → (drain w.notes d).phase ≡ (drain v.notes d).phase

-- how many steps were taken
abbrev pub all_steps : Counted → ℕ
all_steps c = c.own + (c.shared + (c.clock + (c.row + c.turn)))
