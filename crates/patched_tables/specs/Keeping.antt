-- What the seats of a patched table keep between two calls.
use Rattle.std.specs.Prelude.{◌≡◌, ℕ, ◌+◌, ◌-◌, ◌<◌, List, [], length}
use Rattle.atomic_table.specs.Seated.{TableId}
use Rattle.ref_state.specs.declared.state.Phase.TheVariants.{Live}
use Rattle.ref_state.specs.declared.state.Section.TheVariants.{Out}
use Rattle.ref_state.specs.declared.state.LoadedMode.TheVariants.{NotLoaded}
use Rattle.ref_state.specs.State.{total, conf, drain, overlaid}
use Rattle.table_rule.specs.declared.rule.Told.{Told}
use Rattle.table_rule.specs.Meant.{target}
use Rattle.table_rule.specs.Shown.{claims_of}
use Rattle.target_table.specs.declared.table.Seat.{Seat}
use Rattle.patched_tables.specs.Patching.{patch_means}

-- how many disks and slots there are
abbrev pub disks : ℕ
disks = 3

abbrev pub slots : ℕ
slots = 24

-- a seat whose section is closed, that keeps no hold and may draw its own calls
pub record Rests (number : ℕ) (v : Told) : Type 0 where
  pub out : v.view.section ≡ Out
  pub free : v.view.loaded ≡ NotLoaded
  pub none : v.view.holds ≡ []
  pub claim : 0 < total (claims_of number) v.claims

-- a seat as it is opened: of this table, with this number and so many places left
pub record IsOpened (table : TableId) (number left : ℕ) (s : Seat ℕ) : Type 0 where
  pub own : s.base.table_id ≡ table
  pub number_is : s.number ≡ number
  pub left_is : s.left ≡ left
  pub rests : Rests number s.base.me.0

-- the editor's seat, where this patch was published last: the side that is shown has the words of
-- the target, and the other side lacks that patch alone. Every disk is live
pub record Keeps (opened : List ℕ) (patches : List (List (ℕ × ℕ))) (last : List (ℕ × ℕ))
    (v : Told) : Type 0 where
  pub claim : 0 < total (claims_of 0) v.claims
  pub confs : length v.notes.confs ≡ length v.notes.published + 1
  pub none : v.notes.pending ≡ []
  pub long : length (conf v.notes (length v.notes.published)) ≡ length opened
  pub shown : conf v.notes (length v.notes.published)
      ≡ target (patch_means opened patches) v.known
  pub before : overlaid (conf v.notes (length v.notes.published - 1)) last
      ≡ conf v.notes (length v.notes.published)
  pub live : (d : ℕ) → d < disks → (drain v.notes d).phase ≡ Live
