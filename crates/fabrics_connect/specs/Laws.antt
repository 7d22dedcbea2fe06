-- What the laws say, in the subject's words.
use Rattle.std.specs.Prelude.{length, ◌≡◌, ◌≢◌, ◌≤◌, ◌%◌, ℕ, ◌==◌, ◌&&◌, not, Bool, true, List, Some, if◌then◌else◌}
use Rattle.std.specs.FinMap as map
use Rattle.configfs_rows.specs.declared.subsystems.SubsystemRow.{SubsystemRow}
use Rattle.configfs_rows.specs.declared.ports.PortRow.{PortRow}
use Rattle.configfs_tree.specs.declared.configuration.Configuration.{Configuration}
use Rattle.sqe_cqe.specs.Ready.{is_ready_row}
use Rattle.sqe_cqe.specs.declared.connect.ConnectData.{ConnectData}
use Rattle.sqe_cqe.specs.declared.controllers.ControllerRow.{ControllerRow}
use Rattle.fabrics_connect.specs.Names.{name_in, kept_name}
use Rattle.fabrics_connect.specs.Registers.{after_set, asks_shutdown, can_enable, is_enabled}
use Rattle.fabrics_connect.specs.Checks.{has_qid}
use Rattle.fabrics_connect.specs.After.{with_qid}

-- the QID is connected then, and every other as before
pub record ConnectsQid (c : ControllerRow) (qid : ℕ) : Type 0 where
  pub this : has_qid qid (Some (with_qid qid c)) ≡ true
  pub others : (other : ℕ) → 1 ≤ other → other ≢ qid
      → has_qid other (Some (with_qid qid c)) ≡ has_qid other (Some c)

abbrev pub ConnectsJustThisQid : Type 0
ConnectsJustThisQid = (c : ControllerRow) (qid : ℕ) → 1 ≤ qid → ConnectsQid c qid

-- the port with this ID is there and links the subsystem that the data name, which is there
pub record IsServedByName (t : Configuration) (id : ℕ) (d : ConnectData) : Type 0 where
  pub name : List ℕ
  pub port : PortRow
  pub sub : SubsystemRow
  pub named : name_in d.subnqn ≡ Some name
  pub port_there : map.get t.settings.ports id ≡ Some port
  pub sub_there : map.get t.settings.subsystems name ≡ Some sub
  pub linked : map.contains_key port.links name ≡ true

-- v asks for a shutdown, and CC didn't
abbrev pub begins_shutdown : ControllerRow → ℕ → Bool
begins_shutdown c v = asks_shutdown v && not (asks_shutdown c.cc)

abbrev pub ReadyAfterSet : Type 0
ReadyAfterSet = (c : ControllerRow) (v : ℕ) → is_ready_row (after_set v c)
    ≡ (is_enabled v && (not (begins_shutdown c v)
    && (if is_enabled c.cc then c.csts % 2 == 1 else can_enable v)))

-- a field of Connect data and what a controller keeps of it name the same, or both nothing
abbrev pub KeptNamesTheSame : Type 0
KeptNamesTheSame = (field : List ℕ) → length field ≡ 256 → name_in (kept_name field) ≡ name_in field
