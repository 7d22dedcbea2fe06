-- What one connected queue sees of the target, by names.
use Rattle.std.specs.Prelude.{ℕ, if◌then◌else◌, List, length, Option, Some, None, is_some, slice_get}
use Rattle.std.specs.FinMap as map
use Rattle.mem_bdev.specs.Blocks.{Blocks}
use Rattle.sqe_cqe.specs.declared.rows.NsRow.{NsRow}
use Rattle.sqe_cqe.specs.declared.rows.Seen.{Seen}
use Rattle.sqe_cqe.specs.declared.rows.Seen.TheVariants.{NotConfigured, Off, On}
use Rattle.sqe_cqe.specs.declared.rows.Ana.{Ana}
use Rattle.sqe_cqe.specs.declared.rows.Ana.TheVariants as ana
use Rattle.sqe_cqe.specs.Answers.{View}
use Rattle.sqe_cqe.specs.One.{plain_offers}
use Rattle.sqe_cqe.specs.Ready.{ready_in}
use Rattle.sqe_cqe.specs.declared.controllers.ControllerRow.{ControllerRow}
use Rattle.configfs_rows.specs.declared.namespaces.NamespaceRow.{NamespaceRow}
use Rattle.configfs_rows.specs.declared.subsystems.SubsystemRow.{SubsystemRow}
use Rattle.configfs_rows.specs.declared.ports.PortRow.{PortRow}
use Rattle.configfs_tree.specs.declared.configuration.Configuration.{Configuration}
use Rattle.change_stamps.specs.Stamps.{Stamps, space_stamp, ana_stamp}
use Rattle.tree_target.specs.Model.{Bound, Target}
use Rattle.tree_target.specs.Controls.{subsystem_placed, port_placed}

-- ---- namespaces
abbrev pub space_in : ℕ → Option SubsystemRow → Option NamespaceRow
space_in nsid None = None
space_in nsid (Some s) = map.get s.namespaces nsid

-- an enabled namespace on the disk with number i
abbrev pub row_of : ℕ → Blocks → NamespaceRow → NsRow
row_of i d n = record {
  disk = i;
  shift = d.shift;
  blocks = length d.blocks;
  group = n.group;
  uuid = n.uuid;
  nguid = n.nguid;
}

abbrev pub on_blocks : ℕ → NamespaceRow → Option Blocks → Seen
on_blocks i n None = Off
on_blocks i n (Some d) = On (row_of i d n)

abbrev pub on_disk : List Blocks → NamespaceRow → Option ℕ → Seen
on_disk blocks n None = Off
on_disk blocks n (Some i) = on_blocks i n (slice_get blocks i)

-- one that is enabled is seen on the disk whose number it keeps
abbrev pub seen_of : List Blocks → Option NamespaceRow → Seen
seen_of blocks None = NotConfigured
seen_of blocks (Some n) = if n.enabled then on_disk blocks n n.disk else Off

-- ---- ANA groups
-- a group that isn't made is inaccessible
abbrev pub group_state : Option Ana → Ana
group_state None = ana.Inaccessible
group_state (Some s) = s

abbrev pub group_in : ℕ → Option PortRow → Option Ana
group_in group None = None
group_in group (Some p) = map.get p.groups group

-- ---- what is seen of a subsystem and a port, wherever they were found, and of the stamps at their
-- positions. No call bars a controller or marks a namespace
abbrev pub seen_from : Configuration → List ControllerRow → List Blocks → Stamps → ℕ
    → Option SubsystemRow → Option PortRow → ℕ → ℕ → View
seen_from t controllers blocks stamps ctrl s p sub port = record {
  ready = ready_in controllers ctrl;
  ns = λ n. seen_of blocks (space_in n s);
  ana = λ g. group_state (group_in g p);
  group_made = λ g. is_some (group_in g p);
  ns_stamp = λ n. space_stamp stamps sub n;
  ana_stamp = ana_stamp stamps sub port;
  ana_count = t.settings.ana_count;
  serial = stamps.serial;
  bars = λ n opcode. 0;
  offers = plain_offers;
  marks = λ n. 0;
  group_count = λ g. t.settings.ana_count;
}

-- ---- by names
abbrev pub subsystem_named : Configuration → List ℕ → Option SubsystemRow
subsystem_named t nqn = map.get t.settings.subsystems nqn

abbrev pub port_named : Configuration → ℕ → Option PortRow
port_named t id = map.get t.settings.ports id

-- what a queue sees that is connected through a port
abbrev pub view_at : Target → ℕ → Bound → View
view_at t port b = seen_from t.tree t.controllers t.blocks t.stamps b.controller
    (subsystem_named t.tree b.subsystem) (port_named t.tree port)
    (subsystem_placed t.tree b.subsystem) (port_placed t.tree port)
