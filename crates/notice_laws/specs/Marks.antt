-- Changes of the configuration, as marks of one controller.
use Rattle.std.specs.Prelude.{◌≡◌, ◌≤◌, ◌<◌, ◌*◌, ◌+◌, ◌==◌, ◌||◌, ℕ, Bool, false, if◌then◌else◌, List, [], ◌∷◌, length, Option, Some, None, slice_index}
use Rattle.sqe_cqe.specs.declared.rows.TheConstants.{MAX_NSID}
use Rattle.configfs_rows.specs.declared.limits.TheConstants.{MAX_SUBSYSTEMS, MAX_PORTS}
use Rattle.configfs_tree.specs.declared.edits.Change.{Change}
use Rattle.async_events.specs.Notices.{Mark, Published, Passes}
use Rattle.async_events.specs.Stamps.{Stamps as SeenStamps}
use Rattle.change_stamps.specs.Stamps.{Stamps, space_stamp, ana_stamp, stamps_after}

-- the NSID of a namespace change, where it is one of the subsystem at this position
abbrev pub nsid_for : Option (ℕ × ℕ) → ℕ → Option ℕ
nsid_for None sub = None
nsid_for (Some x) sub = if x.0 == sub then Some x.1 else None

abbrev pub is_at : Option ℕ → ℕ → Bool
is_at None at = false
is_at (Some n) at = n == at

-- what a change is to a controller at the positions of its subsystem and its port
abbrev pub mark_of : ℕ → ℕ → Change → Mark
mark_of sub port c =
    if c.published
    then Published (nsid_for c.namespace sub) (is_at c.ana_subsystem sub || is_at c.ana_port port)
    else Passes

abbrev pub marks_of : ℕ → ℕ → List Change → List Mark
marks_of sub port [] = []
marks_of sub port (c ∷ changes) = mark_of sub port c ∷ marks_of sub port changes

-- the stamps that a controller sees
abbrev pub seen_by : ℕ → ℕ → Stamps → SeenStamps
seen_by sub port s = record {
  serial = s.serial;
  ns = λ n. space_stamp s sub n;
  ana = ana_stamp s sub port;
}

abbrev pub after_changes : Stamps → List Change → Stamps
after_changes s [] = s
after_changes s (c ∷ changes) = after_changes (stamps_after c s) changes

-- ---- what holds of stamps, and of changes
-- there is a stamp for each position, and none is above the serial
pub record AreSound (s : Stamps) : Type 0 where
  pub spaces_len : length s.spaces ≡ MAX_SUBSYSTEMS * (MAX_NSID + 1)
  pub subs_len : length s.subs ≡ MAX_SUBSYSTEMS
  pub ports_len : length s.ports ≡ MAX_PORTS
  pub spaces : (i : ℕ) → slice_index s.spaces i ≤ s.serial
  pub subs : (i : ℕ) → slice_index s.subs i ≤ s.serial
  pub ports : (i : ℕ) → slice_index s.ports i ≤ s.serial

abbrev pub SpaceInRange : Option (ℕ × ℕ) → Type 0
SpaceInRange None = Unit {0}
SpaceInRange (Some x) = (x.0 < MAX_SUBSYSTEMS) × (1 ≤ x.1) × (x.1 ≤ MAX_NSID)

abbrev pub PlaceInRange : Option ℕ → ℕ → Type 0
PlaceInRange None most = Unit {0}
PlaceInRange (Some at) most = at < most

-- what a change names is in range
pub record IsInRange (c : Change) : Type 0 where
  pub space : SpaceInRange c.namespace
  pub sub : PlaceInRange c.ana_subsystem MAX_SUBSYSTEMS
  pub port : PlaceInRange c.ana_port MAX_PORTS

abbrev pub AreInRange : List Change → Type 0
AreInRange [] = Unit {0}
AreInRange (c ∷ changes) = IsInRange c × AreInRange changes
