-- The serials of last changes, and what a published change stamps.
use Rattle.std.specs.Prelude.{ℕ, ◌+◌, ◌*◌, ◌-◌, ◌^◌, min, max, nat_le, if◌then◌else◌, List, replicate, Option, Some, None, slice_index, slice_set}
use Rattle.sqe_cqe.specs.declared.rows.TheConstants.{MAX_NSID}
use Rattle.configfs_rows.specs.declared.limits.TheConstants.{MAX_SUBSYSTEMS, MAX_PORTS}
use Rattle.configfs_tree.specs.declared.edits.Change.{Change}

pub record Stamps : Type 0 where
  -- how many changes were published
  pub serial : ℕ
  -- of the namespaces: NSID n of the subsystem at position s stands at s * 2,049 + n
  pub spaces : List ℕ
  -- of the ANA groups, by the positions of subsystems and of ports
  pub subs : List ℕ
  pub ports : List ℕ

-- ---- what is read: 0 where nothing changed
abbrev pub place_of : ℕ → ℕ → ℕ
place_of sub nsid = sub * (MAX_NSID + 1) + nsid

unfoldable pub space_stamp : Stamps → ℕ → ℕ → ℕ
space_stamp s sub nsid =
    if nat_le nsid MAX_NSID then slice_index s.spaces (place_of sub nsid) else 0

-- the later one of the subsystem's and the port's
unfoldable pub ana_stamp : Stamps → ℕ → ℕ → ℕ
ana_stamp s sub port = max (slice_index s.subs sub) (slice_index s.ports port)

-- ---- what a change stamps
-- the serial of the next change; the count stays at its highest value
abbrev pub next_serial : Stamps → ℕ
next_serial s = min (s.serial + 1) (2 ^ 32 - 1)

abbrev pub stamped_at : ℕ → Option ℕ → List ℕ → List ℕ
stamped_at serial None stamps = stamps
stamped_at serial (Some at) stamps = slice_set stamps at serial

abbrev pub space_place : Option (ℕ × ℕ) → Option ℕ
space_place None = None
space_place (Some x) = Some (place_of x.0 x.1)

-- a change that touches no namespace and no ANA group
abbrev pub raised : Stamps → Stamps
raised s = record s { serial = next_serial s }

-- the namespace, the subsystem and the port that the change of an edit names
unfoldable pub stamped : Change → Stamps → Stamps
stamped c s = record {
  serial = next_serial s;
  spaces = stamped_at (next_serial s) (space_place c.namespace) s.spaces;
  subs = stamped_at (next_serial s) c.ana_subsystem s.subs;
  ports = stamped_at (next_serial s) c.ana_port s.ports;
}

-- a change that isn't published stamps nothing
abbrev pub stamps_after : Change → Stamps → Stamps
stamps_after c s = if c.published then stamped c s else s

-- ---- the start: nothing changed yet
unfoldable pub untouched : ℕ → List ℕ
untouched count = replicate count 0

unfoldable pub no_stamps : Stamps
no_stamps = record {
  serial = 0;
  spaces = untouched (MAX_SUBSYSTEMS * (MAX_NSID + 1));
  subs = untouched MAX_SUBSYSTEMS;
  ports = untouched MAX_PORTS;
}
