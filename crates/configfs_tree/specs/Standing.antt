-- The standing facts, which hold of every tree that calls reach.
use Rattle.std.specs.Prelude.{◌≡◌, ◌↔◌, ℕ, ◌||◌, Bool, List, Option, Some, None, IsTrue}
use Rattle.std.specs.List.{slice_get}
use Rattle.std.specs.FinMap as map
use Rattle.std.specs.FinMap.{FinMap}
use Rattle.configfs_rows.specs.Nqns.{name_order}
use Rattle.configfs_rows.specs.Places.{HasPlaces}
use Rattle.configfs_rows.specs.Holders.{disk_of, holds_path, is_held}
use Rattle.configfs_rows.specs.declared.limits.TheConstants.{MAX_SUBSYSTEMS, MAX_PORTS}
use Rattle.configfs_rows.specs.declared.disks.DiskRow.{DiskRow}
use Rattle.configfs_rows.specs.declared.disks.Holder.{Holder}
use Rattle.configfs_rows.specs.declared.namespaces.NamespaceRow.{NamespaceRow}
use Rattle.configfs_rows.specs.declared.subsystems.SubsystemRow.{SubsystemRow}
use Rattle.configfs_rows.specs.declared.ports.PortRow.{PortRow}
use Rattle.configfs_tree.specs.Sound.{IsSound}
use Rattle.configfs_tree.specs.declared.configuration.Configuration.{Configuration}

-- a namespace with the position of its subsystem
pub record Placed : Type 0 where
  pub at : ℕ
  pub row : NamespaceRow

abbrev pub placed_row : ℕ → Option NamespaceRow → Option Placed
placed_row at None = None
placed_row at (Some n) = Some (record { at = at; row = n })

abbrev pub placed_in : ℕ → Option SubsystemRow → Option Placed
placed_in nsid None = None
placed_in nsid (Some s) = placed_row s.at (map.get s.namespaces nsid)

-- the namespace of a subsystem's name and an NSID
abbrev pub placed : FinMap name_order SubsystemRow → List ℕ → ℕ → Option Placed
placed subsystems sub nsid = placed_in nsid (map.get subsystems sub)

-- the namespace that a holder names stands there, with the disk's path
pub record IsHeldBy (look : List ℕ → ℕ → Option Placed) (path : List ℕ) (h : Holder) : Type 0 where
  pub sub : List ℕ
  pub row : NamespaceRow
  pub stands : look sub h.nsid ≡ Some (record { at = h.sub; row = row })
  pub same_path : row.device_path ≡ Some path

-- disks are held exactly where a namespace that is enabled or draining has their path
pub record HasHolders (look : List ℕ → ℕ → Option Placed) (disks : List DiskRow) : Type 0 where
  -- an enabled namespace holds the disk of its path
  pub enabled_holds : (sub : List ℕ) (nsid : ℕ) (x : Placed) → look sub nsid ≡ Some x
      → IsTrue x.row.enabled → IsTrue (holds_path disks x.at nsid x.row.device_path)
  -- who holds a disk is a namespace with its path
  pub holder_stands : (path : List ℕ) (d : DiskRow) (h : Holder) → disk_of path disks ≡ Some d
      → d.holder ≡ Some h → IsHeldBy look path h

abbrev pub SubsystemPlaces : FinMap name_order SubsystemRow → Type 0
SubsystemPlaces m = HasPlaces (λ s. s.nqn) (λ s. s.at) MAX_SUBSYSTEMS m

-- rows stand at positions of their own, and holders and namespaces agree
pub record IsPlaced (t : Configuration) : Type 0 where
  pub subsystems : SubsystemPlaces t.settings.subsystems
  pub ports : HasPlaces (λ (p : PortRow). p.id) (λ (p : PortRow). p.at) MAX_PORTS t.settings.ports
  -- group 1 of a port is there
  pub group_one : (id : ℕ) (p : PortRow) → map.get t.settings.ports id ≡ Some p
      → IsTrue (map.contains_key p.groups 1)
  pub holders : HasHolders (placed t.settings.subsystems) t.disks

pub record IsStanding (t : Configuration) : Type 0 where
  pub placed : IsPlaced t
  pub sound : IsSound t

-- ---- what the last row of set enable to 1 asks, in other words
-- the namespace is enabled, or it holds the disk of its path: it is draining
abbrev pub is_live : List DiskRow → ℕ → Placed → Bool
is_live disks nsid x = x.row.enabled || holds_path disks x.at nsid x.row.device_path

-- a live namespace holds the disk whose number it keeps, and that disk has its path
pub record HoldsDisk (t : Configuration) (nsid : ℕ) (x : Placed) : Type 0 where
  pub number : ℕ
  pub disk : DiskRow
  pub holder : Holder
  pub numbered : x.row.disk ≡ Some number
  pub found : slice_get t.disks number ≡ Some disk
  pub same_path : x.row.device_path ≡ Some disk.path
  pub held : disk.holder ≡ Some holder
  pub holder_sub : holder.sub ≡ x.at
  pub holder_nsid : holder.nsid ≡ nsid

abbrev pub LiveHoldsDisk : Configuration → List ℕ → ℕ → Type 0
LiveHoldsDisk t sub nsid = (x : Placed) → placed t.settings.subsystems sub nsid ≡ Some x
    → IsTrue (is_live t.disks nsid x) → HoldsDisk t nsid x

-- another namespace that is enabled or draining has this path
pub record AnotherHas (t : Configuration) (path : List ℕ) (sub : List ℕ) (nsid : ℕ) : Type 0 where
  pub other : List ℕ
  pub number : ℕ
  pub differs : other ≡ sub → number ≡ nsid → ⊥
  pub x : Placed
  pub stands : placed t.settings.subsystems other number ≡ Some x
  pub live : IsTrue (is_live t.disks number x)
  pub same_path : x.row.device_path ≡ Some path

-- of a namespace that is off: the disk of its path is held exactly where another has the path
abbrev pub HeldMeansAnother : Configuration → List ℕ → ℕ → Type 0
HeldMeansAnother t sub nsid = (x : Placed) (path : List ℕ) → placed t.settings.subsystems sub nsid
    ≡ Some x → x.row.device_path ≡ Some path → (IsTrue (is_live t.disks nsid x) → ⊥)
    → (IsTrue (is_held t.disks (Some path)) ↔ AnotherHas t path sub nsid)
