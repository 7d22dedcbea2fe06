-- The disks, and which namespace holds each.
use Rattle.std.specs.Prelude.{ℕ, ◌==◌, ◌&&◌, not, Bool, true, false, if◌then◌else◌, List, [], ◌∷◌, Option, Some, None, is_some, map, position}
use Rattle.std.specs.List.{list_any}
use Rattle.std.specs.Str.{bytes_eq}
use Rattle.configfs_rows.specs.declared.disks.Holder.{Holder}
use Rattle.configfs_rows.specs.declared.disks.DiskRow.{DiskRow}

abbrev pub is_holder : ℕ → ℕ → Option Holder → Bool
is_holder sub nsid None = false
is_holder sub nsid (Some h) = (h.sub == sub) && (h.nsid == nsid)

-- the disk of a path
abbrev pub disk_of : List ℕ → List DiskRow → Option DiskRow
disk_of path [] = None
disk_of path (d ∷ disks) = if bytes_eq d.path path then Some d else disk_of path disks

abbrev pub holder_of : Option DiskRow → Option Holder
holder_of None = None
holder_of (Some d) = d.holder

-- the disks with another holder at a path
abbrev pub hold : List ℕ → Option Holder → List DiskRow → List DiskRow
hold path h [] = []
hold path h (d ∷ disks) = if bytes_eq d.path path then record d {
  holder =
      h;
} ∷ disks else d ∷ hold path h disks

abbrev pub holds_path : List DiskRow → ℕ → ℕ → Option (List ℕ) → Bool
holds_path disks sub nsid None = false
holds_path disks sub nsid (Some path) = is_holder sub nsid (holder_of (disk_of path disks))

abbrev pub has_disk : List DiskRow → Option (List ℕ) → Bool
has_disk disks None = false
has_disk disks (Some path) = is_some (disk_of path disks)

abbrev pub is_held : List DiskRow → Option (List ℕ) → Bool
is_held disks None = false
is_held disks (Some path) = is_some (holder_of (disk_of path disks))

abbrev pub disk_path : DiskRow → List ℕ
disk_path d = d.path

-- the paths of disks, which no call changes
abbrev pub paths_of : List DiskRow → List (List ℕ)
paths_of disks = map disk_path disks

-- the number of the disk of a path, from 0 in the plan's order
abbrev pub number_of : List ℕ → List (List ℕ) → Option ℕ
number_of path paths = position (λ (p : List ℕ). bytes_eq p path) paths

-- the number of the disk that a path names, where it is set and names one
abbrev pub disk_number : List (List ℕ) → Option (List ℕ) → Option ℕ
disk_number paths None = None
disk_number paths (Some path) = number_of path paths

-- no two of these paths are one
abbrev pub are_apart : List (List ℕ) → Bool
are_apart [] = true
are_apart (path ∷ paths) = not (list_any (bytes_eq path) paths) && are_apart paths

abbrev pub path_or_empty : Option (List ℕ) → List ℕ
path_or_empty None = []
path_or_empty (Some path) = path
