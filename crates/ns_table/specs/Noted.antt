-- The stamps that a target keeps, as changes are noted in them.
use Rattle.std.specs.Prelude.{◌≡◌}
use Rattle.configfs_tree.specs.declared.edits.Change.{Change}
use Rattle.change_stamps.specs.Stamps.{Stamps as Kept, no_stamps as nothing_kept, next_serial, stamped}
use Rattle.ns_table.specs.Words.{no_stamps}
use Rattle.ns_table.specs.Kept.{stamps_by, HavePlaces}
use Rattle.ns_table.specs.Changed.{stamps_after}
use Rattle.ns_table.specs.Patches.{FitsChange}
use Rattle.ns_table.specs.Looked.{AreSerials}

-- a target that was loaded keeps the stamps that its words are opened with
abbrev pub NothingIsStamped : Type 0
NothingIsStamped = stamps_by nothing_kept ≡ no_stamps

abbrev pub PlacesFromTheStart : Type 0
PlacesFromTheStart = HavePlaces nothing_kept

-- noting a published change gives the stamps that it is published with
abbrev pub NotedIsPublished : Type 0
NotedIsPublished = (s : Kept) (c : Change) → HavePlaces s → FitsChange c
    → stamps_by (stamped c s) ≡ stamps_after (next_serial s) c (stamps_by s)

abbrev pub PlacesStay : Type 0
PlacesStay = (s : Kept) (c : Change) → HavePlaces s → FitsChange c → HavePlaces (stamped c s)

abbrev pub SerialsFromTheStart : Type 0
SerialsFromTheStart = AreSerials (stamps_by nothing_kept)

abbrev pub SerialsStay : Type 0
SerialsStay = (s : Kept) (c : Change) → HavePlaces s → FitsChange c → AreSerials (stamps_by s)
    → AreSerials (stamps_by (stamped c s))
