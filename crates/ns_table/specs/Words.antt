-- The words of a configuration: what each of them is, by its place.
use Rattle.std.specs.Prelude.{◌≡◌, ℕ, length, ◌==◌, ◌&&◌, Bool, false, if◌then◌else◌, List, [], ◌∷◌, ◌++◌, take, drop, map, slice_index, Option, Some, None}
use Rattle.std.specs.List.{list_any, range_with_len}
use Rattle.std.specs.Int.{from_le_bytes, w64}
use Rattle.std.specs.FinMap as maps
use Rattle.mem_bdev.specs.Blocks.{Blocks}
use Rattle.sqe_cqe.specs.Anas.{ana_number}
use Rattle.sqe_cqe.specs.Ready.{ready_in}
use Rattle.sqe_cqe.specs.declared.controllers.ControllerRow.{ControllerRow}
use Rattle.sqe_cqe.specs.declared.rows.Ana.{Ana}
use Rattle.sqe_cqe.specs.declared.rows.Seen.{Seen}
use Rattle.sqe_cqe.specs.declared.rows.Seen.TheVariants.{NotConfigured, Off, On}
use Rattle.configfs_rows.specs.declared.namespaces.NamespaceRow.{NamespaceRow}
use Rattle.configfs_rows.specs.declared.subsystems.SubsystemRow.{SubsystemRow}
use Rattle.configfs_tree.specs.declared.configuration.Configuration.{Configuration}
use Rattle.configfs_tree.specs.Links.{subsystem_row, port_row}
use Rattle.tree_target.specs.Views.{seen_of, space_in, group_in}
use Rattle.ns_table.specs.declared.layout.TheConstants.{WORDS}
use Rattle.ns_table.specs.Positions.{Place, Shown, Ready, Changes, SubsystemStamp, PortStamp, State, Space, IsWithin, at, place_at}

-- the serials of the last changes, or 0: of a namespace by the position of its subsystem and its
-- NSID, and of the ANA changes of subsystems and of ports by their positions
pub record Stamps : Type 0 where
  pub space : ℕ → ℕ → ℕ
  pub subsystem : ℕ → ℕ
  pub port : ℕ → ℕ

-- a configuration with its controllers, its disks and its stamps
pub record Shape : Type 0 where
  pub tree : Configuration
  pub controllers : List ControllerRow
  pub blocks : List Blocks
  pub stamps : Stamps

-- before any change was published
abbrev pub no_stamps : Stamps
no_stamps = record { space = λ s n. 0; subsystem = λ s. 0; port = λ p. 0 }

abbrev pub opened_shape : Configuration → List ControllerRow → List Blocks → Shape
opened_shape t controllers blocks = record {
  tree = t;
  controllers = controllers;
  blocks = blocks;
  stamps = no_stamps;
}

-- ---- namespaces
abbrev pub bit : Bool → ℕ
bit b = if b then 1 else 0

-- phase, disk, block size, blocks, group, and 16 bytes each of UUID and NGUID as two words, low
-- byte first
abbrev pub seen_words : Seen → List ℕ
seen_words NotConfigured = 0 ∷ 0 ∷ 0 ∷ 0 ∷ 0 ∷ 0 ∷ 0 ∷ 0 ∷ 0 ∷ []
seen_words Off = 1 ∷ 0 ∷ 0 ∷ 0 ∷ 0 ∷ 0 ∷ 0 ∷ 0 ∷ 0 ∷ []
seen_words (On row) = 2 ∷ row.disk ∷ row.shift ∷ row.blocks ∷ row.group
    ∷ from_le_bytes w64 (take 8 row.uuid) ∷ from_le_bytes w64 (drop 8 row.uuid)
    ∷ from_le_bytes w64 (take 8 row.nguid) ∷ from_le_bytes w64 (drop 8 row.nguid) ∷ []

-- the eleven words of an NSID: those, a reserved one that is 0, and the stamp
abbrev pub space_words : Seen → ℕ → List ℕ
space_words seen stamp = seen_words seen ++ (0 ∷ stamp ∷ [])

-- ---- disks
abbrev pub is_on : ℕ → Option ℕ → Bool
is_on disk None = false
is_on disk (Some n) = n == disk

abbrev pub shows : ℕ → NamespaceRow → Bool
shows disk n = n.enabled && is_on disk n.disk

abbrev pub subsystem_shows : ℕ → SubsystemRow → Bool
subsystem_shows disk s = list_any (λ (e : ℕ × NamespaceRow). shows disk e.1)
    (maps.entries s.namespaces)

abbrev pub entry_shows : ℕ → List ℕ × SubsystemRow → Bool
entry_shows disk e = subsystem_shows disk e.1

-- an enabled namespace is on the disk
unfoldable pub is_shown : Configuration → ℕ → Bool
is_shown t disk = list_any (subsystem_shows disk) (maps.values t.settings.subsystems)

-- ---- groups
abbrev pub state_word : Option Ana → ℕ
state_word None = 0
state_word (Some a) = ana_number a

-- ---- all words
abbrev pub word_for : Shape → Place → ℕ
word_for x (Shown disk) = bit (is_shown x.tree disk)
word_for x (Ready ctrl) = bit (ready_in x.controllers ctrl)
word_for x Changes = x.tree.settings.ana_count
word_for x (SubsystemStamp sub) = x.stamps.subsystem sub
word_for x (PortStamp port) = x.stamps.port port
word_for x (State port group) = state_word (group_in group (port_row x.tree port))
word_for x (Space sub nsid part) = slice_index
    (space_words (seen_of x.blocks (space_in nsid (subsystem_row x.tree sub)))
    (x.stamps.space sub nsid)) part

-- f of each number below n
unfoldable pub each_below : (ℕ → ℕ) → ℕ → List ℕ
each_below f n = map f (range_with_len 0 n)

unfoldable pub words_of : Shape → List ℕ
words_of x = each_below (λ w. word_for x (place_at w)) WORDS

-- each word is the one for its place, and there are no others
pub record ArePlaced (x : Shape) (ws : List ℕ) : Type 0 where
  pub all : length ws ≡ WORDS
  pub each : (p : Place) → IsWithin p → slice_index ws (at p) ≡ word_for x p

abbrev pub WordsArePlaced : Type 0
WordsArePlaced = (x : Shape) → ArePlaced x (words_of x)
