-- The words that a change is published with.
use Rattle.std.specs.Prelude.{◌≡◌, ◌⊎◌, ◌<◌, ℕ, List, [], ◌∷◌, ◌++◌, map, Option, Some, None}
use Rattle.std.specs.List.{Contains, range_with_len, slice_get}
use Rattle.mem_bdev.specs.Blocks.{Blocks}
use Rattle.sqe_cqe.specs.declared.controllers.ControllerRow.{ControllerRow}
use Rattle.configfs_tree.specs.Standing.{IsStanding}
use Rattle.configfs_tree.specs.Told.{Tells}
use Rattle.configfs_tree.specs.declared.configuration.Configuration.{Configuration}
use Rattle.configfs_tree.specs.declared.edits.Change.{Change}
use Rattle.configfs_tree.specs.declared.edits.Touched.{Touched}
use Rattle.configfs_tree.specs.declared.edits.Touched.TheVariants as touches
use Rattle.configfs_tree.specs.Links.{subsystem_row}
use Rattle.tree_target.specs.Views.{space_in}
use Rattle.ns_table.specs.Positions.{Place, Shown, Ready, Changes, SubsystemStamp, PortStamp, State, Space, at, IsWithin, IsNsid, IsGroup, IsController}
use Rattle.ns_table.specs.Words.{Stamps, Shape, word_for}
use Rattle.ns_table.specs.Changed.{disk_in, shape_before, stamps_after, Keeps}

-- a word with its position
abbrev pub placed_word : Shape → Place → ℕ × ℕ
placed_word x p = (at p, word_for x p)

-- the row that was touched, but for its stamp
abbrev pub touched_places : Touched → List Place
touched_places touches.Nothing = []
touched_places (touches.Namespace sub nsid) = map (Space sub nsid) (range_with_len 0 10)
touched_places (touches.Group port group) = State port group ∷ []
touched_places (touches.Port port) = State port 1 ∷ []
touched_places (touches.Subsystem sub) = []
touched_places (touches.Controller ctrl) = Ready ctrl ∷ []

-- the disk of a namespace that turned
abbrev pub shown_places : Option ℕ → List Place
shown_places None = []
shown_places (Some disk) = Shown disk ∷ []

-- a namespace that turned: its stamp, and its disk
abbrev pub turned_places : Configuration → Option (ℕ × ℕ) → List Place
turned_places u None = []
turned_places u (Some x) = Space x.0 x.1 10
    ∷ shown_places (disk_in (space_in x.1 (subsystem_row u x.0)))

-- an ANA change: its stamp, and the count
abbrev pub port_places : Option ℕ → List Place
port_places None = []
port_places (Some port) = PortStamp port ∷ Changes ∷ []

abbrev pub subsystem_places : Option ℕ → List Place
subsystem_places None = []
subsystem_places (Some sub) = SubsystemStamp sub ∷ Changes ∷ []

-- all that a change tells of
abbrev pub told_places : Configuration → Change → List Place
told_places u c = touched_places c.touched ++ (turned_places u c.namespace
    ++ (port_places c.ana_port ++ subsystem_places c.ana_subsystem))

-- the words of these places
abbrev pub words_at : Shape → List Place → List (ℕ × ℕ)
words_at x places = map (placed_word x) places

-- what a change names is in the table
abbrev pub FitsTouched : Touched → Type 0
FitsTouched touches.Nothing = Unit {0}
FitsTouched (touches.Namespace sub nsid) = IsNsid sub nsid
FitsTouched (touches.Group port group) = IsGroup port group
FitsTouched (touches.Port port) = port < 8
FitsTouched (touches.Subsystem sub) = Unit {0}
FitsTouched (touches.Controller ctrl) = IsController ctrl

abbrev pub FitsPair : Option (ℕ × ℕ) → Type 0
FitsPair None = Unit {0}
FitsPair (Some x) = IsNsid x.0 x.1

abbrev pub IsBelow : ℕ → Option ℕ → Type 0
IsBelow most None = Unit {0}
IsBelow most (Some n) = n < most

pub record FitsChange (c : Change) : Type 0 where
  pub touched : FitsTouched c.touched
  pub namespace : FitsPair c.namespace
  pub ana_port : IsBelow 8 c.ana_port
  pub ana_subsystem : IsBelow 16 c.ana_subsystem

-- the words of what turned, and of ANA changes, at the serial that publishes them
abbrev pub turned_words : Shape → Option (ℕ × ℕ) → ℕ → List (ℕ × ℕ)
turned_words x None serial = []
turned_words x (Some s) serial = (at (Space s.0 s.1 10), serial)
    ∷ words_at x (shown_places (disk_in (space_in s.1 (subsystem_row x.tree s.0))))

abbrev pub port_words : Shape → Option ℕ → ℕ → List (ℕ × ℕ)
port_words x None serial = []
port_words x (Some port) serial = (at (PortStamp port), serial) ∷ placed_word x Changes ∷ []

abbrev pub subsystem_words : Shape → Option ℕ → ℕ → List (ℕ × ℕ)
subsystem_words x None serial = []
subsystem_words x (Some sub) serial = (at (SubsystemStamp sub), serial) ∷ placed_word x Changes ∷ []

-- a word that isn't as before has its place in the patch
abbrev pub PatchesAreWhole : Type 0
PatchesAreWhole = (t u : Configuration) (c : Change) (controllers : List ControllerRow)
    (blocks : List Blocks) (stamps : Stamps) (serial : ℕ) → IsStanding t → IsStanding u
    → Tells t u c → Keeps t u → (p : Place) → IsWithin p
    → (word_for (shape_before u controllers blocks (stamps_after serial c stamps)) p
    ≡ word_for (shape_before t controllers blocks stamps) p) ⊎ Contains (told_places u c) p

-- no place is in a patch twice
abbrev pub PatchesAreOnce : Type 0
PatchesAreOnce = (u : Configuration) (c : Change) → (c.ana_port ≡ None) ⊎ (c.ana_subsystem ≡ None)
    → (i j : ℕ) (p : Place) → slice_get (told_places u c) i ≡ Some p
    → slice_get (told_places u c) j ≡ Some p → i ≡ j
