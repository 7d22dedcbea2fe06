-- Edits of a configuration in the order of its elements, and the edits that one element brings.
use Rattle.std.specs.Prelude.{◌≡◌, ℕ, suc, List, [], ◌∷◌, ◌++◌, Option, Some, None, Result, Ok, Err}
use Rattle.serde_json.specs.Data.{Data, Items, no_items, item}
use Rattle.serde_json.specs.Find.{as_array}
use Rattle.configfs_tree.specs.declared.edits.Attr.{Attr}
use Rattle.configfs_tree.specs.declared.edits.Folder.{Folder}
use Rattle.configfs_tree.specs.declared.edits.FolderEdit.TheVariants as edits
use Rattle.nvmetcli_json.specs.declared.error.JsonError.{JsonError}
use Rattle.link_rules.specs.declared.edits.Edit.{Edit}
use Rattle.link_rules.specs.declared.edits.Edit.TheVariants as edit
use Rattle.link_rules.specs.declared.edits.LinkEdit.TheVariants as link
use Rattle.nvmetcli_json.specs.Faults.{Found, misfit, under, numbered, Fails}

abbrev pub Loads : Type 0
Loads = Found (List Edit)

-- one after the other: the first fault, or the edits of both
unfoldable pub followed_by : Loads → Loads → Loads
followed_by (Err e) r = Err e
followed_by (Ok es) (Err e) = Err e
followed_by (Ok es) (Ok fs) = Ok (es ++ fs)

infixr 11 ◌>>◌
abbrev pub ◌>>◌ : Loads → Loads → Loads
first >> second = followed_by first second

-- the items of an array, from the item with the number n on
unfoldable pub each_from : (Data → Loads) → ℕ → Items → Loads
each_from read n no_items = Ok []
each_from read n (item d ds) = under (numbered n) (read d) >> each_from read (suc n) ds

abbrev pub each_of : (Data → Loads) → Option Items → Loads
each_of read None = misfit
each_of read (Some ds) = each_from read 0 ds

unfoldable pub in_array : (Data → Loads) → Data → Loads
in_array read d = each_of read (as_array d)

-- ---- single edits
abbrev pub made : Folder → Edit
made f = edit.Folder (edits.Mkdir f)

abbrev pub set : Folder → Attr → List ℕ → Edit
set f a value = edit.Folder (edits.Set f a value)

abbrev pub allowed : List ℕ → List ℕ → Edit
allowed sub host = edit.Link (link.AllowHost sub host)

abbrev pub linked : ℕ → List ℕ → Edit
linked port sub = edit.Link (link.LinkSubsystem port sub)

-- an edit where a value is given
abbrev pub set_some : Folder → Attr → Option (List ℕ) → List Edit
set_some f a None = []
set_some f a (Some value) = set f a value ∷ []

-- what a call adds to the edits before it
abbrev pub Adds : List Edit → List Edit → Result (Unit {0}) JsonError → Loads → Type 0
Adds old new (Ok u) read = (added : List Edit) × (read ≡ Ok added) × (new ≡ old ++ added)
Adds old new (Err e) read = Fails e read
