-- How edits are spelled as the words of a script line.
use Rattle.std.specs.Prelude.{◌≡◌, ◌⊎◌, ℕ, ◌^◌, ◌&&◌, nat_lt, Bool, true, List, [], ◌∷◌, codes}
use Rattle.std.specs.Fmt.{decimal}
use Rattle.std.specs.List.{join_with_byte}
use Rattle.configfs_rows.specs.Nqns.{is_nqn}
use Rattle.configfs_tree.specs.Asked.{is_fitting}
use Rattle.configfs_tree.specs.declared.edits.Attr.{Attr}
use Rattle.configfs_tree.specs.declared.edits.Attr.TheVariants as attr
use Rattle.configfs_tree.specs.declared.edits.Folder.{Folder}
use Rattle.configfs_tree.specs.declared.edits.Folder.TheVariants as folder
use Rattle.configfs_tree.specs.declared.edits.FolderEdit.{FolderEdit}
use Rattle.configfs_tree.specs.declared.edits.FolderEdit.TheVariants as make
use Rattle.link_rules.specs.declared.edits.Edit.{Edit}
use Rattle.link_rules.specs.declared.edits.Edit.TheVariants as edit
use Rattle.link_rules.specs.declared.edits.LinkEdit.{LinkEdit}
use Rattle.link_rules.specs.declared.edits.LinkEdit.TheVariants as link

-- ---- paths: their parts, with one '/' between each two
abbrev pub path_of : List (List ℕ) → List ℕ
path_of parts = join_with_byte 47 parts

abbrev pub folder_parts : Folder → List (List ℕ)
folder_parts (folder.Host host) = codes "hosts" ∷ host ∷ []
folder_parts (folder.Subsystem sub) = codes "subsystems" ∷ sub ∷ []
folder_parts (folder.Namespace sub nsid) = codes "subsystems" ∷ sub ∷ codes "namespaces"
    ∷ decimal nsid ∷ []
folder_parts (folder.Port id) = codes "ports" ∷ decimal id ∷ []
folder_parts (folder.AnaGroup id group) = codes "ports" ∷ decimal id ∷ codes "ana_groups"
    ∷ decimal group ∷ []

abbrev pub link_parts : LinkEdit → List (List ℕ)
link_parts (link.AllowHost sub host) = codes "subsystems" ∷ sub ∷ codes "allowed_hosts" ∷ host ∷ []
link_parts (link.DisallowHost sub host) = codes "subsystems" ∷ sub ∷ codes "allowed_hosts" ∷ host
    ∷ []
link_parts (link.LinkSubsystem id sub) = codes "ports" ∷ decimal id ∷ codes "subsystems" ∷ sub ∷ []
link_parts (link.UnlinkSubsystem id sub) = codes "ports" ∷ decimal id ∷ codes "subsystems" ∷ sub
    ∷ []

-- ---- words
abbrev pub attr_word : Attr → List ℕ
attr_word attr.AllowAnyHost = codes "attr_allow_any_host"
attr_word attr.Serial = codes "attr_serial"
attr_word attr.ModelName = codes "attr_model"
attr_word attr.DevicePath = codes "device_path"
attr_word attr.DeviceUuid = codes "device_uuid"
attr_word attr.DeviceNguid = codes "device_nguid"
attr_word attr.AnaGrpid = codes "ana_grpid"
attr_word attr.Enable = codes "enable"
attr_word attr.Trtype = codes "addr_trtype"
attr_word attr.Adrfam = codes "addr_adrfam"
attr_word attr.Traddr = codes "addr_traddr"
attr_word attr.Trsvcid = codes "addr_trsvcid"
attr_word attr.Treq = codes "addr_treq"
attr_word attr.AnaState = codes "ana_state"

abbrev pub link_verb : LinkEdit → List ℕ
link_verb (link.AllowHost sub host) = codes "link"
link_verb (link.DisallowHost sub host) = codes "unlink"
link_verb (link.LinkSubsystem id sub) = codes "link"
link_verb (link.UnlinkSubsystem id sub) = codes "unlink"

abbrev pub folder_words : FolderEdit → List (List ℕ)
folder_words (make.Mkdir f) = codes "mkdir" ∷ path_of (folder_parts f) ∷ []
folder_words (make.Rmdir f) = codes "rmdir" ∷ path_of (folder_parts f) ∷ []
folder_words (make.Set f a value) = codes "set" ∷ path_of (folder_parts f) ∷ attr_word a ∷ value
    ∷ []

-- the words of the line that says an edit
abbrev pub edit_words : Edit → List (List ℕ)
edit_words (edit.Folder e) = folder_words e
edit_words (edit.Link e) = link_verb e ∷ path_of (link_parts e) ∷ []

-- ---- what can be said: names are NQNs, a port's number has 16 bits, that of a namespace and of an
-- ANA group 32
abbrev pub fits_folder : Folder → Bool
fits_folder (folder.Host host) = is_nqn host
fits_folder (folder.Subsystem sub) = is_nqn sub
fits_folder (folder.Namespace sub nsid) = is_nqn sub && nat_lt nsid (2 ^ 32)
fits_folder (folder.Port id) = nat_lt id (2 ^ 16)
fits_folder (folder.AnaGroup id group) = nat_lt id (2 ^ 16) && nat_lt group (2 ^ 32)

abbrev pub fits_link : LinkEdit → Bool
fits_link (link.AllowHost sub host) = is_nqn sub && is_nqn host
fits_link (link.DisallowHost sub host) = is_nqn sub && is_nqn host
fits_link (link.LinkSubsystem id sub) = nat_lt id (2 ^ 16) && is_nqn sub
fits_link (link.UnlinkSubsystem id sub) = nat_lt id (2 ^ 16) && is_nqn sub

-- an attribute is one of its folder's, and a value is a text
abbrev pub fits : Edit → Bool
fits (edit.Folder (make.Mkdir f)) = fits_folder f
fits (edit.Folder (make.Rmdir f)) = fits_folder f
fits (edit.Folder (make.Set f a value)) = fits_folder f && is_fitting (make.Set f a value)
fits (edit.Link e) = fits_link e

-- ---- whole lines
-- where an attribute is set to nothing, the space after it may lack
abbrev pub IsShortLineOf : Edit → List ℕ → Type 0
IsShortLineOf (edit.Folder (make.Mkdir f)) line = ⊥
IsShortLineOf (edit.Folder (make.Rmdir f)) line = ⊥
IsShortLineOf (edit.Folder (make.Set f a [])) line =
    line ≡ join_with_byte 32 (codes "set" ∷ path_of (folder_parts f) ∷ attr_word a ∷ [])
IsShortLineOf (edit.Folder (make.Set f a (b ∷ value))) line = ⊥
IsShortLineOf (edit.Link e) line = ⊥

-- the line of an edit is its words, with one space between each two
abbrev pub IsLineOf : Edit → List ℕ → Type 0
IsLineOf e line = (line ≡ join_with_byte 32 (edit_words e)) ⊎ IsShortLineOf e line
