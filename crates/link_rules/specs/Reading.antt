-- Reading the words of a script line as an edit.
use Rattle.std.specs.Prelude.{◌≡◌, ℕ, ◌^◌, ◌&&◌, ◌==◌, nat_lt, Bool, true, false, if◌then◌else◌, List, [], ◌∷◌, codes, Option, Some, None}
use Rattle.std.specs.List.{find, slice_split}
use Rattle.std.specs.Option.{option_and_then}
use Rattle.std.specs.Str.{bytes_eq}
use Rattle.plan_files.specs.Spelling.{number_of}
use Rattle.configfs_rows.specs.Nqns.{is_nqn}
use Rattle.configfs_tree.specs.Asked.{is_fitting}
use Rattle.configfs_tree.specs.declared.edits.Attr.{Attr}
use Rattle.configfs_tree.specs.declared.edits.Attr.TheVariants as attr
use Rattle.configfs_tree.specs.declared.edits.Folder.{Folder}
use Rattle.configfs_tree.specs.declared.edits.Folder.TheVariants as folder
use Rattle.configfs_tree.specs.declared.edits.FolderEdit.{FolderEdit}
use Rattle.configfs_tree.specs.declared.edits.FolderEdit.TheVariants as make
use Rattle.link_rules.specs.declared.edits.Edit.{Edit}
use Rattle.link_rules.specs.declared.edits.Edit.TheVariants as edit
use Rattle.link_rules.specs.declared.edits.LinkEdit.{LinkEdit}
use Rattle.link_rules.specs.declared.edits.LinkEdit.TheVariants as link
use Rattle.link_rules.specs.Spelling.{attr_word}

-- ---- names, numbers and attributes
unfoldable pub nqn_of : List ℕ → Option (List ℕ)
nqn_of word = if is_nqn word then Some word else None

-- a decimal number below a limit
unfoldable pub number_below : ℕ → List ℕ → Option ℕ
number_below limit word = option_and_then (λ n. if nat_lt n limit then Some n else None)
    (number_of word)

abbrev pub all_attrs : List Attr
all_attrs = attr.AllowAnyHost ∷ attr.Serial ∷ attr.ModelName ∷ attr.DevicePath ∷ attr.DeviceUuid
    ∷ attr.DeviceNguid ∷ attr.AnaGrpid ∷ attr.Enable ∷ attr.Trtype ∷ attr.Adrfam ∷ attr.Traddr
    ∷ attr.Trsvcid ∷ attr.Treq ∷ attr.AnaState ∷ []

-- of these attributes the one that a word names
abbrev pub attr_among : List ℕ → List Attr → Option Attr
attr_among word attrs = find (λ a. bytes_eq word (attr_word a)) attrs

abbrev pub attr_named : List ℕ → Option Attr
attr_named word = attr_among word all_attrs

-- ---- paths
abbrev pub parts_of : List ℕ → List (List ℕ)
parts_of path = slice_split (λ b. b == 47) path

-- a folder of two parts
unfoldable pub outer_folder : List ℕ → List ℕ → Option Folder
outer_folder kind name =
    if bytes_eq kind (codes "hosts")
    then option_and_then (λ host. Some (folder.Host host)) (nqn_of name)
    else (if bytes_eq kind (codes "subsystems")
    then option_and_then (λ sub. Some (folder.Subsystem sub)) (nqn_of name)
    else (if bytes_eq kind (codes "ports")
    then option_and_then (λ id. Some (folder.Port id)) (number_below (2 ^ 16) name)
    else None))

-- a folder of four parts
unfoldable pub inner_folder : List ℕ → List ℕ → List ℕ → List ℕ → Option Folder
inner_folder kind name inner last =
    if bytes_eq kind (codes "subsystems") && bytes_eq inner (codes "namespaces")
    then option_and_then (λ sub. option_and_then (λ nsid. Some (folder.Namespace sub nsid))
    (number_below (2 ^ 32) last)) (nqn_of name)
    else (if bytes_eq kind (codes "ports") && bytes_eq inner (codes "ana_groups")
    then option_and_then (λ id. option_and_then (λ group. Some (folder.AnaGroup id group))
    (number_below (2 ^ 32) last)) (number_below (2 ^ 16) name)
    else None)

abbrev pub folder_of : List (List ℕ) → Option Folder
folder_of [] = None
folder_of (kind ∷ []) = None
folder_of (kind ∷ name ∷ []) = outer_folder kind name
folder_of (kind ∷ name ∷ inner ∷ []) = None
folder_of (kind ∷ name ∷ inner ∷ last ∷ []) = inner_folder kind name inner last
folder_of (kind ∷ name ∷ inner ∷ last ∷ more ∷ parts) = None

abbrev pub folder_in : List ℕ → Option Folder
folder_in path = folder_of (parts_of path)

-- a link that is made, or taken away
abbrev pub host_link : Bool → List ℕ → List ℕ → LinkEdit
host_link true sub host = link.AllowHost sub host
host_link false sub host = link.DisallowHost sub host

abbrev pub port_link : Bool → ℕ → List ℕ → LinkEdit
port_link true id sub = link.LinkSubsystem id sub
port_link false id sub = link.UnlinkSubsystem id sub

unfoldable pub link_between : Bool → List ℕ → List ℕ → List ℕ → List ℕ → Option LinkEdit
link_between made kind name inner last =
    if bytes_eq kind (codes "subsystems") && bytes_eq inner (codes "allowed_hosts")
    then option_and_then (λ sub. option_and_then (λ host. Some (host_link made sub host))
    (nqn_of last)) (nqn_of name)
    else (if bytes_eq kind (codes "ports") && bytes_eq inner (codes "subsystems")
    then option_and_then (λ id. option_and_then (λ sub. Some (port_link made id sub))
    (nqn_of last)) (number_below (2 ^ 16) name)
    else None)

abbrev pub link_of : Bool → List (List ℕ) → Option LinkEdit
link_of made [] = None
link_of made (kind ∷ []) = None
link_of made (kind ∷ name ∷ []) = None
link_of made (kind ∷ name ∷ inner ∷ []) = None
link_of made (kind ∷ name ∷ inner ∷ last ∷ []) = link_between made kind name inner last
link_of made (kind ∷ name ∷ inner ∷ last ∷ more ∷ parts) = None

abbrev pub link_in : Bool → List ℕ → Option LinkEdit
link_in made path = link_of made (parts_of path)

-- ---- lines
-- a line of two words
unfoldable pub path_said : List ℕ → List ℕ → Option Edit
path_said verb path =
    if bytes_eq verb (codes "mkdir")
    then option_and_then (λ f. Some (edit.Folder (make.Mkdir f))) (folder_in path)
    else (if bytes_eq verb (codes "rmdir")
    then option_and_then (λ f. Some (edit.Folder (make.Rmdir f))) (folder_in path)
    else (if bytes_eq verb (codes "link")
    then option_and_then (λ l. Some (edit.Link l)) (link_in true path)
    else (if bytes_eq verb (codes "unlink")
    then option_and_then (λ l. Some (edit.Link l)) (link_in false path)
    else None)))

-- an attribute of the folder is set to a text
unfoldable pub set_of : Folder → Attr → List ℕ → Option Edit
set_of f a value =
    if is_fitting (make.Set f a value) then Some (edit.Folder (make.Set f a value)) else None

-- a line of four words
unfoldable pub set_said : List ℕ → List ℕ → List ℕ → List ℕ → Option Edit
set_said verb path attribute value =
    if bytes_eq verb (codes "set")
    then option_and_then (λ f. option_and_then (λ a. set_of f a value) (attr_named attribute))
    (folder_in path)
    else None

-- the edit that the words of a line say
abbrev pub edit_said : List (List ℕ) → Option Edit
edit_said [] = None
edit_said (verb ∷ []) = None
edit_said (verb ∷ path ∷ []) = path_said verb path
edit_said (verb ∷ path ∷ attribute ∷ []) = None
edit_said (verb ∷ path ∷ attribute ∷ value ∷ []) = set_said verb path attribute value
edit_said (verb ∷ path ∷ attribute ∷ value ∷ more ∷ words) = None
