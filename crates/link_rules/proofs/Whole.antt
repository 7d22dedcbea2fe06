-- The words of a line are those of an edit exactly where it is the line of the edit.
use Rattle.std.proofs.Common.{◌≡◌, ◌⊎◌, ◌≤◌, ◌^◌, ℕ, Bool, true, false, cond, not, ◌&&◌, eqb, ltb, List, [], ◌∷◌, ◌++◌, refl, sym, ap, ◌∙◌, inl, inr, lit≤}
use Rattle.std.specs.Prelude.{codes}
use Rattle.std.specs.List.{join_with_byte, slice_split, AllByRecursion}
use Rattle.std.specs.Str.{bytes_eq}
use Rattle.std.specs.Fmt.{decimal}
use Rattle.std.proofs.lemmas.Bool.{cases_Bool, both_ways}
use Rattle.std.proofs.lemmas.List.Splits.{join_with_byte-slice_split}
use Rattle.std.proofs.lemmas.Slice.Eq.{bytes_eq-Decides}
use Rattle.text_lines.specs.Lines.{words_of}
use Rattle.script_lines.specs.Script.{script_words, with_value}
use Rattle.configfs_rows.specs.Nqns.{is_nqn}
use Rattle.configfs_tree.specs.Asked.{is_fitting}
use Rattle.configfs_tree.specs.declared.edits.Attr.{Attr}
use Rattle.configfs_tree.specs.declared.edits.Attr.TheVariants as attr
use Rattle.configfs_tree.specs.declared.edits.Folder.{Folder}
use Rattle.configfs_tree.specs.declared.edits.Folder.TheVariants as folder
use Rattle.configfs_tree.specs.declared.edits.FolderEdit.TheVariants as make
use Rattle.link_rules.specs.declared.edits.Edit.{Edit}
use Rattle.link_rules.specs.declared.edits.Edit.TheVariants as edit
use Rattle.link_rules.specs.declared.edits.LinkEdit.{LinkEdit}
use Rattle.link_rules.specs.declared.edits.LinkEdit.TheVariants as link
use Rattle.link_rules.specs.Spelling.{path_of, folder_parts, link_parts, attr_word, link_verb, edit_words, fits_folder, fits_link, fits, IsLineOf, IsShortLineOf}
use Rattle.link_rules.proofs.Numbers.{and-parts}
use Rattle.link_rules.proofs.Parts.{Free, split_front, split_joined, free_joined, nqn_free}
use Rattle.link_rules.proofs.Again.{number_free, low16, low32}

-- ---- words without a space
attr_free : (a : Attr) → Free 32 (attr_word a)
attr_free attr.AllowAnyHost = refl
attr_free attr.Serial = refl
attr_free attr.ModelName = refl
attr_free attr.DevicePath = refl
attr_free attr.DeviceUuid = refl
attr_free attr.DeviceNguid = refl
attr_free attr.AnaGrpid = refl
attr_free attr.Enable = refl
attr_free attr.Trtype = refl
attr_free attr.Adrfam = refl
attr_free attr.Traddr = refl
attr_free attr.Trsvcid = refl
attr_free attr.Treq = refl
attr_free attr.AnaState = refl

verb_free : (l : LinkEdit) → Free 32 (link_verb l)
verb_free (link.AllowHost sub host) = refl
verb_free (link.DisallowHost sub host) = refl
verb_free (link.LinkSubsystem id sub) = refl
verb_free (link.UnlinkSubsystem id sub) = refl

number_spaceless : (n limit : ℕ) → limit ≤ 2 ^ 64 → ltb n limit ≡ true → Free 32 (decimal n)
number_spaceless n limit small e = number_free 32 n limit (lit≤ tt) small e

folder_free : (f : Folder) → fits_folder f ≡ true → Free 32 (path_of (folder_parts f))
folder_free (folder.Host host) e = free_joined 32 47 (codes "hosts") (host ∷ []) refl refl
    ((nqn_free host e).1, tt)
folder_free (folder.Subsystem sub) e = free_joined 32 47 (codes "subsystems") (sub ∷ []) refl refl
    ((nqn_free sub e).1, tt)
folder_free (folder.Namespace sub nsid) e =
    let p = and-parts (is_nqn sub) (ltb nsid (2 ^ 32)) e in
    free_joined 32 47 (codes "subsystems") (sub ∷ codes "namespaces" ∷ decimal nsid ∷ []) refl refl
    ((nqn_free sub p.0).1, (refl, (number_spaceless nsid (2 ^ 32) low32 p.1, tt)))
folder_free (folder.Port id) e = free_joined 32 47 (codes "ports") (decimal id ∷ []) refl refl
    (number_spaceless id (2 ^ 16) low16 e, tt)
folder_free (folder.AnaGroup id group) e =
    let p = and-parts (ltb id (2 ^ 16)) (ltb group (2 ^ 32)) e in
    free_joined 32 47 (codes "ports") (decimal id ∷ codes "ana_groups" ∷ decimal group ∷ []) refl
    refl (
      number_spaceless id (2 ^ 16) low16 p.0,
      (
        refl,
        (number_spaceless group (2 ^ 32) low32 p.1, tt),
      ),
    )

hosts_free : (sub host : List ℕ) → (is_nqn sub && is_nqn host) ≡ true
    → Free 32 (path_of (codes "subsystems" ∷ sub ∷ codes "allowed_hosts" ∷ host ∷ []))
hosts_free sub host e =
    let p = and-parts (is_nqn sub) (is_nqn host) e in
    free_joined 32 47 (codes "subsystems") (sub ∷ codes "allowed_hosts" ∷ host ∷ []) refl refl
    ((nqn_free sub p.0).1, (refl, ((nqn_free host p.1).1, tt)))

ports_free : (id : ℕ) (sub : List ℕ) → (ltb id (2 ^ 16) && is_nqn sub) ≡ true
    → Free 32 (path_of (codes "ports" ∷ decimal id ∷ codes "subsystems" ∷ sub ∷ []))
ports_free id sub e =
    let p = and-parts (ltb id (2 ^ 16)) (is_nqn sub) e in
    free_joined 32 47 (codes "ports") (decimal id ∷ codes "subsystems" ∷ sub ∷ []) refl refl
    (number_spaceless id (2 ^ 16) low16 p.0, (refl, ((nqn_free sub p.1).1, tt)))

link_free : (l : LinkEdit) → fits_link l ≡ true → Free 32 (path_of (link_parts l))
link_free (link.AllowHost sub host) e = hosts_free sub host e
link_free (link.DisallowHost sub host) e = hosts_free sub host e
link_free (link.LinkSubsystem id sub) e = ports_free id sub e
link_free (link.UnlinkSubsystem id sub) e = ports_free id sub e

-- ---- the line of an edit has the words of the edit
two_again : (verb path : List ℕ) → Free 32 verb → Free 32 path
    → script_words (join_with_byte 32 (verb ∷ path ∷ [])) ≡ verb ∷ path ∷ []
two_again verb path e f = ap with_value (split_joined 32 verb (path ∷ []) e (f, tt))

-- the words of a set, by those of its value
set_words : (path attribute value : List ℕ) → Free 32 path → Free 32 attribute
    → words_of (join_with_byte 32 (codes "set" ∷ path ∷ attribute ∷ value ∷ []))
    ≡ codes "set" ∷ path ∷ attribute ∷ words_of value
set_words path attribute value e f =
    split_front 32 (codes "set") (path ++ (32 ∷ (attribute ++ (32 ∷ value)))) refl
    ∙ ap (λ (ws : List (List ℕ)). codes "set" ∷ ws)
    (split_front 32 path (attribute ++ (32 ∷ value)) e
    ∙ ap (λ (ws : List (List ℕ)). path ∷ ws) (split_front 32 attribute value f))

set_again : (path attribute value : List ℕ) → Free 32 path → Free 32 attribute
    → script_words (join_with_byte 32 (codes "set" ∷ path ∷ attribute ∷ value ∷ []))
    ≡ codes "set" ∷ path ∷ attribute ∷ value ∷ []
set_again path attribute value e f = ap with_value (set_words path attribute value e f)
    ∙ ap (λ (v : List ℕ). codes "set" ∷ path ∷ attribute ∷ v ∷ [])
    (join_with_byte-slice_split 32 value)

line_again : (e : Edit) → fits e ≡ true → script_words
    (join_with_byte 32 (edit_words e)) ≡ edit_words e
line_again (edit.Folder (make.Mkdir f)) h = two_again (codes "mkdir")
    (path_of (folder_parts f)) refl
    (folder_free f h)
line_again (edit.Folder (make.Rmdir f)) h = two_again (codes "rmdir")
    (path_of (folder_parts f)) refl
    (folder_free f h)
line_again (edit.Folder (make.Set f a value)) h =
    let p = and-parts (fits_folder f) (is_fitting (make.Set f a value)) h in
    set_again (path_of (folder_parts f)) (attr_word a) value (folder_free f p.0) (attr_free a)
line_again (edit.Link l) h = two_again (link_verb l) (path_of (link_parts l)) (verb_free l)
    (link_free l h)

-- ---- and so has the line of a set to nothing without its last space
short_again : (path attribute : List ℕ) → Free 32 path → Free 32 attribute
    → script_words (join_with_byte 32 (codes "set" ∷ path ∷ attribute ∷ []))
    ≡ codes "set" ∷ path ∷ attribute ∷ [] ∷ []
short_again path attribute e f = ap with_value
    (split_joined 32 (codes "set") (path ∷ attribute ∷ []) refl (e, (f, tt)))

short_line_again : (e : Edit) (line : List ℕ) → fits e ≡ true → IsShortLineOf e line
    → script_words line ≡ edit_words e
short_line_again (edit.Folder (make.Mkdir f)) line h is = absurd is
short_line_again (edit.Folder (make.Rmdir f)) line h is = absurd is
short_line_again (edit.Folder (make.Set f a [])) line h is =
    let p = and-parts (fits_folder f) (is_fitting (make.Set f a [])) h in
    ap script_words is
    ∙ short_again (path_of (folder_parts f)) (attr_word a) (folder_free f p.0) (attr_free a)
short_line_again (edit.Folder (make.Set f a (b ∷ value))) line h is = absurd is
short_line_again (edit.Link l) line h is = absurd is

pub words_again : (line : List ℕ) (e : Edit) → fits e ≡ true → IsLineOf e line
    → script_words line ≡ edit_words e
words_again line e h is = elim is [
  | inl whole ↦ ap script_words whole ∙ line_again e h
  | inr short ↦ short_line_again e line h short
]

-- ---- a line that has the words of an edit is its line
heads : (x y : List ℕ) (xs ys : List (List ℕ)) → x ∷ xs ≡ y ∷ ys → (x ≡ y) × (xs ≡ ys)
heads x y xs ys e = (cc, cc)

two_was : (words : List (List ℕ)) (a b : List ℕ) → with_value words ≡ a ∷ b ∷ []
    → words ≡ a ∷ b ∷ []
two_was [] a b e = e
two_was (k ∷ []) a b e = e
two_was (k ∷ f ∷ []) a b e = e
two_was (k ∷ f ∷ x ∷ value) a b e = elim (cases_Bool (bytes_eq k (codes "set"))) [
  | inl set ↦
      let four : k ∷ f ∷ x ∷ join_with_byte 32 value ∷ [] ≡ a ∷ b ∷ [] = rw set at e in
      absurd cc
  | inr unset ↦
      let more : k ∷ f ∷ x ∷ value ≡ a ∷ b ∷ [] = rw unset at e in
      absurd cc
]

two_line : (line a b : List ℕ) → script_words line ≡ a ∷ b ∷ []
    → line ≡ join_with_byte 32 (a ∷ b ∷ [])
two_line line a b e = sym (join_with_byte-slice_split 32 line)
    ∙ ap (join_with_byte 32) (two_was (words_of line) a b e)

-- the words of a set, and its value
record IsSet (words : List (List ℕ)) (path attribute value : List ℕ) : Type 0 where
  rest : List (List ℕ)
  spelled : words ≡ codes "set" ∷ path ∷ attribute ∷ rest
  joined : join_with_byte 32 rest ≡ value

set_was : (words : List (List ℕ)) (path attribute value : List ℕ)
    → with_value words ≡ codes "set" ∷ path ∷ attribute ∷ value ∷ []
    → IsSet words path attribute value
set_was [] path attribute value e = absurd cc
set_was (k ∷ []) path attribute value e = absurd cc
set_was (k ∷ f ∷ []) path attribute value e = absurd cc
set_was (k ∷ f ∷ x ∷ rest) path attribute value e =
    elim (cases_Bool (bytes_eq k (codes "set"))) [
      | inl set ↦
          let four : k ∷ f ∷ x ∷ join_with_byte 32 rest ∷ []
          ≡ codes "set" ∷ path ∷ attribute ∷ value ∷ [] = rw set at e in
          let one = heads k (codes "set") _ _ four in
          let two = heads f path _ _ one.1 in
          let three = heads x attribute _ _ two.1 in
          let last = heads (join_with_byte 32 rest) value _ _ three.1 in
          record { rest = rest; spelled = rw (one.0, two.0, three.0) refl; joined = last.0 }
      | inr unset ↦
          let more : k ∷ f ∷ x ∷ rest ≡ codes "set" ∷ path ∷ attribute ∷ value
          ∷ [] = rw unset at e in
          absurd (both_ways (bytes_eq k (codes "set")) unset
          ((bytes_eq-Decides k (codes "set")).1 (heads k (codes "set") _ _ more).0))
    ]

set_line_by : (f : Folder) (a : Attr) (value line : List ℕ) (rest : List (List ℕ))
    → line ≡ join_with_byte 32 (codes "set" ∷ path_of (folder_parts f) ∷ attr_word a ∷ rest)
    → join_with_byte 32 rest ≡ value → IsLineOf (edit.Folder (make.Set f a value)) line
set_line_by f a [] line [] is joined = inr is
set_line_by f a (b ∷ value) line [] is joined = absurd cc
set_line_by f a value line (word ∷ rest) is joined = inl (is
    ∙ ap (λ (v : List ℕ). join_with_byte 32
    (codes "set" ∷ path_of (folder_parts f) ∷ attr_word a ∷ v ∷ [])) joined)

set_line : (f : Folder) (a : Attr) (value line : List ℕ)
    → script_words line ≡ edit_words (edit.Folder (make.Set f a value))
    → IsLineOf (edit.Folder (make.Set f a value)) line
set_line f a value line e =
    let w = set_was (words_of line) (path_of (folder_parts f)) (attr_word a) value e in
    set_line_by f a value line w.rest
    (sym (join_with_byte-slice_split 32 line) ∙ ap (join_with_byte 32) w.spelled) w.joined

pub line_was : (line : List ℕ) (e : Edit) → script_words line ≡ edit_words e → IsLineOf e line
line_was line (edit.Folder (make.Mkdir f)) e = inl (two_line line (codes "mkdir")
    (path_of (folder_parts f)) e)
line_was line (edit.Folder (make.Rmdir f)) e = inl (two_line line (codes "rmdir")
    (path_of (folder_parts f)) e)
line_was line (edit.Folder (make.Set f a value)) e = set_line f a value line e
line_was line (edit.Link l) e = inl (two_line line (link_verb l) (path_of (link_parts l)) e)
