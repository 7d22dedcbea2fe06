-- Words that spell an edit say it.
use Rattle.std.proofs.Common.{◌≡◌, ◌<◌, ◌≤◌, ◌^◌, ℕ, Bool, true, false, ◌&&◌, ltb, List, [], ◌∷◌, Option, Some, refl, sym, ap, ◌∙◌, arith, lit≤}
use Rattle.std.specs.Prelude.{codes}
use Rattle.std.specs.List.{AllByRecursion}
use Rattle.std.specs.Fmt.{decimal}
use Rattle.std.specs.Option.{option_and_then}
use Rattle.std.proofs.lemmas.Bool.{ltb-true}
use Rattle.configfs_rows.specs.Nqns.{is_nqn}
use Rattle.configfs_tree.specs.Asked.{is_fitting}
use Rattle.configfs_tree.specs.declared.edits.Attr.{Attr}
use Rattle.configfs_tree.specs.declared.edits.Folder.{Folder}
use Rattle.configfs_tree.specs.declared.edits.Folder.TheVariants as folder
use Rattle.configfs_tree.specs.declared.edits.FolderEdit.TheVariants as make
use Rattle.link_rules.specs.declared.edits.Edit.{Edit}
use Rattle.link_rules.specs.declared.edits.Edit.TheVariants as edit
use Rattle.link_rules.specs.declared.edits.LinkEdit.{LinkEdit}
use Rattle.link_rules.specs.declared.edits.LinkEdit.TheVariants as link
use Rattle.link_rules.specs.Reading.{nqn_of, parts_of, outer_folder, inner_folder, folder_of, folder_in, link_between, link_of, link_in, attr_named, path_said, set_of, set_said, edit_said}
use Rattle.link_rules.specs.Spelling.{path_of, folder_parts, link_parts, attr_word, edit_words, fits_folder, fits_link, fits}
use Rattle.link_rules.proofs.Numbers.{and-parts, digits_of, below_again}
use Rattle.link_rules.proofs.Parts.{Free, split_joined, digits_free, nqn_free}
use Rattle.link_rules.proofs.Saying.{nqn_again, attr_again}

pub number_free : (byte n limit : ℕ) → byte < 48 → limit ≤ 2 ^ 64 → ltb n limit ≡ true
    → Free byte (decimal n)
number_free byte n limit low small e =
    let lt : n < limit = ltb-true _ _ e in
    digits_free byte (decimal n) low (digits_of n (omega (arith, lt, small)))

number_slashless : (n limit : ℕ) → limit ≤ 2 ^ 64 → ltb n limit ≡ true → Free 47 (decimal n)
number_slashless n limit small e = number_free 47 n limit (lit≤ tt) small e

pub low16 : 2 ^ 16 ≤ 2 ^ 64
low16 = lit≤ tt

pub low32 : 2 ^ 32 ≤ 2 ^ 64
low32 = lit≤ tt

folder_parts_again : (f : Folder) → fits_folder f ≡ true
    → parts_of (path_of (folder_parts f)) ≡ folder_parts f
folder_parts_again (folder.Host host) e = split_joined 47 (codes "hosts") (host ∷ []) refl
    ((nqn_free host e).0, tt)
folder_parts_again (folder.Subsystem sub) e = split_joined 47 (codes "subsystems") (sub ∷ []) refl
    ((nqn_free sub e).0, tt)
folder_parts_again (folder.Namespace sub nsid) e =
    let p = and-parts (is_nqn sub) (ltb nsid (2 ^ 32)) e in
    split_joined 47 (codes "subsystems") (sub ∷ codes "namespaces" ∷ decimal nsid ∷ []) refl
    ((nqn_free sub p.0).0, (refl, (number_slashless nsid (2 ^ 32) low32 p.1, tt)))
folder_parts_again (folder.Port id) e = split_joined 47 (codes "ports") (decimal id ∷ []) refl
    (number_slashless id (2 ^ 16) low16 e, tt)
folder_parts_again (folder.AnaGroup id group) e =
    let p = and-parts (ltb id (2 ^ 16)) (ltb group (2 ^ 32)) e in
    split_joined 47 (codes "ports") (decimal id ∷ codes "ana_groups" ∷ decimal group ∷ []) refl (
      number_slashless id (2 ^ 16) low16 p.0,
      (
        refl,
        (
          number_slashless group
              (2 ^ 32) low32 p.1,
          tt,
        ),
      ),
    )

folder_of_again : (f : Folder) → fits_folder f ≡ true → folder_of (folder_parts f) ≡ Some f
unfolding outer_folder inner_folder
folder_of_again (folder.Host host) e = rw (nqn_again host e) refl
folder_of_again (folder.Subsystem sub) e = rw (nqn_again sub e) refl
folder_of_again (folder.Namespace sub nsid) e =
    let p = and-parts (is_nqn sub) (ltb nsid (2 ^ 32)) e in
    rw (nqn_again sub p.0, below_again (2 ^ 32) nsid low32 p.1) refl
folder_of_again (folder.Port id) e = rw (below_again (2 ^ 16) id low16 e) refl
folder_of_again (folder.AnaGroup id group) e =
    let p = and-parts (ltb id (2 ^ 16)) (ltb group (2 ^ 32)) e in
    rw (below_again (2 ^ 16) id low16 p.0, below_again (2 ^ 32) group low32 p.1) refl

folder_again : (f : Folder) → fits_folder f ≡ true → folder_in (path_of (folder_parts f)) ≡ Some f
folder_again f e = ap folder_of (folder_parts_again f e) ∙ folder_of_again f e

hosts_again : (sub host : List ℕ) → is_nqn sub ≡ true → is_nqn host ≡ true
    → parts_of (path_of (codes "subsystems" ∷ sub ∷ codes "allowed_hosts" ∷ host ∷ []))
    ≡ codes "subsystems" ∷ sub ∷ codes "allowed_hosts" ∷ host ∷ []
hosts_again sub host e f = split_joined 47 (codes "subsystems")
    (sub ∷ codes "allowed_hosts" ∷ host ∷ []) refl
    ((nqn_free sub e).0, (refl, ((nqn_free host f).0, tt)))

ports_again : (id : ℕ) (sub : List ℕ) → ltb id (2 ^ 16) ≡ true → is_nqn sub ≡ true
    → parts_of (path_of (codes "ports" ∷ decimal id ∷ codes "subsystems" ∷ sub ∷ []))
    ≡ codes "ports" ∷ decimal id ∷ codes "subsystems" ∷ sub ∷ []
ports_again id sub e f = split_joined 47 (codes "ports")
    (decimal id ∷ codes "subsystems" ∷ sub ∷ []) refl
    (number_slashless id (2 ^ 16) low16 e, (refl, ((nqn_free sub f).0, tt)))

abbrev made_by : LinkEdit → Bool
made_by (link.AllowHost sub host) = true
made_by (link.DisallowHost sub host) = false
made_by (link.LinkSubsystem id sub) = true
made_by (link.UnlinkSubsystem id sub) = false

link_of_again : (l : LinkEdit) → fits_link l ≡ true → link_of (made_by l) (link_parts l) ≡ Some l
unfolding link_between
link_of_again (link.AllowHost sub host) e =
    let p = and-parts (is_nqn sub) (is_nqn host) e in rw
    (nqn_again sub p.0, nqn_again host p.1) refl
link_of_again (link.DisallowHost sub host) e =
    let p = and-parts (is_nqn sub) (is_nqn host) e in rw
    (nqn_again sub p.0, nqn_again host p.1) refl
link_of_again (link.LinkSubsystem id sub) e =
    let p = and-parts (ltb id (2 ^ 16)) (is_nqn sub) e in rw (
      below_again
          (2 ^ 16) id low16 p.0,
      nqn_again sub p.1,
    ) refl
link_of_again (link.UnlinkSubsystem id sub) e =
    let p = and-parts (ltb id (2 ^ 16)) (is_nqn sub) e in rw (
      below_again
          (2 ^ 16) id low16 p.0,
      nqn_again sub p.1,
    ) refl

link_parts_again : (l : LinkEdit) → fits_link l ≡ true
    → parts_of (path_of (link_parts l)) ≡ link_parts l
link_parts_again (link.AllowHost sub host) e = let p = and-parts (is_nqn sub)
    (is_nqn host) e in hosts_again sub host p.0 p.1
link_parts_again (link.DisallowHost sub host) e = let p = and-parts (is_nqn sub)
    (is_nqn host) e in hosts_again sub host p.0 p.1
link_parts_again (link.LinkSubsystem id sub) e = let p = and-parts (ltb id (2 ^ 16))
    (is_nqn sub) e in ports_again id sub p.0 p.1
link_parts_again (link.UnlinkSubsystem id sub) e = let p = and-parts (ltb id (2 ^ 16))
    (is_nqn sub) e in ports_again id sub p.0 p.1

link_again : (l : LinkEdit) → fits_link l ≡ true
    → link_in (made_by l) (path_of (link_parts l)) ≡ Some l
link_again l e = ap (link_of (made_by l)) (link_parts_again l e) ∙ link_of_again l e

set_again : (f : Folder) (a : Attr) (value : List ℕ) → is_fitting (make.Set f a value) ≡ true
    → set_of f a value ≡ Some (edit.Folder (make.Set f a value))
unfolding set_of
set_again f a value e = rw e refl

abbrev to_mkdir : Option Folder → Option Edit
to_mkdir o = option_and_then (λ f. Some (edit.Folder (make.Mkdir f))) o

abbrev to_rmdir : Option Folder → Option Edit
to_rmdir o = option_and_then (λ f. Some (edit.Folder (make.Rmdir f))) o

abbrev to_set : List ℕ → List ℕ → Option Folder → Option Edit
to_set attribute value o = option_and_then (λ f. option_and_then (λ a. set_of f a value)
    (attr_named attribute)) o

abbrev to_value : Folder → List ℕ → Option Attr → Option Edit
to_value f value o = option_and_then (λ a. set_of f a value) o

abbrev to_link : Option LinkEdit → Option Edit
to_link o = option_and_then (λ l. Some (edit.Link l)) o

pub edit_again : (e : Edit) → fits e ≡ true → edit_said (edit_words e) ≡ Some e
unfolding path_said set_said
edit_again (edit.Folder (make.Mkdir f)) h = ap to_mkdir (folder_again f h)
edit_again (edit.Folder (make.Rmdir f)) h = ap to_rmdir (folder_again f h)
edit_again (edit.Folder (make.Set f a value)) h =
    let p = and-parts (fits_folder f) (is_fitting (make.Set f a value)) h in
    ap (to_set (attr_word a) value) (folder_again f p.0)
    ∙ (ap (to_value f value) (attr_again a) ∙ set_again f a value p.1)
edit_again (edit.Link (link.AllowHost sub host)) h = ap to_link (link_again
    (link.AllowHost sub host) h)
edit_again (edit.Link (link.DisallowHost sub host)) h = ap to_link (link_again
    (link.DisallowHost sub host) h)
edit_again (edit.Link (link.LinkSubsystem id sub)) h = ap to_link (link_again
    (link.LinkSubsystem id sub) h)
edit_again (edit.Link (link.UnlinkSubsystem id sub)) h = ap to_link (link_again
    (link.UnlinkSubsystem id sub) h)
