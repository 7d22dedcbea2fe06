-- Words that say an edit spell it, and words that spell an edit say it.
use Rattle.std.proofs.Common.{◌≡◌, ◌⊎◌, ◌<◌, ◌≤◌, ◌^◌, ℕ, Bool, true, false, cond, not, ◌&&◌, ltb, List, [], ◌∷◌, ◌++◌, Option, Some, None, refl, sym, ap, ◌∙◌, arith, inl, inr, lit≤}
use Rattle.std.specs.Prelude.{codes}
use Rattle.std.specs.List.{find, join_with_byte, AllByRecursion}
use Rattle.std.specs.Option.{option_and_then}
use Rattle.std.specs.Str.{bytes_eq}
use Rattle.std.specs.Fmt.{decimal}
use Rattle.std.proofs.lemmas.Bool.{ltb-true, cases_Bool}
use Rattle.std.proofs.lemmas.Option.{cond_some}
use Rattle.std.proofs.lemmas.List.Splits.{join_with_byte-slice_split}
use Rattle.std.proofs.lemmas.Slice.Eq.{bytes_eq-Decides}
use Rattle.configfs_rows.specs.Nqns.{is_nqn}
use Rattle.configfs_tree.specs.Asked.{is_fitting}
use Rattle.configfs_tree.specs.declared.edits.Attr.{Attr}
use Rattle.configfs_tree.specs.declared.edits.Attr.TheVariants as attr
use Rattle.configfs_tree.specs.declared.edits.Folder.{Folder}
use Rattle.configfs_tree.specs.declared.edits.Folder.TheVariants as folder
use Rattle.configfs_tree.specs.declared.edits.FolderEdit.TheVariants as make
use Rattle.link_rules.specs.declared.edits.Edit.{Edit}
use Rattle.link_rules.specs.declared.edits.Edit.TheVariants as edit
use Rattle.link_rules.specs.declared.edits.LinkEdit.{LinkEdit}
use Rattle.link_rules.specs.declared.edits.LinkEdit.TheVariants as link
use Rattle.link_rules.specs.Reading.{nqn_of, number_below, all_attrs, attr_among, attr_named, parts_of, outer_folder, inner_folder, folder_of, folder_in, host_link, port_link, link_between, link_of, link_in, path_said, set_of, set_said, edit_said}
use Rattle.link_rules.specs.Spelling.{path_of, folder_parts, link_parts, attr_word, link_verb, edit_words, fits_folder, fits_link, fits}
use Rattle.link_rules.specs.Table as table
use Rattle.link_rules.proofs.Maps.{none_some}
use Rattle.link_rules.proofs.Numbers.{and-parts, below_spelled}

-- ---- tests and steps
chosen : {A : Type 0} (b : Bool) (x y z : A) → cond b x y ≡ z
    → ((b ≡ true) × (x ≡ z)) ⊎ ((b ≡ false) × (y ≡ z))
chosen true x y z e = inl (refl, e)
chosen false x y z e = inr (refl, e)

then_some : {A B : Type 0} (f : A → Option B) (o : Option A) (y : B) → option_and_then f o ≡ Some y
    → (x : A) × (o ≡ Some x) × (f x ≡ Some y)
then_some f None y e = absurd (none_some y e)
then_some f (Some x) y e = (x, refl, e)

same_bytes : (xs ys : List ℕ) → bytes_eq xs ys ≡ true → xs ≡ ys
same_bytes xs ys e = (bytes_eq-Decides xs ys).0 e

-- ---- names and attributes
nqn_was : (word name : List ℕ) → nqn_of word ≡ Some name → (word ≡ name) × (is_nqn name ≡ true)
unfolding nqn_of
nqn_was word name e = let c = cond_some (is_nqn word) word name e in (c.1, rw (← c.1) c.0)

pub nqn_again : (name : List ℕ) → is_nqn name ≡ true → nqn_of name ≡ Some name
unfolding nqn_of
nqn_again name e = rw e refl

attr_was : (word : List ℕ) (attrs : List Attr) (a : Attr) → attr_among word attrs ≡ Some a
    → word ≡ attr_word a
attr_was word [] a e = absurd (none_some a e)
attr_was word (b ∷ attrs) a e =
    elim (chosen (bytes_eq word (attr_word b)) (Some b) (attr_among word attrs) (Some a) e) [
      | inl here ↦ let is : b ≡ a = cc in rw (same_bytes word (attr_word b) here.0)
          (ap attr_word is)
      | inr beside ↦ attr_was word attrs a beside.1
    ]

pub attr_again : (a : Attr) → attr_named (attr_word a) ≡ Some a
attr_again attr.AllowAnyHost = refl
attr_again attr.Serial = refl
attr_again attr.ModelName = refl
attr_again attr.DevicePath = refl
attr_again attr.DeviceUuid = refl
attr_again attr.DeviceNguid = refl
attr_again attr.AnaGrpid = refl
attr_again attr.Enable = refl
attr_again attr.Trtype = refl
attr_again attr.Adrfam = refl
attr_again attr.Traddr = refl
attr_again attr.Trsvcid = refl
attr_again attr.Treq = refl
attr_again attr.AnaState = refl

-- ---- paths
-- what is said of a folder, or of a link
record IsFolder (parts : List (List ℕ)) (f : Folder) : Type 0 where
  spelled : parts ≡ folder_parts f
  fits : fits_folder f ≡ true

record IsLink (parts : List (List ℕ)) (l : LinkEdit) : Type 0 where
  spelled : parts ≡ link_parts l
  fits : fits_link l ≡ true

two_words : (kind name : List ℕ) (k n : List ℕ) → kind ≡ k → name ≡ n
    → kind ∷ name ∷ [] ≡ k ∷ n ∷ []
two_words kind name k n e f = rw (e, f) refl

four_words : (kind name inner last : List ℕ) (k n i l : List ℕ) → kind ≡ k → name ≡ n → inner ≡ i
    → last ≡ l
    → kind ∷ name ∷ inner ∷ last ∷ [] ≡ k ∷ n ∷ i ∷ l ∷ []
four_words kind name inner last k n i l e f g h = rw (e, f, g, h) refl

both_true : (a b : Bool) → a ≡ true → b ≡ true → (a && b) ≡ true
both_true a b e f = rw (e, f) refl

outer_was : (kind name : List ℕ) (f : Folder) → outer_folder kind name ≡ Some f
    → IsFolder (kind ∷ name ∷ []) f
unfolding outer_folder
outer_was kind name f e =
    elim (chosen (bytes_eq kind (codes "hosts")) _ _ (Some f) e) [
      | inl c ↦
          let n = then_some (λ host. Some (folder.Host host)) (nqn_of name) f c.1 in
          let is : folder.Host n.0 ≡ f = cc in
          let w = nqn_was name n.0 n.1 in
          record {
            spelled = two_words kind name (codes "hosts") n.0 (same_bytes kind
                (codes "hosts") c.0) w.0 ∙ ap folder_parts is;
            fits = rw (← is) w.1;
          }
      | inr c ↦ elim (chosen (bytes_eq kind (codes "subsystems")) _ _ (Some f) c.1) [
        | inl d ↦
            let n = then_some (λ sub. Some (folder.Subsystem sub)) (nqn_of name) f d.1 in
            let is : folder.Subsystem n.0 ≡ f = cc in
            let w = nqn_was name n.0 n.1 in
            record {
              spelled = two_words kind name (codes "subsystems") n.0 (same_bytes kind
                  (codes "subsystems") d.0) w.0 ∙ ap folder_parts is;
              fits = rw (← is) w.1;
            }
        | inr d ↦ elim (chosen (bytes_eq kind (codes "ports")) _ _ (Some f) d.1) [
          | inl p ↦
              let n = then_some (λ id. Some (folder.Port id)) (number_below (2 ^ 16) name) f p.1 in
              let is : folder.Port n.0 ≡ f = cc in
              let w = below_spelled (2 ^ 16) n.0 name n.1 in
              record {
                spelled = two_words kind name (codes "ports") (decimal n.0) (same_bytes kind
                    (codes "ports") p.0) w.0 ∙ ap folder_parts is;
                fits = rw (← is) w.1;
              }
          | inr p ↦ absurd (none_some f p.1)
        ]
      ]
    ]

inner_was : (kind name inner last : List ℕ) (f : Folder)
    → inner_folder kind name inner last ≡ Some f
    → IsFolder (kind ∷ name ∷ inner ∷ last ∷ []) f
unfolding inner_folder
inner_was kind name inner last f e =
    elim (chosen (bytes_eq kind (codes "subsystems") && bytes_eq inner (codes "namespaces")) _ _
    (Some f) e) [
      | inl c ↦
          let k = and-parts (bytes_eq kind (codes "subsystems")) (bytes_eq inner
          (codes "namespaces")) c.0 in
          let s = then_some (λ sub. option_and_then (λ nsid. Some (folder.Namespace sub nsid))
          (number_below (2 ^ 32) last)) (nqn_of name) f c.1 in
          let n = then_some (λ nsid. Some (folder.Namespace s.0 nsid)) (number_below
          (2 ^ 32) last) f s.2 in
          let is : folder.Namespace s.0 n.0 ≡ f = cc in
          let w = nqn_was name s.0 s.1 in
          let d = below_spelled (2 ^ 32) n.0 last n.1 in
          record {
            spelled = four_words kind name inner last (codes "subsystems") s.0 (codes "namespaces")
                (decimal n.0)
                (same_bytes kind (codes "subsystems") k.0) w.0 (same_bytes inner
                (codes "namespaces") k.1) d.0 ∙ ap folder_parts is;
            fits = rw (← is) (both_true (is_nqn s.0) (ltb n.0 (2 ^ 32)) w.1 d.1);
          }
      | inr c ↦ elim (chosen (bytes_eq kind (codes "ports") && bytes_eq inner
          (codes "ana_groups")) _ _ (Some f) c.1) [
            | inl p ↦
                let k = and-parts (bytes_eq kind (codes "ports")) (bytes_eq inner
                (codes "ana_groups")) p.0 in
                let s = then_some (λ id. option_and_then (λ group. Some (folder.AnaGroup id group))
                (number_below (2 ^ 32) last)) (number_below (2 ^ 16) name) f p.1 in
                let n = then_some (λ group. Some (folder.AnaGroup s.0 group)) (number_below
                (2 ^ 32) last) f s.2 in
                let is : folder.AnaGroup s.0 n.0 ≡ f = cc in
                let w = below_spelled (2 ^ 16) s.0 name s.1 in
                let d = below_spelled (2 ^ 32) n.0 last n.1 in
                record {
                  spelled = four_words kind name inner last (codes "ports") (decimal s.0)
                      (codes "ana_groups") (decimal n.0)
                      (same_bytes kind (codes "ports") k.0) w.0 (same_bytes inner
                      (codes "ana_groups") k.1) d.0 ∙ ap folder_parts is;
                  fits = rw (← is) (both_true (ltb s.0 (2 ^ 16)) (ltb n.0 (2 ^ 32)) w.1 d.1);
                }
            | inr p ↦ absurd (none_some f p.1)
          ]
    ]

folder_was : (parts : List (List ℕ)) (f : Folder) → folder_of parts ≡ Some f → IsFolder parts f
folder_was [] f e = absurd (none_some f e)
folder_was (kind ∷ []) f e = absurd (none_some f e)
folder_was (kind ∷ name ∷ []) f e = outer_was kind name f e
folder_was (kind ∷ name ∷ inner ∷ []) f e = absurd (none_some f e)
folder_was (kind ∷ name ∷ inner ∷ last ∷ []) f e = inner_was kind name inner last f e
folder_was (kind ∷ name ∷ inner ∷ last ∷ more ∷ parts) f e = absurd (none_some f e)

-- a path that leads to a folder is the path of the folder
path_was : (path : List ℕ) (f : Folder) → folder_in path ≡ Some f
    → (path ≡ path_of (folder_parts f)) × (fits_folder f ≡ true)
path_was path f e =
    let w = folder_was (parts_of path) f e in
    (sym (join_with_byte-slice_split 47 path) ∙ ap path_of w.spelled, w.fits)

-- ---- links
abbrev verb : Bool → List ℕ
verb true = codes "link"
verb false = codes "unlink"

record SaysLink (made : Bool) (parts : List (List ℕ)) (l : LinkEdit) : Type 0 where
  spelled : parts ≡ link_parts l
  verbed : verb made ≡ link_verb l
  fits : fits_link l ≡ true

host_says : (made : Bool) (sub host : List ℕ) → is_nqn sub ≡ true → is_nqn host ≡ true
    → SaysLink made (codes "subsystems" ∷ sub ∷ codes "allowed_hosts" ∷ host ∷ [])
    (host_link made sub host)
host_says true sub host e f = record {
  spelled = refl;
  verbed = refl;
  fits = both_true (is_nqn sub)
      (is_nqn host) e f;
}
host_says false sub host e f = record {
  spelled = refl;
  verbed = refl;
  fits = both_true
      (is_nqn sub) (is_nqn host) e f;
}

port_says : (made : Bool) (id : ℕ) (sub : List ℕ) → ltb id (2 ^ 16) ≡ true → is_nqn sub ≡ true
    → SaysLink made (codes "ports" ∷ decimal id ∷ codes "subsystems" ∷ sub ∷ [])
    (port_link made id sub)
port_says true id sub e f = record {
  spelled = refl;
  verbed = refl;
  fits = both_true (ltb id
      (2 ^ 16)) (is_nqn sub) e f;
}
port_says false id sub e f = record {
  spelled = refl;
  verbed = refl;
  fits = both_true (ltb id
      (2 ^ 16)) (is_nqn sub) e f;
}

says_same : (made : Bool) (parts others : List (List ℕ)) (l k : LinkEdit) → parts ≡ others → l ≡ k
    → SaysLink made others l → SaysLink made parts k
says_same made parts others l k e f s = record {
  spelled = e ∙ (s.spelled ∙ ap link_parts f);
  verbed = s.verbed ∙ ap link_verb f;
  fits = rw (← f) s.fits;
}

between_was : (made : Bool) (kind name inner last : List ℕ) (l : LinkEdit)
    → link_between made kind name inner last ≡ Some l
    → SaysLink made (kind ∷ name ∷ inner ∷ last ∷ []) l
unfolding link_between
between_was made kind name inner last l e =
    elim (chosen (bytes_eq kind (codes "subsystems") && bytes_eq inner (codes "allowed_hosts")) _ _
    (Some l) e) [
      | inl c ↦
          let k = and-parts (bytes_eq kind (codes "subsystems")) (bytes_eq inner
          (codes "allowed_hosts")) c.0 in
          let s = then_some (λ sub. option_and_then (λ host. Some (host_link made sub host))
          (nqn_of last)) (nqn_of name) l c.1 in
          let h = then_some (λ host. Some (host_link made s.0 host)) (nqn_of last) l s.2 in
          let is : host_link made s.0 h.0 ≡ l = cc in
          let w = nqn_was name s.0 s.1 in
          let v = nqn_was last h.0 h.1 in
          says_same made (kind ∷ name ∷ inner ∷ last ∷ [])
          (codes "subsystems" ∷ s.0 ∷ codes "allowed_hosts" ∷ h.0 ∷ [])
          (host_link made s.0 h.0) l
          (four_words kind name inner last (codes "subsystems") s.0 (codes "allowed_hosts") h.0
          (same_bytes kind (codes "subsystems") k.0) w.0 (same_bytes inner
          (codes "allowed_hosts") k.1) v.0)
          is (host_says made s.0 h.0 w.1 v.1)
      | inr c ↦ elim (chosen (bytes_eq kind (codes "ports") && bytes_eq inner
          (codes "subsystems")) _ _ (Some l) c.1) [
            | inl p ↦
                let k = and-parts (bytes_eq kind (codes "ports")) (bytes_eq inner
                (codes "subsystems")) p.0 in
                let s = then_some (λ id. option_and_then (λ sub. Some (port_link made id sub))
                (nqn_of last)) (number_below (2 ^ 16) name) l p.1 in
                let h = then_some (λ sub. Some (port_link made s.0 sub)) (nqn_of last) l s.2 in
                let is : port_link made s.0 h.0 ≡ l = cc in
                let w = below_spelled (2 ^ 16) s.0 name s.1 in
                let v = nqn_was last h.0 h.1 in
                says_same made (kind ∷ name ∷ inner ∷ last ∷ [])
                (codes "ports" ∷ decimal s.0 ∷ codes "subsystems" ∷ h.0 ∷ [])
                (port_link made s.0 h.0) l
                (four_words kind name inner last (codes "ports") (decimal s.0)
                (codes "subsystems") h.0
                (same_bytes kind (codes "ports") k.0) w.0 (same_bytes inner
                (codes "subsystems") k.1) v.0)
                is (port_says made s.0 h.0 w.1 v.1)
            | inr p ↦ absurd (none_some l p.1)
          ]
    ]

link_was : (made : Bool) (parts : List (List ℕ)) (l : LinkEdit) → link_of made parts ≡ Some l
    → SaysLink made parts l
link_was made [] l e = absurd (none_some l e)
link_was made (kind ∷ []) l e = absurd (none_some l e)
link_was made (kind ∷ name ∷ []) l e = absurd (none_some l e)
link_was made (kind ∷ name ∷ inner ∷ []) l e = absurd (none_some l e)
link_was made (kind ∷ name ∷ inner ∷ last ∷ []) l e = between_was made kind name inner last l e
link_was made (kind ∷ name ∷ inner ∷ last ∷ more ∷ parts) l e = absurd (none_some l e)

-- ---- lines
pub record IsSaid (words : List (List ℕ)) (e : Edit) : Type 0 where
  pub spelled : words ≡ edit_words e
  pub fits : fits e ≡ true

folder_says : (word path : List ℕ) (verbing : List ℕ) (f : Folder) → word ≡ verbing
    → folder_in path ≡ Some f
    → word ∷ path ∷ [] ≡ verbing ∷ path_of (folder_parts f) ∷ []
folder_says word path verbing f e g = two_words word path verbing (path_of (folder_parts f)) e
    (path_was path f g).0

link_says : (made : Bool) (word path : List ℕ) (l : LinkEdit) (e : Edit) → word ≡ verb made
    → link_in made path ≡ Some l
    → edit.Link l ≡ e → IsSaid (word ∷ path ∷ []) e
link_says made word path l e is g same =
    let w = link_was made (parts_of path) l g in
    let p : path ≡ path_of (link_parts l) = sym (join_with_byte-slice_split 47 path)
    ∙ ap path_of w.spelled in
    record {
      spelled = two_words word path (link_verb l) (path_of (link_parts l)) (is ∙ w.verbed) p
          ∙ ap edit_words same;
      fits = rw (← same) w.fits;
    }

path_said_was : (word path : List ℕ) (e : Edit) → path_said word path ≡ Some e
    → IsSaid (word ∷ path ∷ []) e
unfolding path_said
path_said_was word path e h =
    elim (chosen (bytes_eq word (codes "mkdir")) _ _ (Some e) h) [
      | inl c ↦
          let f = then_some (λ f. Some (edit.Folder (make.Mkdir f))) (folder_in path) e c.1 in
          let is : edit.Folder (make.Mkdir f.0) ≡ e = cc in
          record {
            spelled = folder_says word path (codes "mkdir") f.0 (same_bytes word
                (codes "mkdir") c.0) f.1 ∙ ap edit_words is;
            fits = rw (← is)
                (path_was path f.0 f.1).1;
          }
      | inr c ↦ elim (chosen (bytes_eq word (codes "rmdir")) _ _ (Some e) c.1) [
        | inl d ↦
            let f = then_some (λ f. Some (edit.Folder (make.Rmdir f))) (folder_in path) e d.1 in
            let is : edit.Folder (make.Rmdir f.0) ≡ e = cc in
            record {
              spelled = folder_says word path (codes "rmdir") f.0 (same_bytes word
                  (codes "rmdir") d.0) f.1 ∙ ap edit_words is;
              fits = rw (← is)
                  (path_was path f.0 f.1).1;
            }
        | inr d ↦ elim (chosen (bytes_eq word (codes "link")) _ _ (Some e) d.1) [
          | inl l ↦
              let k = then_some (λ l. Some (edit.Link l)) (link_in true path) e l.1 in
              let is : edit.Link k.0 ≡ e = cc in
              link_says true word path k.0 e (same_bytes word (codes "link") l.0) k.1 is
          | inr l ↦ elim (chosen (bytes_eq word (codes "unlink")) _ _ (Some e) l.1) [
            | inl u ↦
                let k = then_some (λ l. Some (edit.Link l)) (link_in false path) e u.1 in
                let is : edit.Link k.0 ≡ e = cc in
                link_says false word path k.0 e (same_bytes word (codes "unlink") u.0) k.1 is
            | inr u ↦ absurd (none_some e u.1)
          ]
        ]
      ]
    ]

set_of_was : (f : Folder) (a : Attr) (value : List ℕ) (e : Edit) → set_of f a value ≡ Some e
    → (is_fitting (make.Set f a value) ≡ true) × (edit.Folder (make.Set f a value) ≡ e)
unfolding set_of
set_of_was f a value e h = cond_some (is_fitting (make.Set f a value)) (edit.Folder
    (make.Set f a value)) e h

set_said_was : (word path attribute value : List ℕ) (e : Edit)
    → set_said word path attribute value ≡ Some e
    → IsSaid (word ∷ path ∷ attribute ∷ value ∷ []) e
unfolding set_said
set_said_was word path attribute value e h =
    elim (chosen (bytes_eq word (codes "set")) _ _ (Some e) h) [
      | inl c ↦
          let f = then_some (λ f. option_and_then (λ a. set_of f a value) (attr_named attribute))
          (folder_in path) e c.1 in
          let a = then_some (λ a. set_of f.0 a value) (attr_named attribute) e f.2 in
          let w = set_of_was f.0 a.0 value e a.2 in
          let p = path_was path f.0 f.1 in
          record {
            spelled = four_words word path attribute value (codes "set") (path_of
                (folder_parts f.0)) (attr_word a.0) value
                (same_bytes word (codes "set") c.0) p.0 (attr_was attribute all_attrs a.0 a.1) refl
                ∙ ap edit_words w.1;
            fits = rw (← w.1) (both_true (fits_folder f.0) (is_fitting
                (make.Set f.0 a.0 value)) p.1 w.0);
          }
      | inr c ↦ absurd (none_some e c.1)
    ]

pub edit_was : (words : List (List ℕ)) (e : Edit) → edit_said words ≡ Some e → IsSaid words e
edit_was [] e h = absurd (none_some e h)
edit_was (word ∷ []) e h = absurd (none_some e h)
edit_was (word ∷ path ∷ []) e h = path_said_was word path e h
edit_was (word ∷ path ∷ attribute ∷ []) e h = absurd (none_some e h)
edit_was (word ∷ path ∷ attribute ∷ value ∷ []) e h = set_said_was word path attribute value e h
edit_was (word ∷ path ∷ attribute ∷ value ∷ more ∷ words) e h = absurd (none_some e h)
