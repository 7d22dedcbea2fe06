-- Identifiers are of 16 bytes.
use Rattle.std.proofs.Common.{◌≡◌, ◌⊎◌, ◌<◌, ◌*◌, ◌+◌, ◌==◌, ◌&&◌, ℕ, zero, suc, Bool, true, false, if◌then◌else◌, List, [], length, get_or, replicate, take, drop, slice_index, Option, Some, None, refl, sym, ap, subst, ◌∙◌, inl, inr, arith}
use mathlib.Core.Logic.{⊎_elim}
use Rattle.std.proofs.lemmas.Bool.{cases_Bool, cases_lt, both_ways}
use Rattle.std.proofs.lemmas.Bool.Decides.{nat_tests}
use Rattle.std.proofs.lemmas.List.{get_or_past}
use Rattle.std.proofs.lemmas.List.Folds.{list_all_at}
use Rattle.std.specs.List.{list_all}
use Rattle.std.specs.Str.{bytes_eq}
use Rattle.std.specs.Cmp.{nat_cmp_total}
use Rattle.std.specs.Cmp.Lexicographic.{nat_list_cmp_total}
use Rattle.std.specs.FinMap as map
use Rattle.std.specs.FinMap.{FinMap, nat_cmp-IsAntisymmetric}
use Rattle.std.specs.Ordering.{nat_cmp}
use Rattle.uuid.specs.Text.{by_index, is_hex_digit, value_of, byte_of_digits, parsed_simple, parsed_hyphenated, parsed_braced, parsed_urn, digits_of, open_brace, close_brace, has_urn_prefix, parsed}
use Rattle.uuid.proofs.TextLemmas.{by_index_length, by_index_at}
use Rattle.sqe_cqe.specs.Anas.{ana_named}
use Rattle.sqe_cqe.specs.declared.rows.Ana.{Ana}
use Rattle.configfs_rows.specs.Holders.{number_of, paths_of}
use Rattle.configfs_rows.specs.Maps.{update_at}
use Rattle.configfs_rows.specs.Nqns.{name_order}
use Rattle.configfs_rows.specs.Rows.{put_in, fresh_namespace, identifier_of}
use Rattle.configfs_rows.specs.Subsystems.{fresh_subsystem, put_namespace, add_namespace, remove_namespace}
use Rattle.configfs_rows.specs.Values.{group_named}
use Rattle.configfs_rows.specs.declared.namespaces.NamespaceRow.{NamespaceRow}
use Rattle.configfs_rows.specs.declared.namespaces.NamespacePut.{NamespacePut}
use Rattle.configfs_rows.specs.declared.namespaces.NamespacePut.TheVariants.{Path, Identifier as NewIdentifier, Group, Enabled}
use Rattle.configfs_rows.specs.declared.namespaces.Identifier.{Identifier}
use Rattle.configfs_rows.specs.declared.namespaces.Identifier.TheVariants.{Uuid, Nguid}
use Rattle.configfs_rows.specs.declared.subsystems.SubsystemRow.{SubsystemRow}
use Rattle.configfs_rows.specs.declared.ports.PortRow.{PortRow}
use Rattle.configfs_rows.specs.declared.ports.Address.{Address}
use Rattle.configfs_rows.specs.declared.ports.Address.TheVariants as address
use Rattle.configfs_rows.proofs.Gets.{none_some}
use Rattle.configfs_rows.proofs.Each.{EachRow, each_inserted, each_removed, each_updated}
use Rattle.configfs_tree.specs.Drained.{freed_path, freed_by, drained}
use Rattle.configfs_tree.specs.NamespaceRows.{rows_of}
use Rattle.configfs_tree.specs.Outcome.{Outcome, Accepts, unless_stands}
use Rattle.configfs_tree.specs.Table.{mkdir_host, mkdir_subsystem, mkdir_namespace, mkdir_port, mkdir_ana_group, rmdir_host, rmdir_subsystem, rmdir_namespace, rmdir_port, rmdir_ana_group, set_attr_allow_any_host, set_attr_serial, set_attr_model, put_on, put_parsed, set_device_path, set_identifier, put_group_of, set_ana_grpid, set_enable, set_address, set_addr_trtype, set_addr_adrfam, set_addr_treq, set_addr_traddr, set_addr_trsvcid, put_state, set_ana_state, mkdir, rmdir, set_of_subsystem, set_of_namespace, set_of_port, set_of_group, set as set_outcome, edit_outcome as folder_outcome}
use Rattle.configfs_tree.specs.declared.edits.Attr.{Attr}
use Rattle.configfs_tree.specs.declared.edits.Attr.TheVariants as attr
use Rattle.configfs_tree.specs.declared.edits.Change.{Change}
use Rattle.configfs_tree.specs.declared.edits.Errno.TheVariants.{EINVAL}
use Rattle.configfs_tree.specs.declared.edits.Folder.{Folder}
use Rattle.configfs_tree.specs.declared.edits.Folder.TheVariants as folder
use Rattle.configfs_tree.specs.declared.edits.FolderEdit.{FolderEdit}
use Rattle.configfs_tree.specs.declared.edits.FolderEdit.TheVariants as edit
use Rattle.configfs_tree.specs.declared.configuration.Configuration.{Configuration}
use Rattle.configfs_tree.proofs.Holds.{Holds, accepted, refuses, holds_row, holds_end, holds_last, holds_either, holds_unless, holds_if_subsystem, holds_if_rows, holds_if_port, holds_if_group}
use Rattle.configfs_tree.proofs.Kept.{Rows, names_same}
use Rattle.fabrics_connect.specs.declared.answer.Answer.{Answer}
use Rattle.fabrics_connect.specs.declared.answer.Answer.TheVariants.{Refused, Makes, Joins, Reads, Sets}
use Rattle.fabrics_connect.specs.After.{tree_after}
use Rattle.link_rules.specs.declared.edits.Edit.{Edit}
use Rattle.link_rules.specs.declared.edits.Edit.TheVariants as either
use Rattle.link_rules.specs.declared.edits.LinkEdit.{LinkEdit}
use Rattle.link_rules.specs.declared.edits.LinkEdit.TheVariants as link
use Rattle.link_rules.specs.Table.{allow_host, disallow_host, link_subsystem, unlink_subsystem, link_outcome, edit_outcome}
use Rattle.ns_table.specs.Looked.{IsIdentifier, HasIdentifiers}
use Rattle.edit_words.specs.Identifiers.{HaveIdentifiers, NothingLacksIdentifiers, EditsKeepIdentifiers, DrainsKeepIdentifiers, ControlsKeepIdentifiers}

-- ---- what a text parses to
value_small : (c : ℕ) → is_hex_digit c ≡ true → value_of c < 16
value_small c hex = grind (arith, nat_tests)

digit_below : (hex : List ℕ) → list_all is_hex_digit hex ≡ true → (k : ℕ) → k < length hex
    → value_of (get_or hex k 0) < 16
digit_below hex all k near = ⊎_elim
    (λ yes. value_small (get_or hex k 0) yes)
    (λ no. absurd (both_ways (list_all is_hex_digit hex) (list_all_at is_hex_digit hex k 0 near no) all))
    (cases_Bool (is_hex_digit (get_or hex k 0)))

byte_below : (hex : List ℕ) → list_all is_hex_digit hex ≡ true → length hex ≡ 32 → (i : ℕ) → i < 16
    → byte_of_digits hex i < 256
byte_below hex all long i near = omega (
  arith,
  digit_below hex all (2 * i) (omega arith),
  digit_below hex all (2 * i + 1) (omega arith),
)

bytes_small : (f : ℕ → ℕ) → ((i : ℕ) → i < 16 → f i < 256) → (i : ℕ)
    → slice_index (by_index 16 f) i < 256
bytes_small f small i = elim (cases_lt i 16) [
  | inl under ↦ rw (by_index_at 16 f i 0 under) (small i under)
  | inr over ↦ rw (get_or_past (by_index 16 f) i 0 (rw (by_index_length 16 f) over)) (omega arith)
]

both_true : (a b : Bool) → (a && b) ≡ true → (a ≡ true) × (b ≡ true)
both_true true true e = (refl, refl)
both_true true false e = absurd (both_ways false refl e)
both_true false b e = absurd (both_ways false refl e)

if_gives : {X : Type 0} (b : Bool) (o : Option X) (y : X) → (if b then o else None) ≡ Some y
    → (b ≡ true) × (o ≡ Some y)
if_gives true o y e = (refl, e)
if_gives false o y e = absurd (none_some y e)

if_either : {X A : Type 0} (b : Bool) (o p : Option X) (y : X) → (if b then o else p) ≡ Some y
    → (o ≡ Some y → A) → (p ≡ Some y → A) → A
if_either true o p y e f g = f e
if_either false o p y e f g = g e

some_is : {X : Type 0} (x y : X) → Some x ≡ Some y → x ≡ y
some_is x y e = cc

eq_of : (n m : ℕ) → (n == m) ≡ true → n ≡ m
eq_of n m e = grind (arith, e)

of_simple : (hex bytes : List ℕ) → parsed_simple hex ≡ Some bytes → IsIdentifier bytes
of_simple hex bytes e =
    let g = if_gives ((length hex == 32) && list_all is_hex_digit hex) (Some (by_index 16 (byte_of_digits hex))) bytes e in
    let b = both_true (length hex == 32) (list_all is_hex_digit hex) g.0 in
    subst IsIdentifier (some_is (by_index 16 (byte_of_digits hex)) bytes g.1) (record {
      len = by_index_length 16 (byte_of_digits hex);
      small = bytes_small (byte_of_digits hex) (byte_below hex b.1 (eq_of (length hex) 32 b.0));
    })

of_hyphenated : (s bytes : List ℕ) → parsed_hyphenated s ≡ Some bytes → IsIdentifier bytes
of_hyphenated s bytes e = of_simple (digits_of s) bytes (if_gives _ (parsed_simple (digits_of s)) bytes e).1

of_braced : (s bytes : List ℕ) → parsed_braced s ≡ Some bytes → IsIdentifier bytes
of_braced s bytes e = of_hyphenated (take 36 (drop 1 s)) bytes (if_gives
    ((length s == 38) && (slice_index s 0 == open_brace) && (slice_index s 37 == close_brace))
    (parsed_hyphenated (take 36 (drop 1 s))) bytes e).1

of_urn : (s bytes : List ℕ) → parsed_urn s ≡ Some bytes → IsIdentifier bytes
of_urn s bytes e = of_hyphenated (drop 9 s) bytes
    (if_gives ((length s == 45) && has_urn_prefix s) (parsed_hyphenated (drop 9 s)) bytes e).1

of_text : (s bytes : List ℕ) → parsed s ≡ Some bytes → IsIdentifier bytes
of_text s bytes e = if_either (length s == 32) (parsed_simple s) _ bytes e (of_simple s bytes)
    (λ e2. if_either (length s == 36) (parsed_hyphenated s) _ bytes e2 (of_hyphenated s bytes)
    (λ e3. if_either (length s == 38) (parsed_braced s) _ bytes e3 (of_braced s bytes)
    (λ e4. if_either (length s == 45) (parsed_urn s) None bytes e4 (of_urn s bytes)
    (λ e5. absurd (none_some bytes e5)))))

-- ---- rows
zero_at : (n i : ℕ) → slice_index (replicate n 0) i < 256
zero_at zero i = omega arith
zero_at (suc n) zero = omega arith
zero_at (suc n) (suc i) = zero_at n i

fresh_has : HasIdentifiers fresh_namespace
fresh_has = record {
  uuid = record { len = refl; small = zero_at 16 };
  nguid = record { len = refl; small = zero_at 16 };
}

abbrev Spaces : FinMap nat_cmp NamespaceRow → Type 0
Spaces m = EachRow (λ (nsid : ℕ) (n : NamespaceRow). HasIdentifiers n) m

abbrev All : Rows → Type 0
All m = EachRow (λ (sub : List ℕ) (s : SubsystemRow). Spaces s.namespaces) m

abbrev Puts : NamespacePut → Type 0
Puts put = (n : NamespaceRow) → HasIdentifiers n → HasIdentifiers (put_in put n)

puts_identifier : (which : Identifier) (bytes : List ℕ) → IsIdentifier bytes
    → Puts (NewIdentifier which bytes)
puts_identifier Uuid bytes is n has = record { uuid = is; nguid = has.nguid }
puts_identifier Nguid bytes is n has = record { uuid = has.uuid; nguid = is }

-- an attribute or a link of a subsystem, or its namespaces
sub_all : (m : Rows) (sub : List ℕ) (f : SubsystemRow → SubsystemRow) → ((s : SubsystemRow)
    → Spaces s.namespaces → Spaces (f s).namespaces) → All m → All (update_at m sub f)
sub_all m sub f keeps all = each_updated nat_list_cmp_total names_same
    (λ (k : List ℕ) (s : SubsystemRow). Spaces s.namespaces) m sub f
    (λ s e has. keeps s has) all

put_all : (m : Rows) (sub : List ℕ) (nsid : ℕ) (put : NamespacePut) → Puts put → All m
    → All (update_at m sub (put_namespace nsid put))
put_all m sub nsid put puts all = sub_all m sub (put_namespace nsid put) (λ s has.
    each_updated nat_cmp_total nat_cmp-IsAntisymmetric (λ (k : ℕ) (n : NamespaceRow). HasIdentifiers n)
    s.namespaces nsid (put_in put) (λ n e h. puts n h) has) all

-- ---- the table
abbrev KeepsBy : Outcome → Type 0
KeepsBy o = Holds (λ u c. All u.settings.subsystems) o

holds_parsed_as : (found : Option (List ℕ)) (put : List ℕ → Outcome)
    → ((bytes : List ℕ) → found ≡ Some bytes → KeepsBy (put bytes)) → KeepsBy (put_parsed found put)
holds_parsed_as None put h = refuses EINVAL
holds_parsed_as (Some bytes) put h = h bytes refl

module _ (t : Configuration) (all : All t.settings.subsystems) where
  k_mkdir : (f : Folder) → KeepsBy (mkdir t f)
  unfolding mkdir_host mkdir_subsystem mkdir_namespace mkdir_port mkdir_ana_group
  k_mkdir (folder.Host host) = holds_row _ _ _ _ (λ _. holds_last _ _ _ _ (λ _. all))
  k_mkdir (folder.Subsystem sub) = holds_row _ _ _ _ (λ _. holds_row _ _ _ _ (λ _.
      holds_last _ _ _ _ (λ _. each_inserted nat_list_cmp_total names_same
      (λ (k : List ℕ) (s : SubsystemRow). Spaces s.namespaces) t.settings.subsystems sub _
      (λ nsid n e. absurd (none_some n (sym (map.get-empty nat_cmp nsid) ∙ e))) all)))
  k_mkdir (folder.Namespace sub nsid) = holds_if_subsystem _ _ (λ s e. holds_row _ _ _ _ (λ _.
      holds_last _ _ _ _ (λ _. sub_all t.settings.subsystems sub (add_namespace nsid) (λ r has.
      each_inserted nat_cmp_total nat_cmp-IsAntisymmetric
      (λ (k : ℕ) (n : NamespaceRow). HasIdentifiers n) r.namespaces nsid fresh_namespace fresh_has has) all)))
  k_mkdir (folder.Port id) = holds_row _ _ _ _ (λ _. holds_last _ _ _ _ (λ _. all))
  k_mkdir (folder.AnaGroup id group) = holds_if_port _ _ (λ p e. holds_row _ _ _ _ (λ _.
      holds_last _ _ _ _ (λ _. all)))

  k_rmdir : (f : Folder) → KeepsBy (rmdir t f)
  unfolding rmdir_host rmdir_subsystem rmdir_namespace rmdir_port rmdir_ana_group
  k_rmdir (folder.Host host) = holds_row _ _ _ _ (λ _. holds_last _ _ _ _ (λ _. all))
  k_rmdir (folder.Subsystem sub) = holds_if_subsystem _ _ (λ s e. holds_row _ _ _ _ (λ _.
      holds_last _ _ _ _ (λ _. each_removed nat_list_cmp_total names_same
      (λ (k : List ℕ) (s : SubsystemRow). Spaces s.namespaces) t.settings.subsystems sub all)))
  k_rmdir (folder.Namespace sub nsid) = holds_if_rows _ _ _ (λ s e n f. holds_last _ _ _ _ (λ _.
      sub_all t.settings.subsystems sub (remove_namespace nsid) (λ r has.
      each_removed nat_cmp_total nat_cmp-IsAntisymmetric
      (λ (k : ℕ) (n : NamespaceRow). HasIdentifiers n) r.namespaces nsid has) all))
  k_rmdir (folder.Port id) = holds_if_port _ _ (λ p e. holds_row _ _ _ _ (λ _.
      holds_last _ _ _ _ (λ _. all)))
  k_rmdir (folder.AnaGroup id group) = holds_if_port _ _ (λ p e. holds_if_group _ _ (λ old f.
      holds_last _ _ _ _ (λ _. all)))

  k_set_of_subsystem : (sub : List ℕ) (a : Attr) (value : List ℕ)
      → KeepsBy (set_of_subsystem t sub a value)
  unfolding set_attr_allow_any_host set_attr_serial set_attr_model
  k_set_of_subsystem sub attr.AllowAnyHost value = holds_if_subsystem _ _ (λ s e.
      holds_row _ _ _ _ (λ _. holds_end _ _ _ (λ _. holds_unless _ t _ _ all
      (λ _. sub_all t.settings.subsystems sub _ (λ r has. has) all))))
  k_set_of_subsystem sub attr.Serial value = holds_if_subsystem _ _ (λ s e. holds_end _ _ _ (λ _.
      holds_unless _ t _ _ all (λ _. sub_all t.settings.subsystems sub _ (λ r has. has) all)))
  k_set_of_subsystem sub attr.ModelName value = holds_if_subsystem _ _ (λ s e. holds_end _ _ _
      (λ _. holds_unless _ t _ _ all (λ _. sub_all t.settings.subsystems sub _ (λ r has. has) all)))
  k_set_of_subsystem sub a value = refuses _

  k_identifier : (sub : List ℕ) (nsid : ℕ) (which : Identifier) (value : List ℕ)
      → KeepsBy (set_identifier t sub nsid which value)
  unfolding set_identifier
  k_identifier sub nsid which value = holds_if_rows _ _ _ (λ s e n f. holds_end _ _ _ (λ _.
      holds_parsed_as (parsed value) (λ (bytes : List ℕ). unless_stands
      (bytes_eq (identifier_of which n) bytes) t (put_on t sub s.at nsid (NewIdentifier which bytes)))
      (λ bytes is. holds_unless _ t _ _ all (λ _. put_all t.settings.subsystems sub nsid
      (NewIdentifier which bytes) (puts_identifier which bytes (of_text value bytes is)) all))))

  k_group_of : (sub : List ℕ) (nsid : ℕ) (s : SubsystemRow) (n : NamespaceRow) (group : Option ℕ)
      → KeepsBy (put_group_of t sub nsid s n group)
  k_group_of sub nsid s n None = refuses _
  k_group_of sub nsid s n (Some group) = holds_unless _ t _ _ all (λ _.
      put_all t.settings.subsystems sub nsid (Group group)
      (λ r has. record { uuid = has.uuid; nguid = has.nguid }) all)

  k_set_of_namespace : (sub : List ℕ) (nsid : ℕ) (a : Attr) (value : List ℕ)
      → KeepsBy (set_of_namespace t sub nsid a value)
  unfolding set_device_path set_ana_grpid set_enable
  k_set_of_namespace sub nsid attr.DevicePath value = holds_if_rows _ _ _ (λ s e n f.
      holds_row _ _ _ _ (λ _. holds_end _ _ _ (λ _. holds_unless _ t _ _ all (λ _.
      put_all t.settings.subsystems sub nsid (Path value (number_of value (paths_of t.disks)))
      (λ r has. record { uuid = has.uuid; nguid = has.nguid }) all))))
  k_set_of_namespace sub nsid attr.DeviceUuid value = k_identifier sub nsid Uuid value
  k_set_of_namespace sub nsid attr.DeviceNguid value = k_identifier sub nsid Nguid value
  k_set_of_namespace sub nsid attr.AnaGrpid value = holds_if_rows _ _ _ (λ s e n f.
      k_group_of sub nsid s n (group_named value))
  k_set_of_namespace sub nsid attr.Enable value = holds_if_rows _ _ _ (λ s e n f. holds_either _ _ _
      (holds_unless _ t _ _ all (λ _. put_all t.settings.subsystems sub nsid (Enabled false)
      (λ r has. record { uuid = has.uuid; nguid = has.nguid }) all))
      (holds_row _ _ _ _ (λ _. holds_row _ _ _ _ (λ _. holds_row _ _ _ _ (λ _. holds_end _ _ _
      (λ _. holds_unless _ t _ _ all (λ _. put_all t.settings.subsystems sub nsid (Enabled true)
      (λ r has. record { uuid = has.uuid; nguid = has.nguid }) all)))))))
  k_set_of_namespace sub nsid a value = refuses _

  k_address : (id : ℕ) (a : Address) (good : Bool) (value : List ℕ)
      → KeepsBy (set_address t id a good value)
  k_address id a good value = holds_if_port _ _ (λ p e. holds_row _ _ _ _ (λ _. holds_end _ _ _
      (λ _. holds_unless _ t _ _ all (λ _. all))))

  k_set_of_port : (id : ℕ) (a : Attr) (value : List ℕ) → KeepsBy (set_of_port t id a value)
  unfolding set_addr_trtype set_addr_adrfam set_addr_treq set_addr_traddr set_addr_trsvcid
  k_set_of_port id attr.Trtype value = k_address id address.Trtype _ value
  k_set_of_port id attr.Adrfam value = k_address id address.Adrfam _ value
  k_set_of_port id attr.Treq value = k_address id address.Treq _ value
  k_set_of_port id attr.Traddr value = k_address id address.Traddr _ value
  k_set_of_port id attr.Trsvcid value = k_address id address.Trsvcid _ value
  k_set_of_port id a value = refuses _

  k_state : (id group : ℕ) (p : PortRow) (old : Ana) (new : Option Ana)
      → KeepsBy (put_state t id group p old new)
  k_state id group p old None = refuses _
  k_state id group p old (Some new) = holds_unless _ t _ _ all (λ _. all)

  k_set_of_group : (id group : ℕ) (a : Attr) (value : List ℕ)
      → KeepsBy (set_of_group t id group a value)
  unfolding set_ana_state
  k_set_of_group id group attr.AnaState value = holds_if_port _ _ (λ p e. holds_if_group _ _
      (λ old f. k_state id group p old (ana_named value)))
  k_set_of_group id group a value = refuses _

  k_set : (f : Folder) (a : Attr) (value : List ℕ) → KeepsBy (set_outcome t f a value)
  k_set (folder.Host host) a value = refuses _
  k_set (folder.Subsystem sub) a value = k_set_of_subsystem sub a value
  k_set (folder.Namespace sub nsid) a value = k_set_of_namespace sub nsid a value
  k_set (folder.Port id) a value = k_set_of_port id a value
  k_set (folder.AnaGroup id group) a value = k_set_of_group id group a value

  k_folder : (e : FolderEdit) → KeepsBy (folder_outcome t e)
  k_folder (edit.Mkdir f) = k_mkdir f
  k_folder (edit.Rmdir f) = k_rmdir f
  k_folder (edit.Set f a value) = k_set f a value

  k_link : (e : LinkEdit) → KeepsBy (link_outcome t e)
  unfolding allow_host disallow_host link_subsystem unlink_subsystem
  k_link (link.AllowHost sub host) = holds_if_subsystem _ _ (λ s e. holds_row _ _ _ _
      (λ _. holds_row _ _ _ _ (λ _. holds_last _ _ _ _
      (λ _. sub_all t.settings.subsystems sub _ (λ r has. has) all))))
  k_link (link.DisallowHost sub host) = holds_if_subsystem _ _ (λ s e. holds_row _ _ _ _
      (λ _. holds_last _ _ _ _ (λ _. sub_all t.settings.subsystems sub _ (λ r has. has) all)))
  k_link (link.LinkSubsystem id sub) = holds_if_port _ _ (λ p e. holds_if_subsystem _ _
      (λ s _. holds_row _ _ _ _ (λ _. holds_last _ _ _ _ (λ _. all))))
  k_link (link.UnlinkSubsystem id sub) = holds_if_port _ _ (λ p e. holds_if_subsystem _ _
      (λ s _. holds_last _ _ _ _ (λ _. all)))

  k_edit : (e : Edit) → KeepsBy (edit_outcome t e)
  k_edit (either.Folder e) = k_folder e
  k_edit (either.Link e) = k_link e

-- ---- the laws
pub edits_keep_identifiers : EditsKeepIdentifiers
edits_keep_identifiers t u e c have is sub s nsid n found there =
    let all : All t.settings.subsystems = λ a r g j m h. have a r j m g h in
    accepted u c (subst KeepsBy is (k_edit t all e)) sub s found nsid n there

pub nothing_lacks : NothingLacksIdentifiers
nothing_lacks lines sub s nsid n found there =
    absurd (none_some s (sym (map.get-empty name_order sub) ∙ found))

path_settings : (t : Configuration) (o : Option (List ℕ)) → (freed_path t o).settings ≡ t.settings
path_settings t None = refl
path_settings t (Some path) = refl

by_settings : (t : Configuration) (o : Option (SubsystemRow × NamespaceRow))
    → (freed_by t o).settings ≡ t.settings
by_settings t None = refl
by_settings t (Some rows) = path_settings t rows.1.device_path

pub drains_keep_identifiers : DrainsKeepIdentifiers
drains_keep_identifiers t sub nsid have a s j n found there =
    have a s j n (sym (ap (λ x. map.get x.subsystems a) (by_settings t (rows_of t.settings sub nsid))) ∙ found) there

pub controls_keep_identifiers : ControlsKeepIdentifiers
unfolding tree_after
controls_keep_identifiers t (Refused fault) have = have
controls_keep_identifiers t (Makes bound host) have = have
controls_keep_identifiers t (Joins bound) have = have
controls_keep_identifiers t (Reads value) have = have
controls_keep_identifiers t (Sets value) have = have
