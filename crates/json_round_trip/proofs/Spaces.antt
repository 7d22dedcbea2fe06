-- A namespace is made again, edit by edit.
use Rattle.std.proofs.Common.{◌≡◌, ◌≤◌, ◌+◌, ◌-◌, ◌^◌, ◌==◌, ◌||◌, min, not, nat_lt, ℕ, Bool, true, false, cond, List, [], ◌∷◌, ◌++◌, codes, Option, Some, None, is_some, refl, sym, ap, ◌∙◌, arith}
use Rattle.std.specs.Str.{bytes_eq}
use Rattle.std.specs.Ordering.{nat_cmp}
use Rattle.std.specs.Cmp.{nat_cmp_total}
use Rattle.std.specs.Cmp.Lexicographic.{nat_list_cmp_total}
use Rattle.std.specs.Fmt.{decimal}
use Rattle.std.specs.FinMap as map
use Rattle.std.specs.FinMap.{FinMap, nat_cmp-IsAntisymmetric}
use Rattle.std.proofs.lemmas.Slice.Eq.{bytes_eq-Decides}
use Rattle.std.proofs.lemmas.Bool.{eqb-true}
use Rattle.std.proofs.lemmas.Bool.Decides.{nat_tests}
use Rattle.uuid.specs.Text.{hyphenated_text, lower, parsed}
use Rattle.configfs_rows.specs.Values.{is_path, has_path, group_named}
use Rattle.configfs_rows.specs.Maps.{update_at}
use Rattle.configfs_rows.specs.Rows.{fresh_namespace, put_in, identifier_of}
use Rattle.configfs_rows.specs.Subsystems.{add_namespace, put_namespace}
use Rattle.configfs_rows.specs.Holders.{hold, number_of, disk_number, paths_of, holds_path, has_disk, is_held, path_or_empty}
use Rattle.sqe_cqe.specs.declared.rows.TheConstants.{MAX_NSID}
use Rattle.configfs_rows.specs.declared.disks.DiskRow.{DiskRow}
use Rattle.configfs_rows.specs.declared.namespaces.NamespaceRow.{NamespaceRow}
use Rattle.configfs_rows.specs.declared.namespaces.NamespacePut.{NamespacePut}
use Rattle.configfs_rows.specs.declared.namespaces.NamespacePut.TheVariants.{Path, Identifier as NewIdentifier, Group, Enabled}
use Rattle.configfs_rows.specs.declared.namespaces.Identifier.{Identifier}
use Rattle.configfs_rows.specs.declared.namespaces.Identifier.TheVariants.{Uuid, Nguid}
use Rattle.configfs_rows.specs.declared.subsystems.SubsystemRow.{SubsystemRow}
use Rattle.configfs_rows.proofs.Gets.{get-insert_at}
use Rattle.configfs_tree.specs.Outcome.{Accepts, either, unless_stands, namespace_change, on_subsystem}
use Rattle.configfs_tree.specs.Table.{mkdir_namespace, set_device_path, set_identifier, set_ana_grpid, set_enable, put_on, put_parsed, put_group_of}
use Rattle.configfs_tree.specs.declared.edits.Change.{Change}
use Rattle.configfs_tree.specs.declared.edits.Attr.TheVariants as attr
use Rattle.configfs_tree.specs.declared.edits.Folder.TheVariants as folder
use Rattle.configfs_tree.specs.declared.configuration.Configuration.{Configuration}
use Rattle.configfs_tree.proofs.Kept.{names_same}
use Rattle.nvmetcli_json.specs.Edits.{made, set, set_some}
use Rattle.nvmetcli_json.specs.Laws.{made_tree, edited, all_edited}
use Rattle.nvmetcli_json.specs.Loading.{enabling}
use Rattle.nvmetcli_json.specs.Written.{device_written, namespace_written}
use Rattle.json_round_trip.proofs.Steps.{Hosts, Rows, Ports, tree_of, Goes, goes_one, goes_nowhere, goes_then, passes, in_sub, in_space, update_here}

-- ---- the count of ANA changes after an edit that changes a group, or writes the one that stands
abbrev pub next : ℕ → ℕ
next count = min (count + 1) (2 ^ 64 - 1)

pub or_same : (b : Bool) (t u : Configuration) (change : Change) → (b ≡ true → t ≡ u)
    → made_tree (unless_stands b t (Accepts u change)) ≡ Some u
unfolding unless_stands
or_same true t u change same = ap (λ (v : Configuration). Some v) (same refl)
or_same false t u change same = refl

in_range : (nsid : ℕ) → 1 ≤ nsid → nsid ≤ MAX_NSID → ((nsid == 0) || nat_lt MAX_NSID nsid) ≡ false
in_range nsid low high = grind (arith, nat_tests)

unset_has : (path : Option (List ℕ)) (value : List ℕ) → path ≡ None → has_path path value ≡ true → ⊥
unset_has None value unset e = absurd cc
unset_has (Some path) value unset e = absurd cc

stood : (which : Identifier) (n : NamespaceRow) (bytes : List ℕ) → identifier_of which n ≡ bytes
    → n ≡ put_in (NewIdentifier which bytes) n
stood Uuid n bytes e = ap (λ (x : List ℕ). put_in (NewIdentifier Uuid x) n) e
stood Nguid n bytes e = ap (λ (x : List ℕ). put_in (NewIdentifier Nguid x) n) e

-- ---- a namespace that can be made so
abbrev pub row_of : Option (List ℕ) → Option ℕ → List ℕ → List ℕ → ℕ → Bool → NamespaceRow
row_of path disk uuid nguid group enabled = record {
  device_path = path;
  disk = disk;
  uuid = uuid;
  nguid = nguid;
  group = group;
  enabled = enabled;
}

abbrev pub is_good_path : Option (List ℕ) → Bool
is_good_path None = true
is_good_path (Some path) = is_path path

-- its texts are read to what they were written of
pub record SpaceReads (path : Option (List ℕ)) (uuid nguid : List ℕ) : Type 0 where
  pub path_is : is_good_path path ≡ true
  pub uuid_is : parsed (hyphenated_text lower uuid) ≡ Some uuid
  pub nguid_is : parsed (hyphenated_text lower nguid) ≡ Some nguid

-- its path names a disk that no namespace holds
pub record CanEnable (disks : List DiskRow) (path : Option (List ℕ)) : Type 0 where
  pub has : has_disk disks path ≡ true
  pub free : is_held disks path ≡ false

-- the disks after it was enabled, or left off
abbrev pub disks_after : ℕ → ℕ → Option (List ℕ) → Bool → List DiskRow → List DiskRow
disks_after at nsid path false disks = disks
disks_after at nsid path true disks = hold (path_or_empty path) (Some (record {
  sub = at;
  nsid = nsid;
})) disks

pub record SpaceReady (s : SubsystemRow) (nsid : ℕ) (disks : List DiskRow) (n : NamespaceRow)
    : Type 0 where
  pub low : 1 ≤ nsid
  pub high : nsid ≤ MAX_NSID
  pub new : map.get s.namespaces nsid ≡ None
  pub reads : SpaceReads n.device_path n.uuid n.nguid
  pub group : group_named (decimal n.group) ≡ Some n.group
  pub disk : n.disk ≡ disk_number (paths_of disks) n.device_path
  pub idle : holds_path disks s.at nsid n.device_path ≡ false
  pub can : n.enabled ≡ true → CanEnable disks n.device_path

-- ---- the trees between the edits of a subsystem, and of a namespace
module _ (hosts : Hosts) (m : Rows) (ports : Ports) where
  abbrev pub with_sub : SubsystemRow → ℕ → List DiskRow → Configuration
  with_sub s count disks = tree_of hosts (map.insert m s.nqn s) ports count disks

  abbrev pub with_space : SubsystemRow → ℕ → NamespaceRow → SubsystemRow
  with_space s nsid n = record s { namespaces = map.insert s.namespaces nsid n }

  pub sub_found : (s : SubsystemRow) → map.get (map.insert m s.nqn s) s.nqn ≡ Some s
  sub_found s = get-insert_at nat_list_cmp_total names_same m s.nqn s

  pub sub_put : (s : SubsystemRow) (f : SubsystemRow → SubsystemRow)
      → update_at (map.insert m s.nqn s) s.nqn f ≡ map.insert m s.nqn (f s)
  sub_put s f = update_here nat_list_cmp_total names_same m s.nqn s f

  -- an attribute of a namespace is put
  space_put : (s : SubsystemRow) (nsid : ℕ) (n : NamespaceRow) (put : NamespacePut)
      → update_at (map.insert m s.nqn (with_space s nsid n)) s.nqn (put_namespace nsid put)
      ≡ map.insert m s.nqn (with_space s nsid (put_in put n))
  space_put s nsid n put =
      sub_put (with_space s nsid n) (put_namespace nsid put)
      ∙ ap (λ (ns : FinMap nat_cmp NamespaceRow). map.insert m s.nqn (record s {
        namespaces = ns;
      })) (update_here nat_cmp_total nat_cmp-IsAntisymmetric s.namespaces nsid n (put_in put))

  space_found : (s : SubsystemRow) (nsid : ℕ) (n : NamespaceRow)
      → map.get (map.insert s.namespaces nsid n) nsid ≡ Some n
  space_found s nsid n = get-insert_at nat_cmp_total nat_cmp-IsAntisymmetric s.namespaces nsid n

  -- the edit of one attribute, which may stand already
  put_or_same : (s : SubsystemRow) (nsid : ℕ) (n : NamespaceRow) (put : NamespacePut) (count : ℕ)
      (disks : List DiskRow) (b : Bool) (change : Change) → (b ≡ true → n ≡ put_in put n)
      → made_tree (unless_stands b (with_sub (with_space s nsid n) count disks)
      (Accepts (on_subsystem (with_sub (with_space s nsid n) count disks) s.nqn
      (put_namespace nsid put)) change))
      ≡ Some (with_sub (with_space s nsid (put_in put n)) count disks)
  put_or_same s nsid n put count disks b change same =
      let is : on_subsystem (with_sub (with_space s nsid n) count disks) s.nqn
      (put_namespace nsid put) ≡ with_sub (with_space s nsid (put_in put n)) count disks =
      ap (λ (x : Rows). tree_of hosts x ports count disks) (space_put s nsid n put) in
      ap (λ (u : Configuration). made_tree (unless_stands b
      (with_sub (with_space s nsid n) count disks) (Accepts u change))) is
      ∙ or_same b _ _ change (λ e. ap (λ (x : NamespaceRow). with_sub (with_space s nsid x) count
      disks) (same e))

  counted_or_same : (s : SubsystemRow) (nsid count : ℕ) (n : NamespaceRow) (group : ℕ)
      (disks : List DiskRow) (b : Bool) → (n.group == group) ≡ b
      → made_tree (put_group_of (with_sub (with_space s nsid n) count disks) s.nqn nsid
      (with_space s nsid n) n (Some group))
      ≡ Some (with_sub (with_space s nsid (put_in (Group group) n)) (cond b count (next count)) disks)
  unfolding unless_stands
  counted_or_same s nsid count n group disks true e = rw e (ap (λ (g : ℕ). Some (with_sub
      (with_space s nsid (put_in (Group g) n)) count disks)) (eqb-true n.group group e))
  counted_or_same s nsid count n group disks false e = rw e (ap (λ (x : Rows). Some (tree_of hosts x
      ports (next count) disks)) (space_put s nsid n (Group group)))

  space_added : (s : SubsystemRow) (nsid count : ℕ) (disks : List DiskRow) → 1 ≤ nsid
      → nsid ≤ MAX_NSID → map.get s.namespaces nsid ≡ None
      → edited (with_sub s count disks) (made (folder.Namespace s.nqn nsid))
      ≡ Some (with_sub (with_space s nsid fresh_namespace) count disks)
  unfolding mkdir_namespace
  space_added s nsid count disks low high new =
      ap made_tree (in_sub _ s.nqn s _ (sub_found s)
      ∙ passes _ _ (in_range nsid low high, (ap is_some new, tt)))
      ∙ ap (λ (x : Rows). Some (tree_of hosts x ports count disks)) (sub_put s (add_namespace nsid))

  path_set : (s : SubsystemRow) (nsid count : ℕ) (n : NamespaceRow) (path : List ℕ)
      (disks : List DiskRow) → n.device_path ≡ None → n.enabled ≡ false → is_path path ≡ true
      → edited (with_sub (with_space s nsid n) count disks)
      (set (folder.Namespace s.nqn nsid) attr.DevicePath path)
      ≡ Some (with_sub (with_space s nsid (put_in (Path path (number_of path (paths_of disks))) n))
      count disks)
  unfolding set_device_path
  path_set s nsid count n path disks unset off good =
      ap made_tree (in_space _ s.nqn nsid _ n _ (sub_found (with_space s nsid n))
      (space_found s nsid n) ∙ passes _ _ (rw (off, unset) refl, (ap not good, tt)))
      ∙ put_or_same s nsid n (Path path (number_of path (paths_of disks))) count disks _ _
      (λ e. absurd (unset_has n.device_path path unset e))

  identifier_set : (s : SubsystemRow) (nsid count : ℕ) (n : NamespaceRow) (which : Identifier)
      (value bytes : List ℕ) (disks : List DiskRow) → n.enabled ≡ false
      → holds_path disks s.at nsid n.device_path ≡ false → parsed value ≡ Some bytes
      → made_tree (set_identifier (with_sub (with_space s nsid n) count disks) s.nqn nsid which value)
      ≡ Some (with_sub (with_space s nsid (put_in (NewIdentifier which bytes) n)) count disks)
  unfolding set_identifier
  identifier_set s nsid count n which value bytes disks off idle reads =
      let t = with_sub (with_space s nsid n) count disks in
      ap made_tree (in_space _ s.nqn nsid _ n _ (sub_found (with_space s nsid n))
      (space_found s nsid n)
      ∙ (passes _ _ (rw (off, idle) refl, tt)
      ∙ ap (λ (o : Option (List ℕ)). put_parsed o (λ found. unless_stands
      (bytes_eq (identifier_of which n) found) t
      (put_on t s.nqn s.at nsid (NewIdentifier which found)))) reads))
      ∙ put_or_same s nsid n (NewIdentifier which bytes) count disks _ _
      (λ e. stood which n bytes ((bytes_eq-Decides (identifier_of which n) bytes).0 e))

  group_set : (s : SubsystemRow) (nsid count : ℕ) (n : NamespaceRow) (value : List ℕ) (group : ℕ)
      (disks : List DiskRow) → group_named value ≡ Some group
      → edited (with_sub (with_space s nsid n) count disks)
      (set (folder.Namespace s.nqn nsid) attr.AnaGrpid value)
      ≡ Some (with_sub (with_space s nsid (put_in (Group group) n))
      (cond (n.group == group) count (next count)) disks)
  unfolding set_ana_grpid
  group_set s nsid count n value group disks named =
      let t = with_sub (with_space s nsid n) count disks in
      ap made_tree (in_space _ s.nqn nsid _ n _ (sub_found (with_space s nsid n))
      (space_found s nsid n)
      ∙ ap (put_group_of t s.nqn nsid (with_space s nsid n) n) named)
      ∙ counted_or_same s nsid count n group disks (n.group == group) refl

  enable_set : (s : SubsystemRow) (nsid count : ℕ) (n : NamespaceRow) (disks : List DiskRow)
      → n.enabled ≡ false → holds_path disks s.at nsid n.device_path ≡ false
      → has_disk disks n.device_path ≡ true → is_held disks n.device_path ≡ false
      → edited (with_sub (with_space s nsid n) count disks)
      (set (folder.Namespace s.nqn nsid) attr.Enable (codes "1"))
      ≡ Some (with_sub (with_space s nsid (put_in (Enabled true) n)) count
      (hold (path_or_empty n.device_path) (Some (record { sub = s.at; nsid = nsid })) disks))
  unfolding set_enable either unless_stands
  enable_set s nsid count n disks off idle has not_held =
      let t = with_sub (with_space s nsid n) count disks in
      let held = hold (path_or_empty n.device_path) (Some (record {
        sub = s.at;
        nsid = nsid;
      })) disks in
      ap made_tree (in_space _ s.nqn nsid _ n _ (sub_found (with_space s nsid n))
      (space_found s nsid n)
      ∙ passes _ _ (refl, (rw (off, idle) refl, (rw (off, has) refl, (rw (off, not_held) refl, tt)))))
      ∙ (ap (λ (b : Bool). made_tree (unless_stands b t (Accepts
      (record (on_subsystem t s.nqn (put_namespace nsid (Enabled true))) {
        disks = held;
      })
      (namespace_change s.at nsid false)))) off
      ∙ ap (λ (x : Rows). Some (tree_of hosts x ports count held))
      (space_put s nsid n (Enabled true)))

  -- ---- all edits of a namespace
  device_goes : (s : SubsystemRow) (nsid count : ℕ) (disks : List DiskRow) (path : Option (List ℕ))
      (uuid nguid : List ℕ) → SpaceReads path uuid nguid
      → holds_path disks s.at nsid path ≡ false
      → Goes (with_sub (with_space s nsid fresh_namespace) count disks)
      (device_written s.nqn nsid (row_of path None uuid nguid 1 false))
      (with_sub (with_space s nsid (row_of path (disk_number (paths_of disks) path) uuid nguid 1
      false)) count disks)
  device_goes s nsid count disks None uuid nguid reads idle =
      let f = folder.Namespace s.nqn nsid in
      goes_then _ _ _ (set_some f attr.DeviceNguid (Some (hyphenated_text lower nguid)))
      (set_some f attr.DeviceUuid (Some (hyphenated_text lower uuid)))
      (goes_one _ _ _ (identifier_set s nsid count fresh_namespace Nguid _ nguid disks refl refl
      reads.nguid_is))
      (goes_one _ _ _ (identifier_set s nsid count (put_in (NewIdentifier Nguid nguid)
      fresh_namespace) Uuid _ uuid disks refl refl reads.uuid_is))
  device_goes s nsid count disks (Some path) uuid nguid reads idle =
      let f = folder.Namespace s.nqn nsid in
      let first = put_in (NewIdentifier Nguid nguid) fresh_namespace in
      let second = put_in (Path path (number_of path (paths_of disks))) first in
      goes_then _ _ _ (set_some f attr.DeviceNguid (Some (hyphenated_text lower nguid)))
      (set_some f attr.DevicePath (Some path)
      ++ set_some f attr.DeviceUuid (Some (hyphenated_text lower uuid)))
      (goes_one _ _ _ (identifier_set s nsid count fresh_namespace Nguid _ nguid disks refl refl
      reads.nguid_is))
      (goes_then _ _ _ (set_some f attr.DevicePath (Some path))
      (set_some f attr.DeviceUuid (Some (hyphenated_text lower uuid)))
      (goes_one _ _ _ (path_set s nsid count first path disks refl refl reads.path_is))
      (goes_one _ _ _ (identifier_set s nsid count second Uuid _ uuid disks refl idle reads.uuid_is)))

  enable_goes : (s : SubsystemRow) (nsid count : ℕ) (n : NamespaceRow) (disks : List DiskRow)
      (on : Bool) → n.enabled ≡ false → holds_path disks s.at nsid n.device_path ≡ false
      → (on ≡ true → CanEnable disks n.device_path)
      → Goes (with_sub (with_space s nsid n) count disks)
      (enabling (folder.Namespace s.nqn nsid) on)
      (with_sub (with_space s nsid (record n { enabled = on })) count
      (disks_after s.at nsid n.device_path on disks))
  enable_goes s nsid count n disks false off idle can = goes_nowhere _ _ (ap (λ (b : Bool). with_sub
      (with_space s nsid (record n { enabled = b })) count disks) off)
  enable_goes s nsid count n disks true off idle can = goes_one _ _ _ (enable_set s nsid count n
      disks off idle (can refl).has (can refl).free)

  pub space_made : (s : SubsystemRow) (nsid count : ℕ) (n : NamespaceRow) (disks : List DiskRow)
      → SpaceReady s nsid disks n
      → Goes (with_sub s count disks) (namespace_written s.nqn nsid n)
      (with_sub (with_space s nsid n) (cond (1 == n.group) count (next count))
      (disks_after s.at nsid n.device_path n.enabled disks))
  unfolding namespace_written
  space_made s nsid count n disks ready =
      let f = folder.Namespace s.nqn nsid in
      let number = disk_number (paths_of disks) n.device_path in
      let device = row_of n.device_path number n.uuid n.nguid 1 false in
      let grouped = row_of n.device_path number n.uuid n.nguid n.group false in
      let count' = cond (1 == n.group) count (next count) in
      goes_then _ _ _ (made f ∷ [] ++ device_written s.nqn nsid n
      ++ set_some f attr.AnaGrpid (Some (decimal n.group))) (enabling f n.enabled)
      (goes_then _ _ _ (made f ∷ [] ++ device_written s.nqn nsid n)
      (set_some f attr.AnaGrpid (Some (decimal n.group)))
      (goes_then _ _ _ (made f ∷ []) (device_written s.nqn nsid n)
      (goes_one _ _ _ (space_added s nsid count disks ready.low ready.high ready.new))
      (device_goes s nsid count disks n.device_path n.uuid n.nguid ready.reads ready.idle))
      (goes_one _ _ _ (group_set s nsid count device (decimal n.group) n.group disks ready.group)))
      (λ rest. enable_goes s nsid count' grouped disks n.enabled refl ready.idle ready.can rest
      ∙ ap (λ (d : Option ℕ). all_edited (with_sub (with_space s nsid (record n { disk = d })) count'
      (disks_after s.at nsid n.device_path n.enabled disks)) rest) (sym ready.disk))
