-- Each call of a tree keeps its standing facts.
use Rattle.std.proofs.Common.{◌≡◌, ℕ, ◌==◌, ◌≤◌, Bool, true, false, List, [], ◌∷◌, length, map as map_list, Option, Some, None, is_some, nat_le, refl, sym, ap, subst, ◌∙◌, IsTrue, arith, Result, Ok, Err, codes}
use mathlib.Core.Logic.{⊎_elim}
use Rattle.std.specs.Prelude.{OnOk, OnErr, IfOk}
use Rattle.std.proofs.lemmas.Slice.Eq.{bytes_eq-Decides}
use Rattle.std.proofs.lemmas.Bool.{both_ways, leb-true}
use Rattle.std.proofs.lemmas.List.{length-map}
use Rattle.std.specs.Ordering.{nat_cmp}
use Rattle.std.specs.Cmp.{nat_cmp_total}
use Rattle.std.specs.Cmp.Lexicographic.{nat_list_cmp_total}
use Rattle.std.specs.FinMap as map
use Rattle.std.specs.FinMap.{FinMap, nat_cmp-IsAntisymmetric}
use Rattle.mem_bdev.specs.declared.disk.DiskLine.{DiskLine}
use Rattle.configfs_rows.specs.declared.limits.TheConstants.{MAX_DISKS}
use Rattle.configfs_rows.specs.Nqns.{name_order}
use Rattle.configfs_rows.specs.Subsystems.{put_allowed}
use Rattle.configfs_rows.specs.Ports.{put_link}
use Rattle.configfs_rows.specs.Holders.{are_apart, paths_of}
use Rattle.configfs_rows.specs.declared.namespaces.NamespaceRow.{NamespaceRow}
use Rattle.configfs_rows.specs.declared.subsystems.SubsystemRow.{SubsystemRow}
use Rattle.configfs_rows.specs.declared.ports.PortRow.{PortRow}
use Rattle.configfs_tree.specs.declared.configuration.Configuration.{Configuration}
use Rattle.configfs_tree.specs.declared.configuration.Attached.{Attached}
use Rattle.configfs_tree.specs.declared.edits.Change.{Change}
use Rattle.configfs_tree.specs.declared.edits.Errno.{Errno}
use Rattle.configfs_tree.specs.declared.edits.Refused.{Refused}
use Rattle.configfs_tree.specs.declared.edits.Refused.TheVariants as refused
use Rattle.configfs_tree.specs.declared.edits.FolderEdit.{FolderEdit}
use Rattle.configfs_rows.specs.declared.namespaces.Phase.TheVariants as phase
use Rattle.configfs_tree.specs.Asked.{is_fitting, is_named, may_grow}
use Rattle.configfs_tree.specs.NamespaceRows.{rows_of}
use Rattle.configfs_tree.specs.Drained.{freed_path, freed_by, drained}
use Rattle.configfs_tree.specs.Gives.{Gives, GivesErrno}
use Rattle.configfs_tree.specs.Links.{allowed_in, linked_in, subsystem_row, port_row, allows_any, is_loop, with_no_changes}
use Rattle.configfs_tree.specs.Outcome.{Outcome, with_settings}
use Rattle.configfs_tree.specs.Phases.{phase_at}
use Rattle.configfs_tree.specs.Sound.{SubsystemStands, PortStands, IsSound, Hosts}
use Rattle.configfs_tree.specs.Standing.{IsPlaced, IsStanding}
use Rattle.configfs_tree.specs.Start.{are_disks, line_path, free_disk, empty_tree}
use Rattle.configfs_tree.specs.Table.{edit_outcome, set_enable}
use Rattle.configfs_rows.proofs.Gets.{some_same, none_some}
use Rattle.configfs_rows.proofs.Texts.{left_true, right_true}
use Rattle.configfs_rows.proofs.Each.{scan_found, has_inserted, has_removed, len_removed}
use Rattle.configfs_tree.proofs.Kept.{names_same, changed_beside}
use Rattle.configfs_tree.proofs.Holds.{Holds, accepted}
use Rattle.configfs_tree.proofs.KeptTable.{edit_keeps, k_set_enable, drained_stands, empty_stands, allowed_stands, linked_stands}
use Rattle.configfs_tree.proofs.SoundTable.{disks_held, edit_sounds, f_set_enable, subsystem_sound, on_port_sound, sound_beside, addresses_beside}

-- ---- what an outcome's tree has, a call leaves
pub given : (P : Configuration → Type 0) (grows : Bool) (o : Outcome) (old : Configuration)
    (r : Result Change Refused) (new : Configuration) → Gives grows o old r new
    → Holds (λ u change. P u) o → P old → P new
given P grows o old (Ok change) new g k h =
    accepted {P = λ u change. P u} new change (subst (λ (x : Outcome). Holds (λ u change. P u) x) g
    k)
given P grows o old (Err (refused.Errno errno)) new g k h = subst P (sym g.1) h
given P grows o old (Err refused.Memory) new g k h = subst P (sym g.0) h

pub given_errno : (P : Configuration → Type 0) (o : Outcome) (old : Configuration)
    (r : Result Change Errno) (new : Configuration) → GivesErrno o old r new
    → Holds (λ u change. P u) o → P old → P new
given_errno P o old (Ok change) new g k h =
    accepted {P = λ u change. P u} new change (subst (λ (x : Outcome). Holds (λ u change. P u) x) g
    k)
given_errno P o old (Err errno) new g k h = subst P (sym g.1) h

-- what is told of an accepted edit
pub given_ok : (P : Configuration → Change
    → Type 0) (grows : Bool) (o : Outcome) (old : Configuration) (r : Result Change Refused)
    (new : Configuration) → Gives grows o old r new → Holds P o → IfOk r (λ change. P new change)
given_ok P grows o old (Ok change) new g k =
    accepted {P = P} new change (subst (λ (x : Outcome). Holds P x) g k)
given_ok P grows o old (Err e) new g k = tt

pub given_errno_ok : (P : Configuration → Change
    → Type 0) (o : Outcome) (old : Configuration) (r : Result Change Errno) (new : Configuration)
    → GivesErrno o old r new → Holds P o → IfOk r (λ change. P new change)
given_errno_ok P o old (Ok change) new g k =
    accepted {P = P} new change (subst (λ (x : Outcome). Holds P x) g k)
given_errno_ok P o old (Err e) new g k = tt

pub edit_stands : (t : Configuration) (e : FolderEdit) (r : Result Change Refused)
    (u : Configuration) → Gives (may_grow e) (edit_outcome t e) t r u → IsTrue (is_fitting e)
    → IsTrue (is_named e) → IsStanding t → IsStanding u
edit_stands t e r u g fitting named h = record {
  placed = given (λ x. IsPlaced x) (may_grow e) (edit_outcome t e) t r u g (edit_keeps t e h.placed)
      h.placed;
  sound = given (λ x. IsSound x) (may_grow e) (edit_outcome t e) t r u g
      (edit_sounds t e fitting named h.sound) h.sound;
}

pub enable_stands : (t : Configuration) (sub : List ℕ) (nsid : ℕ) (value : List ℕ)
    (r : Result Change Errno) (u : Configuration) → GivesErrno (set_enable t sub nsid value) t r u
    → IsStanding t → IsStanding u
enable_stands t sub nsid value r u g h = record {
  placed = given_errno (λ x. IsPlaced x) (set_enable t sub nsid value) t r u g
      (k_set_enable t sub nsid value h.placed) h.placed;
  sound = given_errno (λ x. IsSound x) (set_enable t sub nsid value) t r u g
      (f_set_enable t sub nsid value h.sound) h.sound;
}

-- ---- a drain ends
freed_sound : (t : Configuration) (q : Option (List ℕ)) → IsSound t → IsSound (freed_path t q)
freed_sound t None s = s
freed_sound t (Some path) s = disks_held t path None s

freed_by_sound : (t : Configuration) (found : Option (SubsystemRow × NamespaceRow)) → IsSound t
    → IsSound (freed_by t found)
freed_by_sound t None s = s
freed_by_sound t (Some rows) s = freed_sound t rows.1.device_path s

pub drain_stands : (t : Configuration) (sub : List ℕ) (nsid : ℕ)
    → phase_at t sub nsid ≡ Some phase.Draining → IsStanding t → IsStanding (drained t sub nsid)
drain_stands t sub nsid draining h = record {
  placed = drained_stands t sub nsid draining h.placed;
  sound = freed_by_sound t (rows_of t.settings sub nsid) h.sound;
}

-- ---- counts
counts_stand : (t : Configuration) (attached : Attached) (count : ℕ) → IsStanding t
    → IsStanding (with_settings t (record t.settings { attached = attached; ana_count = count }))
counts_stand t attached count h = record {
  placed = changed_beside t t.settings.hosts attached count h.placed;
  sound = sound_beside t attached count h.sound;
}

pub load_stands : (t : Configuration) → IsStanding t → IsStanding (with_no_changes t)
load_stands t h = counts_stand t t.settings.attached 0 h

pub attach_stands : (t : Configuration) (attached : Attached) → IsStanding t
    → IsStanding (with_settings t (record t.settings { attached = attached }))
attach_stands t attached h = counts_stand t attached t.settings.ana_count h

-- ---- the empty tree
free_paths : (lines : List DiskLine) → paths_of (map_list free_disk lines)
    ≡ map_list line_path lines
free_paths [] = refl
free_paths (line ∷ lines) = ap (λ ps. line.path ∷ ps) (free_paths lines)

pub start_stands : (lines : List DiskLine) → IsTrue (are_disks lines)
    → IsStanding (empty_tree lines)
start_stands lines fine = record {
  placed = empty_stands lines;
  sound = record {
    few_hosts = let e : map.len (map.empty {X = Unit {0}} {R = name_order}) ≡ 0 =
        map.len-empty name_order (Unit {0}) in omega arith;
    hosts = λ host has. absurd (both_ways (map.contains_key (map.empty {X = Unit {0}} {R =
        name_order}) host) (ap is_some (map.get-empty name_order host)) has);
    few_disks =
        let few : length lines ≤ MAX_DISKS = leb-true (length lines) MAX_DISKS
        (left_true (nat_le (length lines) MAX_DISKS) (are_apart (map_list line_path lines))
        fine) in
        let same : length (map_list free_disk lines) ≡ length lines = length-map lines free_disk in
        omega arith;
    disks_apart = ap are_apart (free_paths lines)
        ∙ right_true (nat_le (length lines) MAX_DISKS) (are_apart (map_list line_path lines)) fine;
    subsystems = λ sub s e. absurd (none_some s (sym (map.get-empty name_order sub) ∙ e));
    ports = λ id p e. absurd (none_some p (sym (map.get-empty nat_cmp id) ∙ e));
  };
}

-- ---- links, by their ends' positions
-- the row at a position is the row of its own name
pub own_subsystem : (t : Configuration) (at : ℕ) (s : SubsystemRow) → subsystem_row t at ≡ Some s
    → IsPlaced t → map.get t.settings.subsystems s.nqn ≡ Some s
own_subsystem t at s e h =
    let r = scan_found nat_list_cmp_total names_same (λ (x : SubsystemRow). x.at == at)
    t.settings.subsystems s e in
    ap (λ (k : List ℕ). map.get t.settings.subsystems k) (h.subsystems.own_key r.key s r.found)
    ∙ r.found

pub own_port : (t : Configuration) (at : ℕ) (p : PortRow) → port_row t at ≡ Some p → IsPlaced t
    → map.get t.settings.ports p.id ≡ Some p
own_port t at p e h =
    let r = scan_found nat_cmp_total nat_cmp-IsAntisymmetric (λ (x : PortRow). x.at == at)
    t.settings.ports p e in
    ap (λ (k : ℕ). map.get t.settings.ports k) (h.ports.own_key r.key p r.found) ∙ r.found

allow_one : (hosts : Hosts) (paths : List (List ℕ)) (sub : List ℕ) (host : List ℕ) (linked : Bool)
    (x : SubsystemRow) → IsTrue (map.contains_key hosts host)
    → (linked ≡ true → x.allow_any_host ≡ false) → SubsystemStands hosts paths sub x
    → SubsystemStands hosts paths sub (put_allowed host linked x)
allow_one hosts paths sub host true x there listed h = record {
  nqn = h.nqn;
  not_discovery = h.not_discovery;
  serial = h.serial;
  model_name = h.model_name;
  any_host = λ any. absurd (both_ways x.allow_any_host (listed refl) any);
  allowed = λ q has. ⊎_elim
      (λ (is : q ≡ host). ap (λ (k : List ℕ). map.contains_key hosts k) is ∙ there)
      (λ had. h.allowed q had)
      (has_inserted nat_list_cmp_total names_same x.allowed_hosts host tt q has);
  namespaces = h.namespaces;
}
allow_one hosts paths sub host false x there listed h = record {
  nqn = h.nqn;
  not_discovery = h.not_discovery;
  serial = h.serial;
  model_name = h.model_name;
  any_host = λ any.
      let none : map.len x.allowed_hosts ≡ 0 = h.any_host any in
      let fewer : map.len (map.remove x.allowed_hosts host) ≤ map.len x.allowed_hosts =
      len_removed nat_list_cmp_total names_same x.allowed_hosts host in
      omega arith;
  allowed = λ q has. h.allowed q (has_removed nat_list_cmp_total names_same x.allowed_hosts host q
      has).1;
  namespaces = h.namespaces;
}

allowed_sound : (t : Configuration) (host : List ℕ) (linked : Bool) (at : ℕ)
    (found : Option SubsystemRow) → subsystem_row t at ≡ found
    → IsTrue (map.contains_key t.settings.hosts host) → (linked ≡ true → allows_any found ≡ false)
    → IsPlaced t → IsSound t → IsSound (allowed_in t host linked found)
allowed_sound t host linked at None e there listed h s = s
allowed_sound t host linked at (Some x) e there listed h s =
    subsystem_sound t x.nqn (put_allowed host linked)
    (λ y f k. allow_one t.settings.hosts (paths_of t.disks) x.nqn host linked y there
    (λ is. ap (λ (z : SubsystemRow). z.allow_any_host) (some_same y x (sym f
    ∙ own_subsystem t at x e h)) ∙ listed is) k) s

pub allow_stands : (t : Configuration) (at : ℕ) (host : List ℕ) (linked : Bool)
    → IsTrue (map.contains_key t.settings.hosts host) → (linked ≡ true
    → allows_any (subsystem_row t at) ≡ false) → IsStanding t
    → IsStanding (allowed_in t host linked (subsystem_row t at))
allow_stands t at host linked there listed h = record {
  placed = allowed_stands t host linked (subsystem_row t at) h.placed;
  sound = allowed_sound t host linked at (subsystem_row t at) refl there listed h.placed h.sound;
}

link_one : (m : FinMap name_order SubsystemRow) (nqn : List ℕ) (linked : Bool) (p : PortRow)
    → IsTrue (map.contains_key m nqn) → (linked ≡ true → p.trtype ≡ codes "loop") → PortStands m p
    → PortStands m (put_link nqn linked p)
link_one m nqn true p there loop h = record {
  addresses = addresses_beside p (map.insert p.links nqn tt) p.groups h.addresses;
  group_low = h.group_low;
  group_high = h.group_high;
  links = λ q has. ⊎_elim
      (λ (is : q ≡ nqn). ap (λ (k : List ℕ). map.contains_key m k) is ∙ there)
      (λ had. h.links q had)
      (has_inserted nat_list_cmp_total names_same p.links nqn tt q has);
  loop = λ q has. loop refl;
}
link_one m nqn false p there loop h = record {
  addresses = addresses_beside p (map.remove p.links nqn) p.groups h.addresses;
  group_low = h.group_low;
  group_high = h.group_high;
  links = λ q has. h.links q (has_removed nat_list_cmp_total names_same p.links nqn q has).1;
  loop = λ q has. h.loop q (has_removed nat_list_cmp_total names_same p.links nqn q has).1;
}

linked_sound : (t : Configuration) (linked : Bool) (port at : ℕ) (p : Option PortRow)
    (x : Option SubsystemRow) → port_row t port ≡ p → subsystem_row t at ≡ x
    → (linked ≡ true → IsTrue (is_loop p)) → IsPlaced t → IsSound t
    → IsSound (linked_in t linked p x)
linked_sound t linked port at None x e f loop h s = s
linked_sound t linked port at (Some p) None e f loop h s = s
linked_sound t linked port at (Some p) (Some x) e f loop h s =
    on_port_sound t p.id (put_link x.nqn linked)
    (λ q g k. link_one t.settings.subsystems x.nqn linked q (ap is_some (own_subsystem t at x f h))
    (λ is. ap (λ (z : PortRow). z.trtype) (some_same q p (sym g ∙ own_port t port p e h))
    ∙ (bytes_eq-Decides p.trtype (codes "loop")).0 (loop is)) k) s

pub link_stands : (t : Configuration) (port at : ℕ) (linked : Bool)
    → (linked ≡ true → IsTrue (is_loop (port_row t port))) → IsStanding t
    → IsStanding (linked_in t linked (port_row t port) (subsystem_row t at))
link_stands t port at linked loop h = record {
  placed = linked_stands t linked (port_row t port) (subsystem_row t at) h.placed;
  sound = linked_sound t linked port at (port_row t port) (subsystem_row t at) refl refl loop
      h.placed h.sound;
}

pub either_way : {E : Type 0} (r : Result (Unit {0}) E) (old new u : Configuration)
    → OnOk r (new ≡ u) → OnErr r (new ≡ old) → IsStanding u → IsStanding old → IsStanding new
either_way (Ok x) old new u ok err k h = subst (λ (t : Configuration). IsStanding t) (sym ok) k
either_way (Err x) old new u ok err k h = subst (λ (t : Configuration). IsStanding t) (sym err) h
