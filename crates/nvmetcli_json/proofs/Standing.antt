-- The rows of a tree that stands are texts, so that it can be saved, and what is saved is read.
use Rattle.std.proofs.Common.{◌≡◌, ◌≤◌, ◌<◌, ◌^◌, ℕ, suc, Bool, true, false, cond, ◌&&◌, ◌||◌, ◌==◌, ltb, List, [], ◌∷◌, length, Option, Some, None, refl, ap, ◌∙◌, codes, arith}
use Rattle.std.proofs.lemmas.Bool.{lt-ltb, eqb-true}
use Rattle.std.proofs.lemmas.Slice.Eq.{bytes_eq-Decides}
use Rattle.std.specs.Cmp.{nat_cmp_total}
use Rattle.std.specs.Cmp.Lexicographic.{nat_list_cmp_total}
use Rattle.std.specs.FinMap as maps
use Rattle.std.specs.FinMap.{FinMap}
use Rattle.std.specs.List.{list_all}
use Rattle.std.specs.Option.{is_some}
use Rattle.std.specs.Str.{bytes_eq}
use Rattle.configfs_rows.specs.Nqns.{is_name_byte, is_nqn, name_order}
use Rattle.configfs_rows.specs.Values.{is_text, is_text_byte, is_path, is_short, one_of, is_trtype}
use Rattle.configfs_rows.specs.declared.limits.TheConstants.{SERIAL_LEN, MODEL_LEN, TRADDR_LEN, TRSVCID_LEN}
use Rattle.configfs_rows.specs.declared.subsystems.SubsystemRow.{SubsystemRow}
use Rattle.configfs_rows.specs.declared.ports.PortRow.{PortRow}
use Rattle.configfs_rows.specs.declared.ports.Address.TheVariants as address
use Rattle.configfs_tree.specs.Sound.{is_kept_path, SubsystemStands, PortStands, Hosts, is_address}
use Rattle.configfs_tree.specs.Standing.{IsStanding}
use Rattle.configfs_tree.specs.declared.configuration.Configuration.{Configuration}
use Rattle.nvmetcli_json.specs.Saving.{set_is_text, namespaces_are_text, subsystem_is_text, port_is_text}
use Rattle.nvmetcli_json.specs.Written.{namespace_reads, subsystem_reads, group_reads, addresses_read, has_short_id, port_reads, tree_reads}
use Rattle.nvmetcli_json.proofs.Shown.{left_true, right_true}
use Rattle.nvmetcli_json.proofs.Sorted.{all_entries, all_values, all_keys}

-- ---- texts
all_of : {X : Type 0} (p q : X → Bool) → ((x : X) → p x ≡ true → q x ≡ true) → (xs : List X)
    → list_all p xs ≡ true → list_all q xs ≡ true
all_of p q each [] all = refl
all_of p q each (x ∷ xs) all = rw (each x (left_true (p x) (list_all p xs) all)) (all_of p q each xs
    (right_true (p x) (list_all p xs) all))

name_byte_is_text : (b : ℕ) → is_name_byte b ≡ true → is_text_byte b ≡ true
name_byte_is_text b is = grind arith

pub nqn_is_text : (nqn : List ℕ) → is_nqn nqn ≡ true → is_text nqn ≡ true
unfolding is_nqn
nqn_is_text nqn is = all_of is_name_byte is_text_byte name_byte_is_text nqn (right_true (ltb 0
    (length nqn) && _) (list_all is_name_byte nqn) is)

no_more : (n : ℕ) → suc n ≡ 0 → ⊥
no_more n is = omega (arith, is)

empty_is_text : (value : List ℕ) → (length value == 0) ≡ true → is_text value ≡ true
empty_is_text [] is = refl
empty_is_text (b ∷ value) is = absurd (no_more (length value) (eqb-true (length (b ∷ value)) 0 is))

or_cases : (a b : Bool) (P : Type 0) → (a || b) ≡ true → (a ≡ true → P) → (b ≡ true → P) → P
or_cases true b P is f g = f refl
or_cases false b P is f g = g is

word_is_text : (value : List ℕ) (words : List (List ℕ)) → list_all is_text words ≡ true
    → one_of value words ≡ true → is_text value ≡ true
word_is_text value [] all is = absurd cc
word_is_text value (word ∷ words) all is = or_cases (bytes_eq value word) (one_of value words)
    (is_text value ≡ true) is
    (λ same. ap is_text ((bytes_eq-Decides value word).0 same)
    ∙ left_true (is_text word) (list_all is_text words) all)
    (λ rest. word_is_text value words (right_true (is_text word) (list_all is_text words) all) rest)

trtype_is_text : (value : List ℕ) → is_address address.Trtype value ≡ true → is_text value ≡ true
trtype_is_text value is = or_cases (length value == 0) (is_trtype value) (is_text value ≡ true) is
    (empty_is_text value)
    (word_is_text value (codes "loop" ∷ codes "tcp" ∷ codes "rdma" ∷ codes "fc" ∷ []) refl)

abbrev families : List (List ℕ)
families = codes "ipv4" ∷ codes "ipv6" ∷ codes "ib" ∷ codes "fc" ∷ codes "loop" ∷ codes "pcie" ∷ []

adrfam_is_text : (value : List ℕ) → is_address address.Adrfam value ≡ true → is_text value ≡ true
adrfam_is_text value is = or_cases (length value == 0) (one_of value families)
    (is_text value ≡ true) is (empty_is_text value) (word_is_text value families refl)

treq_is_text : (value : List ℕ) → is_address address.Treq value ≡ true → is_text value ≡ true
treq_is_text value is = word_is_text value (codes "not specified" ∷ codes "required"
    ∷ codes "not required" ∷ []) refl is

short_is_text : (value : List ℕ) (most : ℕ) → is_short value most ≡ true → is_text value ≡ true
short_is_text value most is = left_true (is_text value) _ is

-- ---- rows
path_is_text : (path : Option (List ℕ)) → is_kept_path path ≡ true → set_is_text path ≡ true
path_is_text None is = refl
path_is_text (Some path) is = left_true (is_text path) (is_path path) is

subsystem_texts : (hosts : Hosts) (paths : List (List ℕ)) (sub : List ℕ) (s : SubsystemRow)
    → SubsystemStands hosts paths sub s → subsystem_is_text s ≡ true
unfolding subsystem_is_text namespaces_are_text
subsystem_texts hosts paths sub s stands =
    let spaces = all_entries nat_cmp_total (λ e. set_is_text e.1.device_path) s.namespaces
    (λ nsid n is. path_is_text n.device_path (stands.namespaces nsid n is).path) in
    let model = short_is_text s.model_name MODEL_LEN (left_true
    (is_short s.model_name MODEL_LEN) _ stands.model_name) in
    rw (short_is_text s.serial SERIAL_LEN stands.serial, model) spaces

port_texts : (subsystems : FinMap name_order SubsystemRow) (p : PortRow) → PortStands subsystems p
    → port_is_text p ≡ true
unfolding port_is_text
port_texts subsystems p stands = rw (
  trtype_is_text p.trtype (stands.addresses address.Trtype),
  adrfam_is_text p.adrfam (stands.addresses address.Adrfam),
  short_is_text p.traddr TRADDR_LEN (stands.addresses address.Traddr),
  short_is_text p.trsvcid TRSVCID_LEN (stands.addresses address.Trsvcid),
  treq_is_text p.treq (stands.addresses address.Treq),
) refl

-- ---- trees
pub subsystems_are_text : (t : Configuration) → IsStanding t
    → list_all subsystem_is_text (maps.values t.settings.subsystems) ≡ true
subsystems_are_text t stands = all_values nat_list_cmp_total subsystem_is_text t.settings.subsystems
    (λ sub s is. subsystem_texts _ _ sub s (stands.sound.subsystems sub s is))

pub ports_are_text : (t : Configuration) → IsStanding t
    → list_all port_is_text (maps.values t.settings.ports) ≡ true
ports_are_text t stands = all_values nat_cmp_total port_is_text t.settings.ports
    (λ id p is. port_texts _ p (stands.sound.ports id p is))

-- ---- what is saved of it is read
hosts_are_nqns : (t : Configuration) → IsStanding t
    → list_all is_nqn (maps.keys t.settings.hosts) ≡ true
hosts_are_nqns t stands = all_keys nat_list_cmp_total is_nqn t.settings.hosts stands.sound.hosts

below_limit : (n most : ℕ) → n ≤ most → most < 2 ^ 32 → ltb n (2 ^ 32) ≡ true
below_limit n most is small = lt-ltb n (2 ^ 32) (omega (arith, is, small))

nsids_small : 2048 < 2 ^ 32
nsids_small = omega arith

groups_small : 128 < 2 ^ 32
groups_small = omega arith

subsystem_is_read : (t : Configuration) → IsStanding t → (sub : List ℕ) (s : SubsystemRow)
    → maps.get t.settings.subsystems sub ≡ Some s → subsystem_reads s ≡ true
unfolding subsystem_reads
subsystem_is_read t stands sub s is =
    let row = stands.sound.subsystems sub s is in
    let own : s.nqn ≡ sub = stands.placed.subsystems.own_key sub s is in
    let name : is_nqn s.nqn ≡ true = ap is_nqn own ∙ row.nqn in
    let model = short_is_text s.model_name MODEL_LEN (left_true
    (is_short s.model_name MODEL_LEN) _ row.model_name) in
    let hosts = all_keys nat_list_cmp_total is_nqn s.allowed_hosts
    (λ host has. stands.sound.hosts host (row.allowed host has)) in
    let spaces = all_entries nat_cmp_total namespace_reads s.namespaces (λ nsid n found.
    let n_stands = row.namespaces nsid n found in
    rw (below_limit nsid 2048 n_stands.nsid_high nsids_small)
    (path_is_text n.device_path n_stands.path)) in
    rw (name, short_is_text s.serial SERIAL_LEN row.serial, model, hosts) spaces

if_set_is_text : (value : List ℕ) (b : Bool) → is_text value ≡ true
    → set_is_text (cond b None (Some value)) ≡ true
if_set_is_text value true is = refl
if_set_is_text value false is = is

-- all of a port but its number
abbrev values_read : PortRow → Bool
values_read p = addresses_read p && list_all group_reads (maps.entries p.groups)
    && list_all is_nqn (maps.keys p.links)

values_are_read : (t : Configuration) → IsStanding t → (id : ℕ) (p : PortRow)
    → maps.get t.settings.ports id ≡ Some p → values_read p ≡ true
unfolding addresses_read
values_are_read t stands id p is =
    let row = stands.sound.ports id p is in
    let trtype = if_set_is_text p.trtype (length p.trtype == 0) (trtype_is_text p.trtype
    (row.addresses address.Trtype)) in
    let groups = all_entries nat_cmp_total group_reads p.groups (λ group state found. below_limit
    group 128 (row.group_high group state found) groups_small) in
    let links = all_keys nat_list_cmp_total is_nqn p.links (λ sub has. linked_is_nqn t stands sub
    (maps.get t.settings.subsystems sub) refl (row.links sub has)) in
    rw (
      adrfam_is_text p.adrfam (row.addresses address.Adrfam),
      short_is_text p.traddr TRADDR_LEN (row.addresses address.Traddr),
      treq_is_text p.treq (row.addresses address.Treq),
      short_is_text p.trsvcid TRSVCID_LEN (row.addresses address.Trsvcid),
      trtype,
      groups,
    ) links where
      linked_is_nqn : (t : Configuration) → IsStanding t → (sub : List ℕ)
          (found : Option SubsystemRow) → maps.get t.settings.subsystems sub ≡ found
          → is_some found ≡ true → is_nqn sub ≡ true
      linked_is_nqn t stands sub None is has = absurd cc
      linked_is_nqn t stands sub (Some s) is has = (stands.sound.subsystems sub s is).nqn

all_both : {X : Type 0} (p q r : X → Bool) → ((x : X) → p x ≡ true → q x ≡ true → r x ≡ true)
    → (xs : List X) → list_all p xs ≡ true → list_all q xs ≡ true → list_all r xs ≡ true
all_both p q r each [] a b = refl
all_both p q r each (x ∷ xs) a b = rw (each x (left_true (p x) (list_all p xs) a) (left_true (q x)
    (list_all q xs) b)) (all_both p q r each xs (right_true (p x) (list_all p xs) a) (right_true
    (q x) (list_all q xs) b))

port_is_read : (p : PortRow) → has_short_id p ≡ true → values_read p ≡ true → port_reads p ≡ true
unfolding port_reads
port_is_read p short values = rw short values

-- of a tree that stands, whose ports have numbers of 16 bits
pub standing_reads : (t : Configuration) → IsStanding t
    → list_all has_short_id (maps.values t.settings.ports) ≡ true → tree_reads t ≡ true
unfolding tree_reads
standing_reads t stands short =
    let subsystems = all_values nat_list_cmp_total subsystem_reads t.settings.subsystems
    (subsystem_is_read t stands) in
    let values = all_values nat_cmp_total values_read t.settings.ports (values_are_read t stands) in
    rw (hosts_are_nqns t stands, subsystems)
    (all_both has_short_id values_read port_reads port_is_read
    (maps.values t.settings.ports) short values)
