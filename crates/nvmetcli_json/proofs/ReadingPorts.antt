-- What is saved is read: ports, and a whole tree.
use Rattle.std.proofs.Common.{◌≡◌, ℕ, ◌^◌, Bool, true, false, ◌&&◌, cond, ltb, eqb, List, [], ◌∷◌, ◌++◌, length, Option, Some, None, Ok, refl, ap, ◌∙◌, codes}
use Rattle.std.specs.List.{list_all}
use Rattle.std.specs.FinMap as maps
use Rattle.std.specs.FinMap.{FinMap}
use Rattle.std.specs.Ordering.{nat_cmp}
use Rattle.serde_json.specs.Data.{Data, string, object, member, no_members}
use Rattle.configfs_rows.specs.Nqns.{is_nqn}
use Rattle.configfs_rows.specs.Values.{is_text}
use Rattle.configfs_tree.specs.declared.edits.Attr.TheVariants as attr
use Rattle.configfs_tree.specs.declared.edits.Folder.TheVariants as folder
use Rattle.sqe_cqe.specs.declared.rows.Ana.{Ana}
use Rattle.sqe_cqe.specs.Anas.{ana_text}
use Rattle.sqe_cqe.specs.declared.rows.Ana.TheVariants as state
use Rattle.configfs_rows.specs.declared.ports.PortRow.{PortRow}
use Rattle.configfs_tree.specs.declared.configuration.Configuration.{Configuration}
use Rattle.link_rules.specs.declared.edits.Edit.{Edit}
use Rattle.nvmetcli_json.specs.Kinds.{number_in}
use Rattle.nvmetcli_json.specs.Edits.{in_array, each_from, set_some, linked}
use Rattle.nvmetcli_json.specs.Loading.{some_value, host_in, subsystem_in, state_in, state_members, group_in, group_members, linked_in, referral_in, addresses_in, address_members, unless_empty, port_in, port_members, edits_in, members_in}
use Rattle.nvmetcli_json.specs.Saving.{list_of, set_member, set_is_text, if_set, group_data, group_entry, groups_data, names_data, addresses_data, port_data, host_data, subsystem_data, tree_data}
use Rattle.nvmetcli_json.specs.Written.{flat, host_written, subsystem_written, subsystem_reads, group_written, group_entry_written, group_reads, addresses_read, port_reads, port_written, tree_reads, tree_written}
use Rattle.nvmetcli_json.proofs.Steps.{goes_to}
use Rattle.nvmetcli_json.proofs.Reading.{nqn_read, number_read, some_read, must_read, may_read, may_miss, in_members, left_true, right_true, list_read, host_read, subsystem_read}

-- ---- groups
state_is_text : (s : Ana) → is_text (ana_text s) ≡ true
state_is_text state.Optimized = refl
state_is_text state.NonOptimized = refl
state_is_text state.Inaccessible = refl
state_is_text state.PersistentLoss = refl
state_is_text state.Changing = refl

state_read : (s : Ana) → state_in (object (member (codes "state") (string
    (ana_text s)) no_members)) ≡ Ok (Some (ana_text s))
unfolding state_in
state_read s = in_members state_members _ ∙ may_read (codes "state") None some_value _ _ _ refl
    (some_read (ana_text s) (state_is_text s))

group_read : (id group : ℕ) (s : Ana) → ltb group (2 ^ 32) ≡ true
    → group_in id (group_data group s) ≡ Ok (group_written id group s)
unfolding group_in group_data group_written
group_read id group s small =
    in_members (group_members id) _
    ∙ goes_to _ _ _ _ (must_read (codes "grpid") (number_in (2 ^ 32)) _ _ group refl (number_read
    (2 ^ 32) group small))
    (goes_to _ _ _ _ (may_read (codes "ana") None state_in _ _ _ refl (state_read s)) refl)

groups_read : (id : ℕ) (m : FinMap nat_cmp Ana) → list_all group_reads (maps.entries m) ≡ true
    → in_array (group_in id) (groups_data m) ≡ Ok (flat (group_entry_written id) (maps.entries m))
unfolding groups_data
groups_read id m all = list_read (group_in id) group_entry (group_entry_written id) group_reads
    (maps.entries m) (λ e h. group_read id e.0 e.1 h) all

-- ---- addresses
abbrev front : ℕ → PortRow → List Edit
front id p =
    set_some (folder.Port id) attr.Adrfam (Some p.adrfam)
    ++ set_some (folder.Port id) attr.Traddr (Some p.traddr)
    ++ set_some (folder.Port id) attr.Treq (Some p.treq)
    ++ set_some (folder.Port id) attr.Trsvcid (Some p.trsvcid)

abbrev address_object : PortRow → Option (List ℕ) → Data
address_object p o = object (
    member (codes "adrfam") (string p.adrfam)
    (member (codes "traddr") (string p.traddr)
    (member (codes "treq") (string p.treq)
    (member (codes "trsvcid") (string p.trsvcid)
    (set_member (codes "trtype") o
    no_members)))))

pub record AreTexts (p : PortRow) : Type 0 where
  pub adrfam : is_text p.adrfam ≡ true
  pub traddr : is_text p.traddr ≡ true
  pub treq : is_text p.treq ≡ true
  pub trsvcid : is_text p.trsvcid ≡ true

address_read_by : (id : ℕ) (p : PortRow) (o : Option (List ℕ)) → AreTexts p → set_is_text o ≡ true
    → address_members id (address_object p o) ≡ Ok (front id p
    ++ set_some (folder.Port id) attr.Trtype (unless_empty o))
address_read_by id p None texts is =
    goes_to _ _ _ _ (may_read (codes "adrfam") None some_value _ _ _ refl
    (some_read p.adrfam texts.adrfam))
    (goes_to _ _ _ _ (may_read (codes "traddr") None some_value _ _ _ refl
    (some_read p.traddr texts.traddr))
    (goes_to _ _ _ _ (may_read (codes "treq") None some_value _ _ _ refl
    (some_read p.treq texts.treq))
    (goes_to _ _ _ _ (may_read (codes "trsvcid") None some_value _ _ _ refl
    (some_read p.trsvcid texts.trsvcid))
    (goes_to _ _ _ _ (may_miss (codes "trtype") None some_value _ refl) refl))))
address_read_by id p (Some trtype) texts is =
    goes_to _ _ _ _ (may_read (codes "adrfam") None some_value _ _ _ refl
    (some_read p.adrfam texts.adrfam))
    (goes_to _ _ _ _ (may_read (codes "traddr") None some_value _ _ _ refl
    (some_read p.traddr texts.traddr))
    (goes_to _ _ _ _ (may_read (codes "treq") None some_value _ _ _ refl
    (some_read p.treq texts.treq))
    (goes_to _ _ _ _ (may_read (codes "trsvcid") None some_value _ _ _ refl
    (some_read p.trsvcid texts.trsvcid))
    (goes_to _ _ _ _ (may_read (codes "trtype") None some_value _ _ _ refl
    (some_read trtype is)) refl))))

stays : (t : Bool) (value : List ℕ) → eqb (length value) 0 ≡ t
    → unless_empty (cond t None (Some value)) ≡ cond t None (Some value)
stays true value e = refl
stays false value e = rw e refl

addresses_are_read : (p : PortRow) → addresses_read p ≡ true
    → addresses_in p.id (addresses_data p) ≡ Ok (front p.id p
    ++ set_some (folder.Port p.id) attr.Trtype (if_set p.trtype))
unfolding addresses_in addresses_data addresses_read
addresses_are_read p reads =
    let four = left_true (is_text p.adrfam && is_text p.traddr && is_text p.treq
    && is_text p.trsvcid) (set_is_text (if_set p.trtype)) reads in
    let trtype = right_true (is_text p.adrfam && is_text p.traddr && is_text p.treq
    && is_text p.trsvcid) (set_is_text (if_set p.trtype)) reads in
    let trsvcid = right_true (is_text p.adrfam && is_text p.traddr
    && is_text p.treq) (is_text p.trsvcid) four in
    let three = left_true (is_text p.adrfam && is_text p.traddr
    && is_text p.treq) (is_text p.trsvcid) four in
    let treq = right_true (is_text p.adrfam && is_text p.traddr) (is_text p.treq) three in
    let two = left_true (is_text p.adrfam && is_text p.traddr) (is_text p.treq) three in
    let texts : AreTexts p = record {
      adrfam = left_true (is_text p.adrfam)
          (is_text p.traddr) two;
      traddr = right_true (is_text p.adrfam)
          (is_text p.traddr) two;
      treq = treq;
      trsvcid = trsvcid;
    } in
    in_members (address_members p.id) _
    ∙ address_read_by p.id p (if_set p.trtype) texts trtype
    ∙ ap (λ (o : Option (List ℕ)). Ok (front p.id p
    ++ set_some (folder.Port p.id) attr.Trtype o)) (stays (eqb
    (length p.trtype) 0) p.trtype refl)

-- ---- ports
linked_read : (id : ℕ) (sub : List ℕ) → is_nqn sub ≡ true → linked_in id (string sub) ≡ Ok
    (linked id sub ∷ [])
unfolding linked_in
linked_read id sub is = goes_to _ _ _ _ (nqn_read sub is) refl

no_referrals : in_array referral_in (list_of string []) ≡ Ok []
unfolding in_array each_from
no_referrals = refl

pub port_read : (p : PortRow) → port_reads p ≡ true → port_in (port_data p) ≡ Ok (port_written p)
unfolding port_in port_data port_written port_reads names_data
port_read p reads =
    let groups_all = list_all group_reads (maps.entries p.groups) in
    let links_all = list_all is_nqn (maps.keys p.links) in
    let three = left_true (ltb p.id 65536 && addresses_read p && groups_all) links_all reads in
    let links = right_true (ltb p.id 65536 && addresses_read p && groups_all) links_all reads in
    let groups = right_true (ltb p.id 65536 && addresses_read p) groups_all three in
    let two = left_true (ltb p.id 65536 && addresses_read p) groups_all three in
    let small = left_true (ltb p.id 65536) (addresses_read p) two in
    let addresses = right_true (ltb p.id 65536) (addresses_read p) two in
    in_members port_members _
    ∙ goes_to _ _ _ _ (must_read (codes "portid") (number_in 65536) _ _ p.id refl
    (number_read 65536 p.id small))
    (goes_to _ _ _ _ (may_read (codes "addr") [] (addresses_in p.id) _ _ _ refl
    (addresses_are_read p addresses))
    (goes_to _ _ _ _ (may_read (codes "ana_groups") [] (in_array (group_in p.id)) _ _ _ refl
    (groups_read p.id p.groups groups))
    (goes_to _ _ _ _ (may_read (codes "referrals") [] (in_array referral_in) _ _ _ refl
    no_referrals)
    (goes_to _ _ _ _ (may_read (codes "subsystems") [] (in_array (linked_in p.id)) _ _ _ refl
    (list_read (linked_in p.id) string (λ sub. linked p.id sub
    ∷ []) is_nqn (maps.keys p.links) (linked_read p.id) links)) refl))))

-- ---- the whole
pub tree_read : (t : Configuration) → tree_reads t ≡ true
    → edits_in (tree_data t) ≡ Ok (tree_written t)
unfolding edits_in tree_data tree_written tree_reads
tree_read t reads =
    let hosts_all = list_all is_nqn (maps.keys t.settings.hosts) in
    let subsystems_all = list_all subsystem_reads (maps.values t.settings.subsystems) in
    let ports_all = list_all port_reads (maps.values t.settings.ports) in
    let two = left_true (hosts_all && subsystems_all) ports_all reads in
    let ports = right_true (hosts_all && subsystems_all) ports_all reads in
    let hosts = left_true hosts_all subsystems_all two in
    let subsystems = right_true hosts_all subsystems_all two in
    in_members members_in _
    ∙ goes_to _ _ _ _ (may_read (codes "hosts") [] (in_array host_in) _ _ _ refl
    (list_read host_in host_data host_written is_nqn
    (maps.keys t.settings.hosts) host_read hosts))
    (goes_to _ _ _ _ (may_read (codes "subsystems") [] (in_array subsystem_in) _ _ _ refl
    (list_read subsystem_in subsystem_data subsystem_written subsystem_reads
    (maps.values t.settings.subsystems) subsystem_read subsystems))
    (goes_to _ _ _ _ (may_read (codes "ports") [] (in_array port_in) _ _ _ refl
    (list_read port_in port_data port_written port_reads
    (maps.values t.settings.ports) port_read ports)) refl))
