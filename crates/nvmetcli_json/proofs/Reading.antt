-- What is saved is read: hosts, and subsystems with their namespaces.
use Rattle.std.proofs.Common.{◌≡◌, ℕ, zero, suc, ◌+◌, ◌-◌, ◌/◌, ◌%◌, ◌^◌, ◌<◌, arith, Bool, true, false, ◌&&◌, cond, ltb, List, [], ◌∷◌, ◌++◌, map, Option, Some, None, Ok, refl, ◌∙◌, codes}
use Rattle.std.specs.Fmt.{decimal}
use Rattle.std.specs.List.{list_all}
use Rattle.std.specs.FinMap as maps
use Rattle.std.specs.FinMap.{FinMap}
use Rattle.std.specs.Ordering.{nat_cmp}
use Rattle.uuid.specs.Text.{hyphenated_text, lower, hyphen, hex_digit, nibble, digit_place, is_hyphen_place, by_index}
use Rattle.serde_json.specs.Data.{Data, string, object, member, no_members, Members}
use Rattle.serde_json.specs.Find.{get}
use Rattle.serde_json.specs.View.{items_of}
use Rattle.configfs_rows.specs.Nqns.{is_nqn}
use Rattle.configfs_rows.specs.Values.{is_text, is_text_byte}
use Rattle.std.proofs.lemmas.Bool.{ltb-true, lt-ltb}
use Rattle.configfs_rows.specs.declared.namespaces.NamespaceRow.{NamespaceRow}
use Rattle.configfs_rows.specs.declared.subsystems.SubsystemRow.{SubsystemRow}
use Rattle.link_rules.specs.declared.edits.Edit.{Edit}
use Rattle.nvmetcli_json.specs.Faults.{Found, under, must, may, in_object}
use Rattle.nvmetcli_json.specs.Kinds.{nqn_in, value_in, number_in, flag_in}
use Rattle.nvmetcli_json.specs.Edits.{Loads, followed_by, each_from, in_array, allowed}
use Rattle.nvmetcli_json.specs.Loading.{some_value, host_in, host_members, device_in, device_members, namespace_in, namespace_members, ana_in, attributes_in, subsystem_attributes, allowed_in, subsystem_in, subsystem_members}
use Rattle.nvmetcli_json.specs.Saving.{count, list_of, flag_number, flag_text, host_data, set_member, uuid_data, device_data, namespace_data, namespace_entry, attributes_data, names_data, namespaces_data, subsystem_data, set_is_text}
use Rattle.nvmetcli_json.specs.Written.{flat, host_written, device_written, namespace_written, entry_written, subsystem_written, namespace_reads, subsystem_reads}
use Rattle.nvmetcli_json.proofs.Steps.{goes_to, under_ok}

-- ---- kinds
pub nqn_read : (s : List ℕ) → is_nqn s ≡ true → nqn_in (string s) ≡ Ok s
unfolding nqn_in
nqn_read s is = rw is refl

value_read : (s : List ℕ) → is_text s ≡ true → value_in (string s) ≡ Ok s
unfolding value_in
value_read s is = rw is refl

digits_read : (n : ℕ) → value_in (count n) ≡ Ok (decimal n)
unfolding value_in
digits_read n = refl

pub number_read : (limit n : ℕ) → ltb n limit ≡ true → number_in limit (count n) ≡ Ok n
unfolding number_in
number_read limit n is = rw is refl

flag_read : (b : Bool) → flag_in (count (flag_number b)) ≡ Ok b
unfolding flag_in
flag_read true = refl
flag_read false = refl

-- ---- members
pub must_read : {A : Type 0} (name : List ℕ) (read : Data → Found A) (d e : Data) (x : A)
    → get name d ≡ Some e → read e ≡ Ok x → must name read d ≡ Ok x
unfolding must under
must_read name read d e x there is = rw (there, is) refl

pub may_read : {A : Type 0} (name : List ℕ) (missing : A) (read : Data → Found A) (d e : Data)
    (x : A) → get name d ≡ Some e → read e ≡ Ok x → may name missing read d ≡ Ok x
unfolding may under
may_read name missing read d e x there is = rw (there, is) refl

pub may_miss : {A : Type 0} (name : List ℕ) (missing : A) (read : Data → Found A) (d : Data)
    → get name d ≡ None → may name missing read d ≡ Ok missing
unfolding may under
may_miss name missing read d none = rw none refl

pub in_members : {A : Type 0} (read : Data → Found A) (ms : Members)
    → in_object read (object ms) ≡ read (object ms)
unfolding in_object
in_members read ms = refl

pub some_read : (s : List ℕ) → is_text s ≡ true → some_value (string s) ≡ Ok (Some s)
some_read s is = goes_to _ _ _ _ (value_read s is) refl

-- ---- arrays
pub left_true : (a b : Bool) → (a && b) ≡ true → a ≡ true
left_true true b e = refl
left_true false b e = e

pub right_true : (a b : Bool) → (a && b) ≡ true → b ≡ true
right_true true b e = e
right_true false b e = cc

joined : (es fs : List Edit) (a b : Loads) → a ≡ Ok es → b ≡ Ok fs → followed_by a b ≡ Ok (es ++ fs)
unfolding followed_by
joined es fs a b e f = rw (e, f) refl

each_read : {X : Type 0} (read : Data → Loads) (shows : X → Data) (writes : X → List Edit) (p : X
    → Bool) → ((x : X) → p x ≡ true → read (shows x) ≡ Ok (writes x)) → (n : ℕ) (xs : List X)
    → list_all p xs ≡ true
    → each_from read n (items_of (map shows xs)) ≡ Ok (flat writes xs)
unfolding each_from flat
each_read read shows writes p each n [] all = refl
each_read read shows writes p each n (x ∷ xs) all =
    joined (writes x) (flat writes xs) _ _ (under_ok _ (read (shows x)) (writes x) (each x
    (left_true (p x) (list_all p xs) all)))
    (each_read read shows writes p each (suc n) xs (right_true (p x) (list_all p xs) all))

pub list_read : {X : Type 0} (read : Data → Loads) (shows : X → Data) (writes : X
    → List Edit) (p : X → Bool) (xs : List X) → ((x : X) → p x ≡ true → read (shows x) ≡ Ok
    (writes x)) → list_all p xs ≡ true → in_array read (list_of shows xs) ≡ Ok (flat writes xs)
unfolding in_array
list_read read shows writes p xs each all = each_read read shows writes p each 0 xs all

-- ---- hosts
pub host_read : (nqn : List ℕ) → is_nqn nqn ≡ true → host_in (host_data nqn) ≡ Ok (host_written nqn)
unfolding host_in host_data
host_read nqn is = in_members host_members _ ∙ goes_to _ _ _ _ (must_read (codes "nqn") nqn_in _
    (string nqn) nqn refl (nqn_read nqn is)) refl

-- ---- namespaces
pub all_push : {X : Type 0} (p : X → Bool) (xs : List X) (x : X) → list_all p xs ≡ true → p x ≡ true
    → list_all p (xs ++ x ∷ []) ≡ true
all_push p [] x all here = rw here refl
all_push p (y ∷ xs) x all here = rw (left_true (p y) (list_all p xs) all) (all_push p xs x
    (right_true (p y) (list_all p xs) all) here)

all_by_index : {X : Type 0} (p : X → Bool) (n : ℕ) (f : ℕ → X) → ((k : ℕ) → p (f k) ≡ true)
    → list_all p (by_index n f) ≡ true
unfolding by_index
all_by_index p zero f each = refl
all_by_index p (suc n) f each = all_push p (by_index n f) (f n) (all_by_index p n f each) (each n)

half_small : (b : ℕ) → b / 16 % 16 < 16
half_small b = omega arith

half_low : (b : ℕ) → b % 16 < 16
half_low b = omega arith

nibble_small : (t : Bool) (b : ℕ) → cond t (b / 16 % 16) (b % 16) < 16
nibble_small true b = half_small b
nibble_small false b = half_low b

digit_is_text : (t : Bool) (d : ℕ) → ltb d 10 ≡ t → d < 16 → is_text_byte (cond t (48 + d)
    (lower + d - 10)) ≡ true
digit_is_text true d is lt =
    let small : d < 10 = ltb-true d 10 is in
    rw (lt-ltb 31 (48 + d) (omega arith), lt-ltb (48 + d) 127 (omega arith)) refl
digit_is_text false d is lt = rw (
  lt-ltb 31 (lower + d - 10) (omega arith),
  lt-ltb (lower + d - 10)
      127 (omega arith),
) refl

place_is_text : (t : Bool) (d : ℕ) → d < 16 → is_text_byte (cond t hyphen
    (hex_digit lower d)) ≡ true
place_is_text true d lt = refl
place_is_text false d lt = digit_is_text (ltb d 10) d refl lt

pub uuid_is_text : (bytes : List ℕ) → is_text (hyphenated_text lower bytes) ≡ true
uuid_is_text bytes = all_by_index is_text_byte 36 (λ k. cond (is_hyphen_place k) hyphen
    (hex_digit lower (nibble bytes (digit_place k)))) (λ k. place_is_text (is_hyphen_place k)
    (nibble bytes (digit_place k)) (nibble_small _ _))

device_read_by : (sub : List ℕ) (nsid : ℕ) (nguid uuid : List ℕ) (path : Option (List ℕ))
    → set_is_text path ≡ true
    → device_members sub nsid (object (member (codes "nguid") (uuid_data nguid) (set_member
    (codes "path") path (member (codes "uuid") (uuid_data uuid) no_members))))
    ≡ Ok (device_written sub nsid (record {
      device_path = path;
      disk = None;
      uuid = uuid;
      nguid
          = nguid;
      group = 1;
      enabled = false;
    }))
device_read_by sub nsid nguid uuid None is =
    goes_to _ _ _ _ (may_read (codes "nguid") None some_value _ _ _ refl (some_read _
    (uuid_is_text nguid)))
    (goes_to _ _ _ _ (may_miss (codes "path") None some_value _ refl)
    (goes_to _ _ _ _ (may_read (codes "uuid") None some_value _ _ _ refl (some_read _
    (uuid_is_text uuid))) refl))
device_read_by sub nsid nguid uuid (Some path) is =
    goes_to _ _ _ _ (may_read (codes "nguid") None some_value _ _ _ refl (some_read _
    (uuid_is_text nguid)))
    (goes_to _ _ _ _ (may_read (codes "path") None some_value _ _ _ refl (some_read path is))
    (goes_to _ _ _ _ (may_read (codes "uuid") None some_value _ _ _ refl (some_read _
    (uuid_is_text uuid))) refl))

device_read : (sub : List ℕ) (nsid : ℕ) (n : NamespaceRow) → set_is_text n.device_path ≡ true
    → device_in sub nsid (device_data n) ≡ Ok (device_written sub nsid n)
unfolding device_in device_data
device_read sub nsid n is = in_members (device_members sub nsid) _
    ∙ device_read_by sub nsid n.nguid n.uuid n.device_path is

digits_given : (n : ℕ) → some_value (count n) ≡ Ok (Some (decimal n))
digits_given n = goes_to _ _ _ _ (digits_read n) refl

pub namespace_read : (sub : List ℕ) (nsid : ℕ) (n : NamespaceRow) → ltb nsid (2 ^ 32) ≡ true
    → set_is_text n.device_path ≡ true → namespace_in sub (namespace_data nsid n) ≡ Ok
    (namespace_written sub nsid n)
unfolding namespace_in namespace_data namespace_written
namespace_read sub nsid n small is =
    in_members (namespace_members sub) _
    ∙ goes_to _ _ _ _ (must_read (codes "nsid") (number_in (2 ^ 32)) _ _ nsid refl (number_read
    (2 ^ 32) nsid small))
    (goes_to _ _ _ _ (may_miss (codes "ana") None ana_in _ refl)
    (goes_to _ _ _ _ (may_read (codes "ana_grpid") None some_value _ _ _ refl
    (digits_given n.group))
    (goes_to _ _ _ _ (may_read (codes "device") [] (device_in sub nsid) _ _ _ refl
    (device_read sub nsid n is))
    (goes_to _ _ _ _ (may_read (codes "enable") false flag_in _ _ _ refl
    (flag_read n.enabled)) refl))))

entry_read : (sub : List ℕ) (e : ℕ × NamespaceRow) → namespace_reads e ≡ true
    → namespace_in sub (namespace_entry e) ≡ Ok (entry_written sub e)
entry_read sub e is = namespace_read sub e.0 e.1 (left_true (ltb e.0 (2 ^ 32))
    (set_is_text e.1.device_path) is) (right_true (ltb e.0 (2 ^ 32))
    (set_is_text e.1.device_path) is)

namespaces_read : (sub : List ℕ) (m : FinMap nat_cmp NamespaceRow)
    → list_all namespace_reads (maps.entries m) ≡ true
    → in_array (namespace_in sub) (namespaces_data m) ≡ Ok (flat (entry_written sub)
    (maps.entries m))
unfolding namespaces_data
namespaces_read sub m all = list_read (namespace_in sub) namespace_entry
    (entry_written sub) namespace_reads (maps.entries m) (entry_read sub) all

-- ---- subsystems
flag_is_text : (b : Bool) → is_text (flag_text b) ≡ true
flag_is_text true = refl
flag_is_text false = refl

allowed_read : (sub host : List ℕ) → is_nqn host ≡ true → allowed_in sub (string host) ≡ Ok
    (allowed sub host ∷ [])
unfolding allowed_in
allowed_read sub host is = goes_to _ _ _ _ (nqn_read host is) refl

pub subsystem_read : (s : SubsystemRow) → subsystem_reads s ≡ true
    → subsystem_in (subsystem_data s) ≡ Ok (subsystem_written s)
unfolding subsystem_in subsystem_data subsystem_written subsystem_reads attributes_in
    attributes_data names_data
subsystem_read s reads =
    let hosts_all = list_all is_nqn (maps.keys s.allowed_hosts) in
    let spaces_all = list_all namespace_reads (maps.entries s.namespaces) in
    let front = left_true (is_nqn s.nqn && is_text s.serial && is_text s.model_name
    && hosts_all) spaces_all reads in
    let spaces = right_true (is_nqn s.nqn && is_text s.serial && is_text s.model_name
    && hosts_all) spaces_all reads in
    let hosts = right_true (is_nqn s.nqn && is_text s.serial
    && is_text s.model_name) hosts_all front in
    let three = left_true (is_nqn s.nqn && is_text s.serial && is_text s.model_name) hosts_all front
    in
    let model = right_true (is_nqn s.nqn && is_text s.serial) (is_text s.model_name) three in
    let two = left_true (is_nqn s.nqn && is_text s.serial) (is_text s.model_name) three in
    let serial = right_true (is_nqn s.nqn) (is_text s.serial) two in
    let name = left_true (is_nqn s.nqn) (is_text s.serial) two in
    in_members subsystem_members _
    ∙ goes_to _ _ _ _ (must_read (codes "nqn") nqn_in _ _ s.nqn refl (nqn_read s.nqn name))
    (goes_to _ _ _ _ (may_read (codes "allowed_hosts") [] (in_array (allowed_in s.nqn)) _ _ _ refl
    (list_read (allowed_in s.nqn) string (λ host. allowed s.nqn host
    ∷ []) is_nqn (maps.keys s.allowed_hosts) (allowed_read s.nqn) hosts))
    (goes_to _ _ _ _ (may_read (codes "attr") [] (attributes_in s.nqn) _ _ _ refl (in_members
    (subsystem_attributes s.nqn) _
    ∙ goes_to _ _ _ _ (may_read (codes "allow_any_host") None some_value _ _ _ refl (some_read _
    (flag_is_text s.allow_any_host)))
    (goes_to _ _ _ _ (may_read (codes "model") None some_value _ _ _ refl
    (some_read s.model_name model))
    (goes_to _ _ _ _ (may_read (codes "serial") None some_value _ _ _ refl
    (some_read s.serial serial)) refl))))
    (goes_to _ _ _ _ (may_read (codes "namespaces") [] (in_array (namespace_in s.nqn)) _ _ _ refl
    (namespaces_read s.nqn s.namespaces spaces)) refl)))
