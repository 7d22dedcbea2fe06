-- Every edit that is read may be made: its attribute is one of its folder's, and its value is a
-- text.
use Rattle.std.proofs.Common.{◌≡◌, ◌<◌, ◌/◌, ◌%◌, ◌^◌, ◌+◌, ℕ, zero, suc, Bool, true, false, cond, ◌&&◌, ◌==◌, List, [], ◌∷◌, ◌++◌, length, Option, Some, None, is_some, Ok, Err, refl, subst, arith, codes}
use Rattle.std.specs.Fmt.{decimal, digits, digits_onto, digit_glyph}
use Rattle.std.specs.List.{list_all}
use Rattle.std.proofs.lemmas.Bool.{lt-ltb}
use Rattle.serde_json.specs.Data.{Data, Items, no_items, item}
use Rattle.serde_json.specs.Find.{get, as_array, as_object}
use Rattle.configfs_rows.specs.Values.{is_text, is_text_byte}
use Rattle.configfs_tree.specs.Asked.{fits}
use Rattle.configfs_tree.specs.declared.edits.Attr.{Attr}
use Rattle.configfs_tree.specs.declared.edits.Attr.TheVariants as attr
use Rattle.configfs_tree.specs.declared.edits.Folder.{Folder}
use Rattle.configfs_tree.specs.declared.edits.Folder.TheVariants as folder
use Rattle.link_rules.specs.Table.{is_fitting}
use Rattle.link_rules.specs.declared.edits.Edit.{Edit}
use Rattle.nvmetcli_json.specs.Edits.{Loads, followed_by, each_from, each_of, in_array, set_some}
use Rattle.nvmetcli_json.specs.Faults.{Found, misfit, and_then, ◌>>=◌, under, read_some, must, may, in_object}
use Rattle.nvmetcli_json.specs.Kinds.{nqn_in, value_in, if_value, text_of, whole_of, number_in, flag_in}
use Rattle.nvmetcli_json.specs.Loading.{some_value, attribute, host_in, host_members, device_in, device_members, some_number, ana_in, ana_members, enabling, namespace_in, namespace_members, attributes_in, subsystem_attributes, allowed_in, subsystem_in, subsystem_members, unless_empty, addresses_in, address_members, made_group, state_in, state_members, group_in, group_members, linked_in, referral_in, port_in, port_members, members_in, edits_in}
use Rattle.nvmetcli_json.specs.Saving.{set_is_text}
use Rattle.nvmetcli_json.specs.declared.error.JsonError.{JsonError}

-- ---- what holds of each value that is read
abbrev Holds : {X : Type 0} → (X → Type 0) → Found X → Type 0
Holds {X} P r = (x : X) → r ≡ Ok x → P x

ok_same : {X : Type 0} (r : Found X) (x y : X) → r ≡ Ok x → r ≡ Ok y → x ≡ y
ok_same r x y is also = cc

holds_ok : {X : Type 0} (P : X → Type 0) (x : X) → P x → Holds P (Ok x)
holds_ok P x h y is = subst P (ok_same (Ok x) x y refl is) h

holds_err : {X : Type 0} (P : X → Type 0) (e : JsonError) → Holds P (Err e)
holds_err P e y is = absurd cc

holds_then : {X Y : Type 0} (P : X → Type 0) (Q : Y → Type 0) (r : Found X) (f : X → Found Y)
    → Holds P r → ((x : X) → P x → Holds Q (f x)) → Holds Q (r >>= f)
unfolding and_then
holds_then P Q (Ok x) f h each = each x (h x refl)
holds_then P Q (Err e) f h each = holds_err Q e

holds_under : {X : Type 0} (P : X → Type 0) (step : List ℕ) (r : Found X) → Holds P r
    → Holds P (under step r)
unfolding under
holds_under P step (Ok x) h = h
holds_under P step (Err e) h = holds_err P _

holds_some : {X : Type 0} (P : X → Type 0) (missing : Found X) (read : Data
    → Found X) (o : Option Data) → Holds P missing → ((e : Data) → Holds P (read e))
    → Holds P (read_some missing read o)
holds_some P missing read None h each = h
holds_some P missing read (Some e) h each = each e

holds_may : {X : Type 0} (P : X → Type 0) (name : List ℕ) (missing : X) (read : Data
    → Found X) (d : Data) → P missing → ((e : Data) → Holds P (read e))
    → Holds P (may name missing read d)
unfolding may
holds_may P name missing read d h each = holds_under P _ _ (holds_some P (Ok missing) read
    (get name d) (holds_ok P missing h) each)

holds_if : {X : Type 0} (P : X → Type 0) (b : Bool) (r : Found X) → Holds P r
    → Holds P (cond b r misfit)
holds_if P true r h = h
holds_if P false r h = holds_err P _

holds_object : {X : Type 0} (P : X → Type 0) (read : Data → Found X) (d : Data) → Holds P (read d)
    → Holds P (in_object read d)
unfolding in_object
holds_object P read d h = holds_if P (is_some (as_object d)) (read d) h

abbrev Any : {X : Type 0} → X → Type 0
Any x = Unit {0}

any : {X : Type 0} (r : Found X) → Holds Any r
any r x is = tt

-- ---- texts
glyph_is_text : (d : ℕ) → d < 10 → is_text_byte (digit_glyph false d) ≡ true
glyph_is_text d small = rw (
  lt-ltb d 10 small,
  lt-ltb 31 (48 + d) (omega arith),
  lt-ltb (48 + d) 127
      (omega (arith, small)),
) refl

last_digit : (n : ℕ) → n % 10 < 10
last_digit n = omega arith

either_way : (b : Bool) (xs ys : List ℕ) → list_all is_text_byte xs ≡ true
    → list_all is_text_byte ys ≡ true
    → list_all is_text_byte (cond b xs ys) ≡ true
either_way true xs ys h i = h
either_way false xs ys h i = i

digits_on : (k n : ℕ) (acc : List ℕ) → list_all is_text_byte acc ≡ true
    → list_all is_text_byte (digits_onto k 10 false n acc) ≡ true
digits_on zero n acc h = h
digits_on (suc k) n acc h =
    let more : list_all is_text_byte (digit_glyph false (n % 10) ∷ acc) ≡ true = rw (glyph_is_text
    (n % 10) (last_digit n)) h in
    either_way (n / 10 == 0) (digit_glyph false (n % 10) ∷ acc) (digits_onto k 10 false (n / 10)
    (digit_glyph false (n % 10) ∷ acc)) more
    (digits_on k (n / 10) (digit_glyph false (n % 10) ∷ acc) more)

decimal_is_text : (n : ℕ) → is_text (decimal n) ≡ true
unfolding digits
decimal_is_text n = digits_on 64 n [] refl

abbrev IsText : List ℕ → Type 0
IsText s = is_text s ≡ true

abbrev SetText : Option (List ℕ) → Type 0
SetText o = set_is_text o ≡ true

text_if : (s : List ℕ) (b : Bool) → is_text s ≡ b → Holds IsText (cond b (Ok s) misfit)
text_if s true is = holds_ok IsText s is
text_if s false is = holds_err IsText _

value_given : (o : Option (List ℕ)) (n : Option ℕ) → Holds IsText (if_value o n)
value_given None None = holds_err IsText _
value_given None (Some n) = holds_ok IsText (decimal n) (decimal_is_text n)
value_given (Some s) n = text_if s (is_text s) refl

value_text : (d : Data) → Holds IsText (value_in d)
unfolding value_in
value_text d = value_given (text_of d) (whole_of d)

some_text : (d : Data) → Holds SetText (some_value d)
some_text d = holds_then IsText SetText (value_in d) _ (value_text d) (λ s h. holds_ok SetText
    (Some s) h)

attribute_text : (name : List ℕ) (d : Data) → Holds SetText (attribute name d)
attribute_text name d = holds_may SetText name None some_value d refl some_text

number_text : (limit : ℕ) (d : Data) → Holds SetText (some_number limit d)
number_text limit d = holds_then Any SetText (number_in limit d) _ (any _) (λ n h. holds_ok SetText
    (Some (decimal n)) (decimal_is_text n))

ana_text : (d : Data) → Holds SetText (ana_in d)
unfolding ana_in
ana_text d = holds_object SetText ana_members d (holds_may SetText (codes "grpid") None (some_number
    (2 ^ 32)) d refl (number_text (2 ^ 32)))

state_text : (d : Data) → Holds SetText (state_in d)
unfolding state_in
state_text d = holds_object SetText state_members d (attribute_text (codes "state") d)

unless_if : (s : List ℕ) (b : Bool) → is_text s ≡ true → SetText (cond b None (Some s))
unless_if s true h = refl
unless_if s false h = h

unless_text : (o : Option (List ℕ)) → SetText o → SetText (unless_empty o)
unless_text None h = refl
unless_text (Some s) h = unless_if s (length s == 0) h

-- ---- lists of edits
pub record AllFit (es : List Edit) : Type 0 where
  pub all : list_all is_fitting es ≡ true

none_fit : AllFit []
none_fit = record { all = refl }

one_fits : (e : Edit) (es : List Edit) → is_fitting e ≡ true → AllFit es → AllFit (e ∷ es)
one_fits e es is h = record { all = rw is h.all }

left_true : (a b : Bool) → (a && b) ≡ true → a ≡ true
left_true true b is = refl
left_true false b is = is

right_true : (a b : Bool) → (a && b) ≡ true → b ≡ true
right_true true b is = is
right_true false b is = cc

joined : (es fs : List Edit) → AllFit es → AllFit fs → AllFit (es ++ fs)
joined [] fs h i = i
joined (e ∷ es) fs h i = one_fits e (es ++ fs) (left_true (is_fitting e)
    (list_all is_fitting es) h.all)
    (joined es fs (record { all = right_true (is_fitting e) (list_all is_fitting es) h.all }) i)

set_fits : (f : Folder) (a : Attr) (o : Option (List ℕ)) → fits f a ≡ true → SetText o
    → AllFit (set_some f a o)
set_fits f a None is h = none_fit
set_fits f a (Some s) is h = record { all = rw (is, h) refl }

followed_fit : (a b : Loads) → Holds AllFit a → Holds AllFit b → Holds AllFit (followed_by a b)
unfolding followed_by
followed_fit (Err e) b h i = holds_err AllFit e
followed_fit (Ok es) (Err e) h i = holds_err AllFit e
followed_fit (Ok es) (Ok fs) h i = holds_ok AllFit (es ++ fs) (joined es fs (h es refl) (i fs refl))

each_fits : (read : Data → Loads) → ((e : Data) → Holds AllFit (read e)) → (n : ℕ) (ds : Items)
    → Holds AllFit (each_from read n ds)
unfolding each_from
each_fits read each n no_items = holds_ok AllFit [] none_fit
each_fits read each n (item d ds) = followed_fit _ _ (holds_under AllFit _ (read d) (each d))
    (each_fits read each (suc n) ds)

items_fit : (read : Data → Loads) → ((e : Data) → Holds AllFit (read e)) → (o : Option Items)
    → Holds AllFit (each_of read o)
items_fit read each None = holds_err AllFit _
items_fit read each (Some ds) = each_fits read each 0 ds

array_fits : (read : Data → Loads) → ((e : Data) → Holds AllFit (read e)) → (d : Data)
    → Holds AllFit (in_array read d)
unfolding in_array
array_fits read each d = items_fit read each (as_array d)

list_fits : (name : List ℕ) (read : Data → Loads) → ((e : Data) → Holds AllFit (read e))
    → (d : Data) → Holds AllFit (may name [] (in_array read) d)
list_fits name read each d = holds_may AllFit name [] (in_array read) d none_fit
    (array_fits read each)

-- ---- hosts, subsystems and namespaces
host_fits : (d : Data) → Holds AllFit (host_in d)
unfolding host_in
host_fits d = holds_object AllFit host_members d (holds_then Any AllFit (must
    (codes "nqn") nqn_in d) _ (any _) (λ nqn h. holds_ok AllFit _ (record { all = refl })))

device_fits : (sub : List ℕ) (nsid : ℕ) (d : Data) → Holds AllFit (device_in sub nsid d)
unfolding device_in
device_fits sub nsid d = holds_object AllFit (device_members sub nsid) d
    (holds_then SetText AllFit _ _ (attribute_text (codes "nguid") d) (λ nguid a.
    holds_then SetText AllFit _ _ (attribute_text (codes "path") d) (λ path b.
    holds_then SetText AllFit _ _ (attribute_text (codes "uuid") d) (λ uuid c.
    holds_ok AllFit _ (joined _ _ (joined _ _ (set_fits
    (folder.Namespace sub nsid) attr.DeviceNguid nguid refl a) (set_fits
    (folder.Namespace sub nsid) attr.DevicePath path refl b))
    (set_fits (folder.Namespace sub nsid) attr.DeviceUuid uuid refl c))))))

enabling_fits : (sub : List ℕ) (nsid : ℕ) (b : Bool)
    → AllFit (enabling (folder.Namespace sub nsid) b)
enabling_fits sub nsid true = record { all = refl }
enabling_fits sub nsid false = none_fit

namespace_fits : (sub : List ℕ) (d : Data) → Holds AllFit (namespace_in sub d)
unfolding namespace_in
namespace_fits sub d = holds_object AllFit (namespace_members sub) d
    (holds_then Any AllFit (must (codes "nsid") (number_in (2 ^ 32)) d) _ (any _) (λ nsid h.
    holds_then SetText AllFit _ _ (holds_may SetText (codes "ana") None ana_in d refl ana_text)
    (λ ana a.
    holds_then SetText AllFit _ _ (holds_may SetText (codes "ana_grpid") ana some_value d a
    some_text) (λ group g.
    holds_then AllFit AllFit _ _ (holds_may AllFit (codes "device") []
    (device_in sub nsid) d none_fit (device_fits sub nsid)) (λ device b.
    holds_then Any AllFit (may (codes "enable") false flag_in d) _ (any _) (λ enable c.
    holds_ok AllFit _ (one_fits _ _ refl (joined _ _ (joined device _ b (set_fits
    (folder.Namespace sub nsid) attr.AnaGrpid group refl g))
    (enabling_fits sub nsid enable)))))))))

attributes_fit : (sub : List ℕ) (d : Data) → Holds AllFit (attributes_in sub d)
unfolding attributes_in
attributes_fit sub d = holds_object AllFit (subsystem_attributes sub) d
    (holds_then SetText AllFit _ _ (attribute_text (codes "allow_any_host") d) (λ host a.
    holds_then SetText AllFit _ _ (attribute_text (codes "model") d) (λ model b.
    holds_then SetText AllFit _ _ (attribute_text (codes "serial") d) (λ serial c.
    holds_ok AllFit _ (joined _ _ (joined _ _ (set_fits
    (folder.Subsystem sub) attr.AllowAnyHost host refl a) (set_fits
    (folder.Subsystem sub) attr.ModelName model refl b))
    (set_fits (folder.Subsystem sub) attr.Serial serial refl c))))))

allowed_fits : (sub : List ℕ) (d : Data) → Holds AllFit (allowed_in sub d)
unfolding allowed_in
allowed_fits sub d = holds_then Any AllFit (nqn_in d) _ (any _) (λ host h. holds_ok AllFit _
    (record { all = refl }))

subsystem_fits : (d : Data) → Holds AllFit (subsystem_in d)
unfolding subsystem_in
subsystem_fits d = holds_object AllFit subsystem_members d
    (holds_then Any AllFit (must (codes "nqn") nqn_in d) _ (any _) (λ sub h.
    holds_then AllFit AllFit _ _ (list_fits (codes "allowed_hosts") (allowed_in sub)
    (allowed_fits sub) d) (λ hosts a.
    holds_then AllFit AllFit _ _ (holds_may AllFit (codes "attr") [] (attributes_in sub) d none_fit
    (attributes_fit sub)) (λ attributes b.
    holds_then AllFit AllFit _ _ (list_fits (codes "namespaces") (namespace_in sub)
    (namespace_fits sub) d) (λ spaces c.
    holds_ok AllFit _ (one_fits _ _ refl (joined _ spaces (joined attributes hosts b a) c)))))))

-- ---- ports and ANA groups
addresses_fit : (id : ℕ) (d : Data) → Holds AllFit (addresses_in id d)
unfolding addresses_in
addresses_fit id d = holds_object AllFit (address_members id) d
    (holds_then SetText AllFit _ _ (attribute_text (codes "adrfam") d) (λ adrfam a.
    holds_then SetText AllFit _ _ (attribute_text (codes "traddr") d) (λ traddr b.
    holds_then SetText AllFit _ _ (attribute_text (codes "treq") d) (λ treq c.
    holds_then SetText AllFit _ _ (attribute_text (codes "trsvcid") d) (λ trsvcid e.
    holds_then SetText AllFit _ _ (attribute_text (codes "trtype") d) (λ trtype f.
    holds_ok AllFit _ (joined _ _ (joined _ _ (joined _ _ (joined _ _
    (set_fits (folder.Port id) attr.Adrfam adrfam refl a) (set_fits
    (folder.Port id) attr.Traddr traddr refl b))
    (set_fits (folder.Port id) attr.Treq treq refl c)) (set_fits
    (folder.Port id) attr.Trsvcid trsvcid refl e))
    (set_fits (folder.Port id) attr.Trtype (unless_empty trtype) refl (unless_text trtype f)))))))))

made_if : (id group : ℕ) (b : Bool)
    → AllFit (cond b [] (Rattle.nvmetcli_json.specs.Edits.made (folder.AnaGroup id group) ∷ []))
made_if id group true = none_fit
made_if id group false = record { all = refl }

group_fits : (id : ℕ) (d : Data) → Holds AllFit (group_in id d)
unfolding group_in
group_fits id d = holds_object AllFit (group_members id) d
    (holds_then Any AllFit (must (codes "grpid") (number_in (2 ^ 32)) d) _ (any _) (λ group h.
    holds_then SetText AllFit _ _ (holds_may SetText (codes "ana") None state_in d refl state_text)
    (λ state a.
    holds_ok AllFit _ (joined (made_group id group) _ (made_if id group (group == 1)) (set_fits
    (folder.AnaGroup id group) attr.AnaState state refl a)))))

linked_fits : (id : ℕ) (d : Data) → Holds AllFit (linked_in id d)
unfolding linked_in
linked_fits id d = holds_then Any AllFit (nqn_in d) _ (any _) (λ sub h. holds_ok AllFit _
    (record { all = refl }))

referral_fits : (d : Data) → Holds AllFit (referral_in d)
unfolding referral_in
referral_fits d = holds_ok AllFit [] none_fit

port_fits : (d : Data) → Holds AllFit (port_in d)
unfolding port_in
port_fits d = holds_object AllFit port_members d
    (holds_then Any AllFit (must (codes "portid") (number_in 65536) d) _ (any _) (λ id h.
    holds_then AllFit AllFit _ _ (holds_may AllFit (codes "addr") [] (addresses_in id) d none_fit
    (addresses_fit id)) (λ addresses a.
    holds_then AllFit AllFit _ _ (list_fits (codes "ana_groups") (group_in id) (group_fits id) d)
    (λ groups b.
    holds_then AllFit AllFit _ _ (list_fits (codes "referrals") referral_in referral_fits d)
    (λ referrals c.
    holds_then AllFit AllFit _ _ (list_fits (codes "subsystems") (linked_in id) (linked_fits id) d)
    (λ links e.
    holds_ok AllFit _ (one_fits _ _ refl (joined _ links (joined _ referrals
    (joined addresses groups a b) c) e))))))))

-- ---- the whole
pub edits_fit : (d : Data) → Holds AllFit (edits_in d)
unfolding edits_in
edits_fit d = holds_object AllFit members_in d
    (holds_then AllFit AllFit _ _ (list_fits (codes "hosts") host_in host_fits d) (λ hosts a.
    holds_then AllFit AllFit _ _ (list_fits (codes "subsystems") subsystem_in subsystem_fits d)
    (λ subsystems b.
    holds_then AllFit AllFit _ _ (list_fits (codes "ports") port_in port_fits d) (λ ports c.
    holds_ok AllFit _ (joined _ ports (joined hosts subsystems a b) c)))))
