-- A subsystem is made again: its attributes, the hosts that it allows, and its namespaces.
use Rattle.std.proofs.Common.{◌≡◌, ◌<◌, ◌==◌, ◌||◌, ◌&&◌, ◌+◌, not, nat_lt, nat_le, ℕ, zero, suc, Bool, true, false, IsTrue, T, List, [], ◌∷◌, ◌++◌, map as each, length, replicate, slice_index, Some, None, is_some, refl, sym, ap, subst, ◌∙◌, append_assoc, arith}
use mathlib.Core.Logic.{⊎_elim}
use Rattle.std.proofs.lemmas.Bool.{cases_Bool, lt-ltb}
use Rattle.std.proofs.lemmas.Bool.Decides.{nat_tests}
use Rattle.std.proofs.lemmas.List.{append-nil, length-append}
use Rattle.std.proofs.lemmas.Slice.Eq.{bytes_eq-Decides}
use Rattle.std.specs.Str.{bytes_eq}
use Rattle.std.specs.Cmp.Lexicographic.{nat_list_cmp_total}
use Rattle.std.specs.FinMap as map
use Rattle.std.specs.FinMap.{find, put, is_sorted}
use Rattle.configfs_rows.specs.Nqns.{name_order, discovery_nqn}
use Rattle.configfs_rows.specs.Places.{lowest_free}
use Rattle.configfs_rows.specs.Values.{is_short, same_bool}
use Rattle.configfs_rows.specs.Subsystems.{fresh_subsystem, put_in_subsystem, put_allowed}
use Rattle.configfs_rows.specs.declared.limits.TheConstants.{MAX_SUBSYSTEMS, SERIAL_LEN, MODEL_LEN}
use Rattle.configfs_rows.specs.declared.disks.DiskRow.{DiskRow}
use Rattle.configfs_rows.specs.declared.subsystems.SubsystemRow.{SubsystemRow}
use Rattle.configfs_rows.specs.declared.subsystems.SubsystemPut.TheVariants.{AllowAnyHost, Serial, ModelName}
use Rattle.configfs_tree.specs.Asked.{subsystem_place_taken}
use Rattle.configfs_tree.specs.Outcome.{Accepts, unless_stands, on_subsystem}
use Rattle.configfs_tree.specs.Table.{mkdir_subsystem, set_attr_allow_any_host, set_attr_model, set_attr_serial}
use Rattle.configfs_tree.specs.declared.edits.Attr.TheVariants as attr
use Rattle.configfs_tree.specs.declared.edits.Change.{Change}
use Rattle.configfs_tree.specs.declared.edits.Folder.TheVariants as folder
use Rattle.configfs_tree.specs.declared.configuration.Configuration.{Configuration}
use Rattle.link_rules.specs.Table.{allow_host}
use Rattle.nvmetcli_json.specs.Edits.{made, set, allowed}
use Rattle.nvmetcli_json.specs.Laws.{made_tree, edited}
use Rattle.nvmetcli_json.specs.Saving.{flag_text}
use Rattle.nvmetcli_json.specs.Written.{flat}
use Rattle.nvmetcli_json.proofs.Shown.{left_true, right_true}
use Rattle.nvmetcli_json.proofs.Sorted.{put_last, find_none, find_here}
use Rattle.json_round_trip.proofs.Steps.{Hosts, Rows, Ports, tree_of, Goes, goes_one, goes_nowhere, goes_then, passes, in_sub}
use Rattle.json_round_trip.proofs.Spaces.{or_same, with_sub, sub_found, sub_put}

-- no controller is attached
pub none_attached : (n at : ℕ) → slice_index (replicate n 0) at ≡ 0
none_attached zero at = refl
none_attached (suc n) zero = refl
none_attached (suc n) (suc at) = none_attached n at

fits : (size most attached : ℕ) → nat_le size most ≡ true → attached ≡ 0
    → (nat_lt most size || nat_lt 0 attached) ≡ false
fits size most attached short none = grind (arith, nat_tests)

fits_filled : (size most attached : ℕ) → nat_le size most ≡ true → nat_lt 0 size ≡ true
    → attached ≡ 0 → ((size == 0) || nat_lt most size || nat_lt 0 attached) ≡ false
fits_filled size most attached short filled none = grind (arith, nat_tests)

same_bool_is : (a b : Bool) → same_bool a b ≡ true → a ≡ b
same_bool_is true true e = refl
same_bool_is true false e = absurd cc
same_bool_is false true e = absurd cc
same_bool_is false false e = refl

module _ (hosts : Hosts) (m : Rows) (ports : Ports) where
  pub subsystem_added : (nqn : List ℕ) (count : ℕ) (disks : List DiskRow)
      → bytes_eq nqn discovery_nqn ≡ false → map.get m nqn ≡ None → map.len m < MAX_SUBSYSTEMS
      → edited (tree_of hosts m ports count disks) (made (folder.Subsystem nqn))
      ≡ Some (with_sub hosts m ports (fresh_subsystem nqn (lowest_free MAX_SUBSYSTEMS 0
      (subsystem_place_taken (tree_of hosts m ports count disks)))) count disks)
  unfolding mkdir_subsystem
  subsystem_added nqn count disks other new room =
      ap made_tree (passes _ _ (other, (ap is_some new, (ap not (lt-ltb _ _ room), tt))))

  -- the edit of one attribute, which may stand already
  attr_or_same : (s : SubsystemRow) (f : SubsystemRow → SubsystemRow) (count : ℕ)
      (disks : List DiskRow) (b : Bool) (change : Change) → (b ≡ true → s ≡ f s) → s.nqn ≡ (f s).nqn
      → made_tree (unless_stands b (with_sub hosts m ports s count disks)
      (Accepts (on_subsystem (with_sub hosts m ports s count disks) s.nqn f) change))
      ≡ Some (tree_of hosts (map.insert m s.nqn (f s)) ports count disks)
  attr_or_same s f count disks b change same own =
      let t = with_sub hosts m ports s count disks in
      let is : on_subsystem t s.nqn f
      ≡ tree_of hosts (map.insert m s.nqn (f s)) ports count disks =
      ap (λ (x : Rows). tree_of hosts x ports count disks) (sub_put hosts m ports s f) in
      ap (λ (u : Configuration). made_tree (unless_stands b t (Accepts u change))) is
      ∙ or_same b _ _ change (λ e. ap (λ (r : SubsystemRow). tree_of hosts (map.insert m s.nqn r)
      ports count disks) (same e))

  pub serial_set : (s : SubsystemRow) (count : ℕ) (disks : List DiskRow) (value : List ℕ)
      → is_short value SERIAL_LEN ≡ true
      → edited (with_sub hosts m ports s count disks) (set (folder.Subsystem s.nqn) attr.Serial value)
      ≡ Some (with_sub hosts m ports (record s { serial = value }) count disks)
  unfolding set_attr_serial
  serial_set s count disks value short =
      ap made_tree (in_sub _ s.nqn s _ (sub_found hosts m ports s)
      ∙ passes _ _ (
        fits (length value) SERIAL_LEN _ (right_true _ _ short)
            (none_attached MAX_SUBSYSTEMS s.at),
        tt,
      ))
      ∙ attr_or_same s (put_in_subsystem (Serial value)) count disks _ _
      (λ e. ap (λ (v : List ℕ). record s { serial = v }) ((bytes_eq-Decides s.serial value).0 e)) refl

  pub model_set : (s : SubsystemRow) (count : ℕ) (disks : List DiskRow) (value : List ℕ)
      → (is_short value MODEL_LEN && nat_lt 0 (length value)) ≡ true
      → edited (with_sub hosts m ports s count disks)
      (set (folder.Subsystem s.nqn) attr.ModelName value)
      ≡ Some (with_sub hosts m ports (record s { model_name = value }) count disks)
  unfolding set_attr_model
  model_set s count disks value short =
      ap made_tree (in_sub _ s.nqn s _ (sub_found hosts m ports s)
      ∙ passes _ _ (
        fits_filled (length value) MODEL_LEN _
            (right_true _ _ (left_true _ (nat_lt 0 (length value)) short))
            (right_true (is_short value MODEL_LEN) _ short) (none_attached MAX_SUBSYSTEMS s.at),
        tt,
      ))
      ∙ attr_or_same s (put_in_subsystem (ModelName value)) count disks _ _
      (λ e. ap (λ (v : List ℕ). record s { model_name = v })
      ((bytes_eq-Decides s.model_name value).0 e)) refl

  pub any_set : (s : SubsystemRow) (count : ℕ) (disks : List DiskRow) (any : Bool)
      → map.len s.allowed_hosts ≡ 0
      → edited (with_sub hosts m ports s count disks)
      (set (folder.Subsystem s.nqn) attr.AllowAnyHost (flag_text any))
      ≡ Some (with_sub hosts m ports (record s { allow_any_host = any }) count disks)
  unfolding set_attr_allow_any_host
  any_set s count disks true none =
      ap made_tree (in_sub _ s.nqn s _ (sub_found hosts m ports s)
      ∙ passes _ _ (refl, (ap (nat_lt 0) none, tt)))
      ∙ attr_or_same s (put_in_subsystem (AllowAnyHost true)) count disks _ _
      (λ e. ap (λ (v : Bool). record s { allow_any_host = v })
      (same_bool_is s.allow_any_host true e)) refl
  any_set s count disks false none =
      ap made_tree (in_sub _ s.nqn s _ (sub_found hosts m ports s)
      ∙ passes _ _ (refl, (refl, tt)))
      ∙ attr_or_same s (put_in_subsystem (AllowAnyHost false)) count disks _ _
      (λ e. ap (λ (v : Bool). record s { allow_any_host = v })
      (same_bool_is s.allow_any_host false e)) refl

  host_allowed : (s : SubsystemRow) (count : ℕ) (disks : List DiskRow) (host : List ℕ)
      → map.contains_key hosts host ≡ true → map.get s.allowed_hosts host ≡ None
      → s.allow_any_host ≡ false
      → edited (with_sub hosts m ports s count disks) (allowed s.nqn host)
      ≡ Some (with_sub hosts m ports (record s {
        allowed_hosts = map.insert s.allowed_hosts host tt;
      }) count disks)
  unfolding allow_host
  host_allowed s count disks host there new listed =
      ap made_tree (in_sub _ s.nqn s _ (sub_found hosts m ports s)
      ∙ passes _ _ (ap not there, (ap is_some new, (listed, tt))))
      ∙ ap (λ (x : Rows). Some (tree_of hosts x ports count disks))
      (sub_put hosts m ports s (put_allowed host true))

  -- the hosts that it allows, one after another in the order of their names
  pub hosts_allowed : (xs done : List (List ℕ × Unit {0})) (s : SubsystemRow) (count : ℕ)
      (disks : List DiskRow) (all : Hosts) → map.entries s.allowed_hosts ≡ done
      → map.entries all ≡ done ++ xs → (IsTrue s.allow_any_host → map.len all ≡ 0)
      → ((host : List ℕ) → IsTrue (map.contains_key all host)
      → IsTrue (map.contains_key hosts host))
      → Goes (with_sub hosts m ports s count disks)
      (flat (λ host. allowed s.nqn host ∷ []) (each (λ e. e.0) xs))
      (with_sub hosts m ports (record s { allowed_hosts = all }) count disks)
  unfolding flat
  hosts_allowed [] done s count disks all now is any there =
      let same : s.allowed_hosts ≡ all = map.same_entries_map _ _ (now ∙ (sym (append-nil done)
      ∙ sym is)) in
      goes_nowhere _ _ (ap (λ (hs : Hosts). with_sub hosts m ports (record s {
        allowed_hosts = hs;
      }) count disks) same)
  hosts_allowed (x ∷ xs) done s count disks all now is any there =
      let sorted : T (is_sorted name_order (done ++ x ∷ xs)) = subst (λ es. T
      (is_sorted name_order es)) is (map.entries_sorted all) in
      let new : map.get s.allowed_hosts x.0 ≡ None = map.get-entries s.allowed_hosts x.0
      ∙ (ap (find name_order x.0) now ∙ find_none nat_list_cmp_total done x xs sorted) in
      let found : map.contains_key all x.0 ≡ true = ap is_some (map.get-entries all x.0
      ∙ (ap (find name_order x.0) is ∙ find_here nat_list_cmp_total done x xs sorted)) in
      let now' : map.entries (map.insert s.allowed_hosts x.0 tt) ≡ done ++ x ∷ [] =
      map.entries-insert nat_list_cmp_total s.allowed_hosts x.0 tt
      ∙ (ap (put name_order x.0 tt) now ∙ put_last nat_list_cmp_total done x xs sorted) in
      let size : map.len all ≡ length (done ++ x ∷ xs) = map.len-entries all ∙ ap length is in
      let more : length (done ++ x ∷ xs) ≡ length done + length (x ∷ xs) =
      length-append done (x ∷ xs) in
      let listed : s.allow_any_host ≡ false = ⊎_elim
      (λ (e : s.allow_any_host ≡ true). absurd (let none = any e in omega arith)) (λ e. e)
      (cases_Bool s.allow_any_host) in
      goes_then _ _ _ (allowed s.nqn x.0 ∷ [])
      (flat (λ host. allowed s.nqn host ∷ []) (each (λ e. e.0) xs))
      (goes_one _ _ _ (host_allowed s count disks x.0 (there x.0 found) new listed))
      (hosts_allowed xs (done ++ x ∷ []) (record s {
        allowed_hosts = map.insert s.allowed_hosts x.0 tt;
      }) count disks all now' (is ∙ sym (append_assoc done (x ∷ []) xs)) any there)
