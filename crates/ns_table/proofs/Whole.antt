-- Each word that an edit changes is in its patch.
use Rattle.std.proofs.Common.{◌≡◌, ◌<◌, ◌⊎◌, ℕ, ◌||◌, true, false, List, [], ◌∷◌, ◌++◌, map, get_or, Option, Some, None, is_some, IsTrue, refl, sym, ap, subst, ◌∙◌, inl, inr, arith}
use Rattle.std.proofs.lemmas.Bool.{cases_lt}
use Rattle.std.specs.List.{Contains, range_with_len}
use Rattle.std.proofs.lemmas.List.Elements.{Contains-append_left, Contains-append_right}
use Rattle.std.proofs.lemmas.List.FromFn.{get_or-map-range_with_len, length-map-range_with_len}
use Rattle.configfs_tree.specs.declared.configuration.Configuration.{Configuration}
use Rattle.configfs_tree.specs.declared.edits.Change.{Change}
use Rattle.configfs_tree.specs.declared.edits.Touched.{Touched}
use Rattle.configfs_tree.specs.declared.edits.Touched.TheVariants as touches
use Rattle.configfs_tree.specs.Links.{subsystem_row}
use Rattle.tree_target.specs.Views.{seen_of, space_in}
use Rattle.ns_table.specs.Positions.{Place, Shown, Ready, Changes, SubsystemStamp, PortStamp, State, Space}
use Rattle.ns_table.specs.Words.{space_words}
use Rattle.ns_table.specs.Changed.{TurnsOn, disk_in, stamps_after, is_pair}
use Rattle.ns_table.specs.Patches.{touched_places, shown_places, turned_places, port_places, subsystem_places, told_places, PatchesAreWhole}
use Rattle.configfs_rows.specs.declared.namespaces.NamespaceRow.{NamespaceRow}
use Rattle.configfs_tree.proofs.Positions.{subsystem_positions}
use Rattle.ns_table.proofs.ByPosition.{space-as-before}
use Rattle.ns_table.proofs.PatchParts.{part-same}
use Rattle.ns_table.proofs.Spaces.{stamp-again}
use Rattle.ns_table.proofs.Changing.{change_where_told, stamped, pair-that}

first-of : {X : Type 0} (x : X) (xs : List X) → Contains (x ∷ xs) x
first-of x xs = (0, omega arith, refl)

second-of : {X : Type 0} (y x : X) (xs : List X) → Contains (y ∷ x ∷ xs) x
second-of y x xs = (1, omega arith, refl)

-- in the four parts of what a change tells of
in-touched : (u : Configuration) (c : Change) (p : Place) → Contains (touched_places c.touched) p → Contains (told_places u c) p
in-touched u c p h = Contains-append_left (touched_places c.touched) (turned_places u c.namespace ++ (port_places c.ana_port ++ subsystem_places c.ana_subsystem)) p h

in-turned : (u : Configuration) (c : Change) (p : Place) → Contains (turned_places u c.namespace) p → Contains (told_places u c) p
in-turned u c p h = Contains-append_right (touched_places c.touched) (turned_places u c.namespace ++ (port_places c.ana_port ++ subsystem_places c.ana_subsystem)) p
    (Contains-append_left (turned_places u c.namespace) (port_places c.ana_port ++ subsystem_places c.ana_subsystem) p h)

in-port : (u : Configuration) (c : Change) (p : Place) → Contains (port_places c.ana_port) p → Contains (told_places u c) p
in-port u c p h = Contains-append_right (touched_places c.touched) (turned_places u c.namespace ++ (port_places c.ana_port ++ subsystem_places c.ana_subsystem)) p
    (Contains-append_right (turned_places u c.namespace) (port_places c.ana_port ++ subsystem_places c.ana_subsystem) p (Contains-append_left (port_places c.ana_port) (subsystem_places c.ana_subsystem) p h))

in-subsystem : (u : Configuration) (c : Change) (p : Place) → Contains (subsystem_places c.ana_subsystem) p → Contains (told_places u c) p
in-subsystem u c p h = Contains-append_right (touched_places c.touched) (turned_places u c.namespace ++ (port_places c.ana_port ++ subsystem_places c.ana_subsystem)) p
    (Contains-append_right (turned_places u c.namespace) (port_places c.ana_port ++ subsystem_places c.ana_subsystem) p (Contains-append_right (port_places c.ana_port) (subsystem_places c.ana_subsystem) p h))

-- where it is told of
touched-there : (u : Configuration) (c : Change) (p : Place) (touched : Touched) → c.touched ≡ touched → Contains (touched_places touched) p → Contains (told_places u c) p
touched-there u c p touched is h = in-touched u c p (subst (λ (k : Touched). Contains (touched_places k) p) (sym is) h)

turned-there : (u : Configuration) (c : Change) (p : Place) (s n : ℕ) → c.namespace ≡ Some (s, n) → Contains (turned_places u (Some (s, n))) p → Contains (told_places u c) p
turned-there u c p s n is h = in-turned u c p (subst (λ (k : Option (ℕ × ℕ)). Contains (turned_places u k) p) (sym is) h)

port-there : (u : Configuration) (c : Change) (p : Place) (port : ℕ) → c.ana_port ≡ Some port → Contains (port_places (Some port)) p → Contains (told_places u c) p
port-there u c p port is h = in-port u c p (subst (λ (k : Option ℕ). Contains (port_places k) p) (sym is) h)

subsystem-there : (u : Configuration) (c : Change) (p : Place) (sub : ℕ) → c.ana_subsystem ≡ Some sub → Contains (subsystem_places (Some sub)) p → Contains (told_places u c) p
subsystem-there u c p sub is h = in-subsystem u c p (subst (λ (k : Option ℕ). Contains (subsystem_places k) p) (sym is) h)

part-there : (s n part : ℕ) → part < 10 → Contains (map (Space s n) (range_with_len 0 10)) (Space s n part)
part-there s n part small =
    (part, omega (arith, length-map-range_with_len (Space s n) 0 10), get_or-map-range_with_len (Space s n) 0 10 part part (Space s n part) small (omega arith))

shown-there : (u : Configuration) (c : Change) (disk : ℕ) → TurnsOn u c disk → Contains (told_places u c) (Shown disk)
shown-there u c disk t =
    turned-there u c (Shown disk) t.at t.nsid t.told
    (subst (λ (o : Option ℕ). Contains (Space t.at t.nsid 10 ∷ shown_places o) (Shown disk)) (sym t.on) (second-of (Space t.at t.nsid 10) (Shown disk) []))

no-truth : false ≡ true → ⊥
no-truth e = cc

count-there : (u : Configuration) (c : Change) (a b : Option ℕ) → c.ana_port ≡ a → c.ana_subsystem ≡ b → IsTrue (is_some a || is_some b) → Contains (told_places u c) Changes
count-there u c (Some p) b is_a is_b h = port-there u c Changes p is_a (second-of (PortStamp p) Changes [])
count-there u c None (Some s) is_a is_b h = subsystem-there u c Changes s is_b (second-of (SubsystemStamp s) Changes [])
count-there u c None None is_a is_b h = absurd (no-truth h)

-- the stamp of a namespace
stamp-place : (u : Configuration) (c : Change) (s n : ℕ) → c.namespace ≡ Some (s, n) → Contains (told_places u c) (Space s n 10)
stamp-place u c s n is = turned-there u c (Space s n 10) s n is (first-of (Space s n 10) (shown_places (disk_in (space_in n (subsystem_row u s)))))

pub patch_whole : PatchesAreWhole
patch_whole t u c cs bs stamps serial ht hu tells keeps (Shown disk) within =
    elim (change_where_told t u c cs bs stamps serial ht hu tells keeps (Shown disk)) [ inl same ↦ inl same | inr told ↦ inr (shown-there u c disk told) ]
patch_whole t u c cs bs stamps serial ht hu tells keeps (Ready ctrl) within = inl refl
patch_whole t u c cs bs stamps serial ht hu tells keeps Changes within =
    elim (change_where_told t u c cs bs stamps serial ht hu tells keeps Changes) [ inl same ↦ inl same | inr told ↦ inr (count-there u c c.ana_port c.ana_subsystem refl refl told) ]
patch_whole t u c cs bs stamps serial ht hu tells keeps (SubsystemStamp sub) within =
    elim (change_where_told t u c cs bs stamps serial ht hu tells keeps (SubsystemStamp sub)) [
      | inl same ↦ inl same
      | inr told ↦ inr (subsystem-there u c (SubsystemStamp sub) sub told (first-of (SubsystemStamp sub) (Changes ∷ [])))
    ]
patch_whole t u c cs bs stamps serial ht hu tells keeps (PortStamp port) within =
    elim (change_where_told t u c cs bs stamps serial ht hu tells keeps (PortStamp port)) [
      | inl same ↦ inl same
      | inr told ↦ inr (port-there u c (PortStamp port) port told (first-of (PortStamp port) (Changes ∷ [])))
    ]
patch_whole t u c cs bs stamps serial ht hu tells keeps (State port group) within =
    elim (change_where_told t u c cs bs stamps serial ht hu tells keeps (State port group)) [
      | inl same ↦ inl same
      | inr told ↦ elim told [
        | inl mine ↦ inr (touched-there u c (State port group) (touches.Group port group) mine (first-of (State port group) []))
        | inr one ↦ inr (touched-there u c (State port group) (touches.Port port) one.0 (subst (λ (g : ℕ). Contains (State port 1 ∷ []) (State port g)) (sym one.1) (first-of (State port 1) [])))
      ]
    ]
patch_whole t u c cs bs stamps serial ht hu tells keeps (Space s n part) within =
    elim (cases_lt part 10) [
      | inl small ↦ elim (space-as-before t u c.touched s n (subsystem_positions t ht.placed) (subsystem_positions u hu.placed) tells.rows) [
        | inl same ↦ inl (
            ap (λ (o : Option NamespaceRow). get_or (space_words (seen_of bs o) ((stamps_after serial c stamps).space s n)) part 0) same
            ∙ part-same (seen_of bs (space_in n (subsystem_row t s))) ((stamps_after serial c stamps).space s n) (stamps.space s n) part small
            )
        | inr mine ↦ inr (touched-there u c (Space s n part) (touches.Namespace s n) mine (part-there s n part small))
      ]
      | inr large ↦
          let ten : part ≡ 10 = omega (arith, within.1) in
          let seen_u = seen_of bs (space_in n (subsystem_row u s)) in
          let seen_t = seen_of bs (space_in n (subsystem_row t s)) in
          let P : ℕ → Type 0 = λ k. (get_or (space_words seen_u ((stamps_after serial c stamps).space s n)) k 0 ≡ get_or (space_words seen_t (stamps.space s n)) k 0) ⊎ Contains (told_places u c) (Space s n k) in
          subst P (sym ten) (elim (stamped (is_pair s n c.namespace) serial (stamps.space s n) (c.namespace ≡ Some (s, n)) (pair-that c.namespace s n)) [
            | inl same ↦ inl (stamp-again seen_u ((stamps_after serial c stamps).space s n) ∙ (same ∙ sym (stamp-again seen_t (stamps.space s n))))
            | inr told ↦ inr (stamp-place u c s n told)
          ])
    ]
