-- The words that an edit changes.
use Rattle.std.proofs.Common.{◌≡◌, ◌⊎◌, ℕ, ◌==◌, ◌&&◌, ◌||◌, not, Bool, true, false, if◌then◌else◌, List, [], get_or, Option, Some, None, is_some, IsTrue, refl, sym, ap, subst, ◌∙◌, inl, inr}
use Rattle.std.proofs.lemmas.Bool.{eqb-true, eq-eqb}
use Rattle.std.specs.FinMap as maps
use Rattle.std.specs.Ordering.{nat_cmp}
use Rattle.mem_bdev.specs.Blocks.{Blocks}
use Rattle.configfs_rows.specs.Nqns.{name_order}
use Rattle.configfs_rows.specs.declared.namespaces.NamespaceRow.{NamespaceRow}
use Rattle.configfs_rows.specs.declared.subsystems.SubsystemRow.{SubsystemRow}
use Rattle.configfs_rows.proofs.Placing.{found_passes}
use Rattle.configfs_tree.specs.declared.configuration.Configuration.{Configuration}
use Rattle.configfs_tree.specs.declared.edits.Change.{Change}
use Rattle.configfs_tree.specs.Links.{subsystem_row}
use Rattle.configfs_tree.specs.Standing.{Placed, placed_in, placed_row, IsStanding}
use Rattle.configfs_tree.specs.Told.{Tells, space, enabled_row}
use Rattle.configfs_tree.proofs.Positions.{subsystem_positions, port_positions}
use Rattle.tree_target.specs.Views.{seen_of, space_in}
use Rattle.ns_table.specs.Positions.{Shown, Ready, Changes, SubsystemStamp, PortStamp, State, Space}
use Rattle.ns_table.specs.Words.{Stamps, no_stamps, bit, state_word, space_words, is_shown, subsystem_shows, shows}
use Rattle.ns_table.specs.Shown.{IsEnabledOn}
use Rattle.ns_table.specs.Changed.{stamps_after, is_pair, is_at, disk_in, TurnsOn, IsTold, Keeps, shape_before, WordsChangeWhereTold}
use Rattle.ns_table.proofs.Spaces.{none-some, some-same}
use Rattle.ns_table.proofs.Disks.{found-shown, any-map}
use Rattle.ns_table.proofs.ByPosition.{placed-there, space-as-before, under}
use Rattle.ns_table.proofs.PortsByPosition.{group-as-before}

-- ---- stamps and counts
no-truth : false ≡ true → ⊥
no-truth e = cc

at-that : (o : Option ℕ) (k : ℕ) → is_at k o ≡ true → o ≡ Some k
at-that None k is = absurd (no-truth is)
at-that (Some n) k is = ap (λ (m : ℕ). Some m) (eqb-true n k is)

both : (a b : Bool) → (a && b) ≡ true → (a ≡ true) × (b ≡ true)
both true b is = (refl, is)
both false b is = absurd (no-truth is)

pub pair-that : (o : Option (ℕ × ℕ)) (s n : ℕ) → is_pair s n o ≡ true → o ≡ Some (s, n)
pair-that None s n is = absurd (no-truth is)
pair-that (Some x) s n is =
    let h = both (x.0 == s) (x.1 == n) is in
    let a = eqb-true x.0 s h.0 in
    let b = eqb-true x.1 n h.1 in
    λ i. Some (a i, b i)

pub stamped : (b : Bool) (serial old : ℕ) (P : Type 0) → (b ≡ true → P) → ((if b then serial else old) ≡ old) ⊎ P
stamped true serial old P told = inr (told refl)
stamped false serial old P told = inl refl

counted : (b : Bool) (new old count : ℕ) → count ≡ (if b then new else old) → (count ≡ old) ⊎ IsTrue b
counted true new old count is = inr refl
counted false new old count is = inl is

-- ---- namespaces and groups
space-word : (t u : Configuration) (c : Change) (blocks : List Blocks) (stamps : Stamps) (serial s n part : ℕ) → IsStanding t → IsStanding u → Tells t u c
    → (get_or (space_words (seen_of blocks (space_in n (subsystem_row u s))) ((stamps_after serial c stamps).space s n)) part 0
    ≡ get_or (space_words (seen_of blocks (space_in n (subsystem_row t s))) (stamps.space s n)) part 0) ⊎ IsTold u c (Space s n part)
space-word t u c blocks stamps serial s n part ht hu tells =
    elim (space-as-before t u c.touched s n (subsystem_positions t ht.placed) (subsystem_positions u hu.placed) tells.rows) [
      | inr told ↦ inr (inl told)
      | inl same ↦ elim (stamped (is_pair s n c.namespace) serial (stamps.space s n) (c.namespace ≡ Some (s, n)) (pair-that c.namespace s n)) [
        | inr told ↦ inr (inr told)
        | inl stamp ↦ inl (
            ap (λ (o : Option NamespaceRow). get_or (space_words (seen_of blocks o) ((stamps_after serial c stamps).space s n)) part 0) same
            ∙ ap (λ (k : ℕ). get_or (space_words (seen_of blocks (space_in n (subsystem_row t s))) k) part 0) stamp
            )
      ]
    ]

-- ---- disks
-- an enabled namespace that is placed on a disk shows it
row-shows : (u : Configuration) (n disk : ℕ) (row : SubsystemRow) (o : Option NamespaceRow) (y : Placed) → maps.get row.namespaces n ≡ o → placed_row row.at o ≡ Some y → shows disk y.row ≡ true → subsystem_shows disk row ≡ true
row-shows u n disk row None y e is h = absurd (none-some y is)
row-shows u n disk row (Some b) y e is h =
    let z : Placed = record { at = row.at; row = b } in
    let same : b ≡ y.row = ap (λ (p : Placed). p.row) (some-same z y is) in
    any-map (shows disk) (maps.entries row.namespaces)
    ∙ found_passes nat_cmp (shows disk) n (maps.entries row.namespaces) b (sym (maps.get-entries row.namespaces n) ∙ e) (ap (shows disk) same ∙ h)

pub placed-on-shows : (u : Configuration) (sub : List ℕ) (n disk : ℕ) (o : Option SubsystemRow) (y : Placed) → maps.get u.settings.subsystems sub ≡ o → placed_in n o ≡ Some y → shows disk y.row ≡ true → is_shown u disk ≡ true
unfolding is_shown
placed-on-shows u sub n disk None y e is h = absurd (none-some y is)
placed-on-shows u sub n disk (Some row) y e is h =
    found_passes name_order (subsystem_shows disk) sub (maps.entries u.settings.subsystems) row (sym (maps.get-entries u.settings.subsystems sub) ∙ e)
    (row-shows u n disk row (maps.get row.namespaces n) y refl is h)

shows-it : (n : NamespaceRow) (disk : ℕ) → n.enabled ≡ true → n.disk ≡ Some disk → shows disk n ≡ true
shows-it n disk on at = rw (on, at) (eq-eqb disk disk refl)

placed-shows : (u : Configuration) (sub : List ℕ) (n disk : ℕ) (y : Placed) → space u sub n ≡ Some y → y.row.enabled ≡ true → y.row.disk ≡ Some disk → is_shown u disk ≡ true
placed-shows u sub n disk y is on at = placed-on-shows u sub n disk (maps.get u.settings.subsystems sub) y refl is (shows-it y.row disk on at)

-- what is enabled by its name is placed
record Enabled (u : Configuration) (sub : List ℕ) (n : ℕ) : Type 0 where
  y : Placed
  is : space u sub n ≡ Some y
  on : y.row.enabled ≡ true

enabled-on : (u : Configuration) (sub : List ℕ) (n : ℕ) (o : Option Placed) → space u sub n ≡ o → enabled_row o ≡ true → Enabled u sub n
enabled-on u sub n None e on = absurd (no-truth on)
enabled-on u sub n (Some y) e on = record { y = y; is = e; on = on }

either-on : (a b : Bool) → a ≡ true → IsTrue (a || b)
either-on a b h = rw h refl

other-on : (a b : Bool) → b ≡ true → IsTrue (a || b)
other-on true b h = refl
other-on false b h = h

-- a namespace that is found on a disk
found-space : (t : Configuration) (disk : ℕ) (w : IsEnabledOn (shape_before t [] [] no_stamps) disk) → space t w.sub w.nsid ≡ Some (record { at = w.subsystem.at; row = w.namespace })
found-space t disk w = ap (placed_in w.nsid) w.there ∙ ap (placed_row w.subsystem.at) w.stands

turned-one : (a b : Bool) → b ≡ not a → IsTrue (a || b)
turned-one true b e = refl
turned-one false b e = e

-- shown before and not after: it turned
gone : (t u : Configuration) (c : Change) (disk : ℕ) → IsStanding t → IsStanding u → Tells t u c → Keeps t u → is_shown t disk ≡ true → is_shown u disk ≡ false → TurnsOn u c disk
gone t u c disk ht hu tells keeps was now =
    let w = found-shown (shape_before t [] [] no_stamps) disk was in
    let x : Placed = record { at = w.subsystem.at; row = w.namespace } in
    let here : space t w.sub w.nsid ≡ Some x = found-space t disk w in
    let pt = subsystem_positions t ht.placed in
    let pu = subsystem_positions u hu.placed in
    elim (tells.spaces w.sub w.nsid) [
      | inl same ↦
          let e = enabled-on u w.sub w.nsid (space u w.sub w.nsid) refl (same ∙ (ap enabled_row here ∙ w.enabled)) in
          let disk_is : e.y.row.disk ≡ Some disk = keeps.disks w.sub w.nsid x e.y here e.is (either-on w.namespace.enabled e.y.row.enabled w.enabled) ∙ w.on in
          absurd (no-truth (sym now ∙ placed-shows u w.sub w.nsid disk e.y e.is e.on disk_is))
      | inr named ↦
          let turn = tells.space_named named.x.at w.nsid named.told in
          let own : named.x ≡ x = some-same named.x x (sym named.stands ∙ here) in
          let at_x : turn.x.at ≡ x.at = turn.at_is ∙ ap (λ (p : Placed). p.at) own in
          let mine : space_in w.nsid (subsystem_row t x.at) ≡ Some turn.x.row = subst (λ (k : ℕ). space_in w.nsid (subsystem_row t k) ≡ Some turn.x.row) at_x (placed-there t turn.sub w.nsid turn.x pt turn.before) in
          let row_is : turn.x.row ≡ x.row = some-same turn.x.row x.row (sym mine ∙ placed-there t w.sub w.nsid x pt here) in
          let turned : turn.y.row.enabled ≡ not turn.x.row.enabled = turn.is ∙ ap not (sym turn.was) in
          let disk_is : turn.y.row.disk ≡ Some disk =
          keeps.disks turn.sub w.nsid turn.x turn.y turn.before turn.after (turned-one turn.x.row.enabled turn.y.row.enabled turned) ∙ (ap (λ (r : NamespaceRow). r.disk) row_is ∙ w.on) in
          let a = under t turn.sub w.nsid turn.x turn.before in
          let b = under u turn.sub w.nsid turn.y turn.after in
          let at_y : turn.y.at ≡ named.x.at = sym b.at_is ∙ (keeps.subsystems turn.sub a.row b.row a.named b.named ∙ (a.at_is ∙ turn.at_is)) in
          let there : space_in w.nsid (subsystem_row u named.x.at) ≡ Some turn.y.row = subst (λ (k : ℕ). space_in w.nsid (subsystem_row u k) ≡ Some turn.y.row) at_y (placed-there u turn.sub w.nsid turn.y pu turn.after) in
          record { at = named.x.at; nsid = w.nsid; told = named.told; on = ap disk_in there ∙ disk_is }
    ]

-- shown after and not before: it turned
come : (t u : Configuration) (c : Change) (disk : ℕ) → IsStanding t → IsStanding u → Tells t u c → Keeps t u → is_shown t disk ≡ false → is_shown u disk ≡ true → TurnsOn u c disk
come t u c disk ht hu tells keeps was now =
    let w = found-shown (shape_before u [] [] no_stamps) disk now in
    let y : Placed = record { at = w.subsystem.at; row = w.namespace } in
    let here : space u w.sub w.nsid ≡ Some y = found-space u disk w in
    let pu = subsystem_positions u hu.placed in
    elim (tells.spaces w.sub w.nsid) [
      | inl same ↦
          let e = enabled-on t w.sub w.nsid (space t w.sub w.nsid) refl (sym same ∙ (ap enabled_row here ∙ w.enabled)) in
          let disk_is : e.y.row.disk ≡ Some disk = sym (keeps.disks w.sub w.nsid e.y y e.is here (either-on e.y.row.enabled w.namespace.enabled e.on)) ∙ w.on in
          absurd (no-truth (sym was ∙ placed-shows t w.sub w.nsid disk e.y e.is e.on disk_is))
      | inr named ↦
          let a = under t w.sub w.nsid named.x named.stands in
          let b = under u w.sub w.nsid y here in
          let at_y : y.at ≡ named.x.at = sym b.at_is ∙ (keeps.subsystems w.sub a.row b.row a.named b.named ∙ a.at_is) in
          let there : space_in w.nsid (subsystem_row u named.x.at) ≡ Some y.row = subst (λ (k : ℕ). space_in w.nsid (subsystem_row u k) ≡ Some y.row) at_y (placed-there u w.sub w.nsid y pu here) in
          record { at = named.x.at; nsid = w.nsid; told = named.told; on = ap disk_in there ∙ w.on }
    ]

shown-by : (a b : Bool) (P : Type 0) → (a ≡ true → b ≡ false → P) → (a ≡ false → b ≡ true → P) → (bit b ≡ bit a) ⊎ P
shown-by true true P gone come = inl refl
shown-by true false P gone come = inr (gone refl refl)
shown-by false true P gone come = inr (come refl refl)
shown-by false false P gone come = inl refl

pub change_where_told : WordsChangeWhereTold
change_where_told t u c controllers blocks stamps serial ht hu tells keeps (Shown disk) =
    shown-by (is_shown t disk) (is_shown u disk) (TurnsOn u c disk) (gone t u c disk ht hu tells keeps) (come t u c disk ht hu tells keeps)
change_where_told t u c controllers blocks stamps serial ht hu tells keeps (Ready ctrl) = inl refl
change_where_told t u c controllers blocks stamps serial ht hu tells keeps Changes = counted (is_some c.ana_port || is_some c.ana_subsystem) _ _ u.settings.ana_count tells.count
change_where_told t u c controllers blocks stamps serial ht hu tells keeps (SubsystemStamp sub) = stamped (is_at sub c.ana_subsystem) serial (stamps.subsystem sub) (c.ana_subsystem ≡ Some sub) (at-that c.ana_subsystem sub)
change_where_told t u c controllers blocks stamps serial ht hu tells keeps (PortStamp port) = stamped (is_at port c.ana_port) serial (stamps.port port) (c.ana_port ≡ Some port) (at-that c.ana_port port)
change_where_told t u c controllers blocks stamps serial ht hu tells keeps (State port group) =
    elim (group-as-before t u c.touched port group (port_positions t ht.placed) (port_positions u hu.placed) tells.rows keeps.ports) [
      | inl same ↦ inl (ap state_word same)
      | inr told ↦ inr told
    ]
change_where_told t u c controllers blocks stamps serial ht hu tells keeps (Space sub nsid part) = space-word t u c blocks stamps serial sub nsid part ht hu tells
