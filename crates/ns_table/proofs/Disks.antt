-- Disks are shown where enabled namespaces are.
use Rattle.std.proofs.Common.{◌≡◌, ℕ, ◌==◌, ◌&&◌, ◌||◌, Bool, true, false, if◌then◌else◌, List, [], ◌∷◌, map, Option, Some, None, refl, sym, ap, ◌∙◌}
use Rattle.std.proofs.lemmas.Bool.{eqb-true, eq-eqb}
use Rattle.std.specs.List.{list_any, find, slice_get}
use Rattle.std.specs.FinMap as maps
use Rattle.std.specs.Ordering.{nat_cmp}
use Rattle.std.specs.Cmp.{nat_cmp_total}
use Rattle.std.specs.Cmp.Lexicographic.{nat_list_cmp_total}
use Rattle.std.specs.FinMap.{nat_cmp-IsAntisymmetric}
use Rattle.configfs_rows.proofs.Placing.{found_passes}
use Rattle.configfs_tree.proofs.Kept.{names_same}
use Rattle.mem_bdev.specs.Blocks.{Blocks}
use Rattle.sqe_cqe.specs.declared.rows.NsRow.{NsRow}
use Rattle.sqe_cqe.specs.declared.rows.Seen.TheVariants.{NotConfigured, Off, On}
use Rattle.configfs_rows.specs.declared.namespaces.NamespaceRow.{NamespaceRow}
use Rattle.configfs_rows.specs.declared.subsystems.SubsystemRow.{SubsystemRow}
use Rattle.configfs_rows.proofs.Each.{first_passing, scan_found}
use Rattle.configfs_tree.specs.declared.configuration.Configuration.{Configuration}
use Rattle.configfs_tree.specs.Links.{subsystem_row}
use Rattle.tree_target.specs.Views.{seen_of, space_in, on_disk, on_blocks, row_of}
use Rattle.ns_table.specs.Positions.{Shown, at}
use Rattle.ns_table.specs.Words.{Shape, is_shown, subsystem_shows, shows, is_on, bit}
use Rattle.ns_table.specs.Shown.{EnabledIsShown, ShownIsEnabled, IsEnabledOn}
use Rattle.ns_table.proofs.Placed.{placed}
use Rattle.ns_table.proofs.Spaces.{none-some, some-same}

-- ---- scans
either : (a b : Bool) → a ≡ true → (a || b) ≡ true
either a b is = rw is refl

later : (a b : Bool) → b ≡ true → (a || b) ≡ true
later true b is = refl
later false b is = is

no-truth : false ≡ true → ⊥
no-truth is = cc

both : (a b : Bool) → (a && b) ≡ true → (a ≡ true) × (b ≡ true)
both true b is = (refl, is)
both false b is = absurd (no-truth is)

found-on : {X : Type 0} (q p : X → Bool) (y x : X) (ys : List X) (b : Bool) → (if b then Some y else find q ys) ≡ Some x → p x ≡ true → (find q ys ≡ Some x → list_any p ys ≡ true) → (p y || list_any p ys) ≡ true
found-on q p y x ys true e is rest = either (p y) (list_any p ys) (ap p (some-same y x e) ∙ is)
found-on q p y x ys false e is rest = later (p y) (list_any p ys) (rest e)

found-any : {X : Type 0} (q p : X → Bool) (xs : List X) (x : X) → find q xs ≡ Some x → p x ≡ true → list_any p xs ≡ true
found-any q p [] x e is = absurd (none-some x e)
found-any q p (y ∷ ys) x e is = found-on q p y x ys (q y) e is (λ f. found-any q p ys x f is)

pub any-map : {K X : Type 0} (p : X → Bool) (es : List (K × X)) → list_any (λ (e : K × X). p e.1) es ≡ list_any p (map (λ (e : K × X). e.1) es)
any-map p [] = refl
any-map p (e ∷ es) = ap (λ b. p e.1 || b) (any-map p es)

-- ---- an enabled namespace is shown
not-there : (row : NsRow) → NotConfigured ≡ On row → ⊥
not-there row is = cc

no-off : (row : NsRow) → Off ≡ On row → ⊥
no-off row is = cc

same-disk : (r row : NsRow) → On r ≡ On row → r.disk ≡ row.disk
same-disk r row is = cc

shows-it : (ns : NamespaceRow) (i disk : ℕ) → ns.enabled ≡ true → ns.disk ≡ Some i → i ≡ disk → shows disk ns ≡ true
shows-it ns i disk on at is = rw (on, at) (eq-eqb i disk is)

on-blocks-shows : (ns : NamespaceRow) (i : ℕ) (row : NsRow) (o : Option Blocks) → ns.enabled ≡ true → ns.disk ≡ Some i → on_blocks i ns o ≡ On row → shows row.disk ns ≡ true
on-blocks-shows ns i row None on at is = absurd (no-off row is)
on-blocks-shows ns i row (Some d) on at is = shows-it ns i row.disk on at (same-disk (row_of i d ns) row is)

on-disk-shows : (blocks : List Blocks) (ns : NamespaceRow) (row : NsRow) (o : Option ℕ) → ns.enabled ≡ true → ns.disk ≡ o → on_disk blocks ns o ≡ On row → shows row.disk ns ≡ true
on-disk-shows blocks ns row None on at is = absurd (no-off row is)
on-disk-shows blocks ns row (Some i) on at is = on-blocks-shows ns i row (slice_get blocks i) on at is

on-shows : (blocks : List Blocks) (ns : NamespaceRow) (row : NsRow) (b : Bool) → ns.enabled ≡ b → (if b then on_disk blocks ns ns.disk else Off) ≡ On row → shows row.disk ns ≡ true
on-shows blocks ns row true on is = on-disk-shows blocks ns row ns.disk on refl is
on-shows blocks ns row false on is = absurd (no-off row is)

space-shows : (blocks : List Blocks) (s : SubsystemRow) (n : ℕ) (row : NsRow) (o : Option NamespaceRow) → maps.get s.namespaces n ≡ o → seen_of blocks o ≡ On row → subsystem_shows row.disk s ≡ true
space-shows blocks s n row None e is = absurd (not-there row is)
space-shows blocks s n row (Some ns) e is =
    any-map (shows row.disk) (maps.entries s.namespaces)
    ∙ found_passes nat_cmp (shows row.disk) n (maps.entries s.namespaces) ns (sym (maps.get-entries s.namespaces n) ∙ e) (on-shows blocks ns row ns.enabled refl is)

row-shows : (t : Configuration) (blocks : List Blocks) (s n : ℕ) (row : NsRow) (o : Option SubsystemRow) → subsystem_row t s ≡ o → seen_of blocks (space_in n o) ≡ On row → is_shown t row.disk ≡ true
unfolding is_shown
row-shows t blocks s n row None e is = absurd (not-there row is)
row-shows t blocks s n row (Some r) e is =
    found-any (λ (y : SubsystemRow). y.at == s) (subsystem_shows row.disk) (maps.values t.settings.subsystems) r e (space-shows blocks r n row (maps.get r.namespaces n) refl is)

one-is : (b : Bool) → b ≡ true → bit b ≡ 0 → ⊥
one-is true is none = cc
one-is false is none = no-truth is

pub enabled_shown : EnabledIsShown
enabled_shown x s n row small seen none =
    one-is (is_shown x.tree row.disk) (row-shows x.tree x.blocks s n row (subsystem_row x.tree s) refl seen) (sym ((placed x).each (Shown row.disk) small) ∙ none)

-- ---- what is shown is enabled
bit-true : (b : Bool) → (bit b ≡ 0 → ⊥) → b ≡ true
bit-true true h = refl
bit-true false h = absurd (h refl)

pub on-that : (o : Option ℕ) (disk : ℕ) → is_on disk o ≡ true → o ≡ Some disk
on-that None disk is = absurd (no-truth is)
on-that (Some i) disk is = ap (λ (k : ℕ). Some k) (eqb-true i disk is)

space-enabled : (x : Shape) (disk : ℕ) (sub : List ℕ) (s : SubsystemRow) → maps.get x.tree.settings.subsystems sub ≡ Some s → subsystem_shows disk s ≡ true → IsEnabledOn x disk
space-enabled x disk sub s there any =
    let w = first_passing (shows disk) (maps.values s.namespaces) (sym (any-map (shows disk) (maps.entries s.namespaces)) ∙ any) in
    let r = scan_found nat_cmp_total nat_cmp-IsAntisymmetric (shows disk) s.namespaces w.row w.found in
    let parts = both w.row.enabled (is_on disk w.row.disk) w.passes in
    record {
      sub = sub;
      subsystem = s;
      nsid = r.key;
      namespace = w.row;
      there = there;
      stands = r.found;
      enabled = parts.0;
      on = on-that w.row.disk disk parts.1;
    }

pub found-shown : (x : Shape) (disk : ℕ) → is_shown x.tree disk ≡ true → IsEnabledOn x disk
unfolding is_shown
found-shown x disk any =
    let w = first_passing (subsystem_shows disk) (maps.values x.tree.settings.subsystems) any in
    let r = scan_found nat_list_cmp_total names_same (subsystem_shows disk) x.tree.settings.subsystems w.row w.found in
    space-enabled x disk r.key w.row r.found w.passes

pub shown_enabled : ShownIsEnabled
shown_enabled x disk small some = found-shown x disk (bit-true (is_shown x.tree disk) (λ none. some ((placed x).each (Shown disk) small ∙ none)))
