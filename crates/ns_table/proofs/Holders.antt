-- A disk is shown exactly where the namespace that holds it is enabled.
use Rattle.std.proofs.Common.{◌≡◌, ℕ, ◌||◌, Bool, true, false, [], Option, Some, None, IsTrue, refl, sym, ap, ◌∙◌}
use Rattle.std.proofs.lemmas.Bool.{eq-eqb}
use Rattle.std.specs.List.{slice_get}
use Rattle.configfs_rows.specs.Holders.{holder_of}
use Rattle.configfs_rows.specs.declared.disks.Holder.{Holder}
use Rattle.configfs_rows.specs.declared.namespaces.NamespaceRow.{NamespaceRow}
use Rattle.configfs_tree.specs.declared.configuration.Configuration.{Configuration}
use Rattle.configfs_tree.specs.Links.{subsystem_row}
use Rattle.configfs_tree.specs.Standing.{Placed, IsStanding, placed_in, placed_row}
use Rattle.configfs_tree.specs.Told.{space}
use Rattle.configfs_tree.proofs.Positions.{subsystem_positions, live_holds_disk}
use Rattle.tree_target.specs.Views.{space_in}
use Rattle.ns_table.specs.Words.{no_stamps, is_shown, shows}
use Rattle.ns_table.specs.Shown.{IsEnabledOn}
use Rattle.ns_table.specs.Changed.{shape_before}
use Rattle.ns_table.specs.Holders.{row_shows, holder_shows, is_held_shown}
use Rattle.ns_table.proofs.Spaces.{some-same}
use Rattle.ns_table.proofs.Disks.{found-shown}
use Rattle.ns_table.proofs.ByPosition.{placed-there}
use Rattle.ns_table.proofs.Patched.{seen-shows}

no-truth : false ≡ true → ⊥
no-truth e = cc

alike : (a b : Bool) → (a ≡ true → b ≡ true) → (b ≡ true → a ≡ true) → a ≡ b
alike true b f g = sym (f refl)
alike false true f g = g refl
alike false false f g = refl

shows-it : (n : NamespaceRow) (disk : ℕ) → n.enabled ≡ true → n.disk ≡ Some disk → shows disk n ≡ true
shows-it n disk on at = rw (on, at) (eq-eqb disk disk refl)

either-on : (a b : Bool) → a ≡ true → IsTrue (a || b)
either-on a b h = rw h refl

-- who holds it is enabled
row-on : (t : Configuration) (disk s n : ℕ) (o : Option NamespaceRow) → IsStanding t → space_in n (subsystem_row t s) ≡ o → row_shows disk o ≡ true → is_shown t disk ≡ true
row-on t disk s n None st e is = absurd (no-truth is)
row-on t disk s n (Some a) st e is = seen-shows t s n disk a (subsystem_positions t st.placed) e is

holder-on : (t : Configuration) (disk : ℕ) (o : Option Holder) → IsStanding t → holder_shows t disk o ≡ true → is_shown t disk ≡ true
holder-on t disk None st is = absurd (no-truth is)
holder-on t disk (Some h) st is = row-on t disk h.sub h.nsid (space_in h.nsid (subsystem_row t h.sub)) st refl is

-- an enabled namespace is the one that holds it
held-by : (t : Configuration) (disk : ℕ) (w : IsEnabledOn (shape_before t [] [] no_stamps) disk) → IsStanding t → is_held_shown t disk ≡ true
held-by t disk w st =
    let x : Placed = record { at = w.subsystem.at; row = w.namespace } in
    let here : space t w.sub w.nsid ≡ Some x = ap (placed_in w.nsid) w.there ∙ ap (placed_row w.subsystem.at) w.stands in
    let h = live_holds_disk t w.sub w.nsid st x here (either-on w.namespace.enabled _ w.enabled) in
    let number : h.number ≡ disk = some-same h.number disk (sym h.numbered ∙ w.on) in
    let found : slice_get t.disks disk ≡ Some h.disk = ap (λ (k : ℕ). slice_get t.disks k) (sym number) ∙ h.found in
    let holder : holder_of (slice_get t.disks disk) ≡ Some h.holder = ap holder_of found ∙ h.held in
    let there : space_in w.nsid (subsystem_row t w.subsystem.at) ≡ Some w.namespace = placed-there t w.sub w.nsid x (subsystem_positions t st.placed) here in
    let at_holder : space_in h.holder.nsid (subsystem_row t h.holder.sub) ≡ Some w.namespace =
    (λ i. space_in (h.holder_nsid i) (subsystem_row t (h.holder_sub i))) ∙ there in
    ap (holder_shows t disk) holder ∙ (ap (row_shows disk) at_holder ∙ shows-it w.namespace disk w.enabled w.on)

pub held-shown : (t : Configuration) (disk : ℕ) → IsStanding t → is_held_shown t disk ≡ is_shown t disk
held-shown t disk st = alike (is_held_shown t disk) (is_shown t disk)
    (holder-on t disk (holder_of (slice_get t.disks disk)) st)
    (λ is. held-by t disk (found-shown (shape_before t [] [] no_stamps) disk is) st)
