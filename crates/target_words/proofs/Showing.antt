-- What is held is on a disk that the words show.
use Rattle.std.proofs.Common.{◌≡◌, ◌≢◌, ℕ, ◌<◌, ◌≤◌, ◌||◌, Bool, true, false, List, [], ◌∷◌, length, map, Option, Some, None, get_or, refl, sym, ap, subst, ◌∙◌}
use Rattle.std.specs.List.{list_any}
use Rattle.std.specs.FinMap as maps
use Rattle.std.specs.Ordering.{nat_cmp}
use Rattle.std.proofs.lemmas.Bool.{eq-eqb}
use Rattle.sqe_cqe.specs.declared.sqe.Sqe.{Sqe}
use Rattle.configfs_rows.specs.Nqns.{name_order}
use Rattle.configfs_rows.specs.declared.namespaces.NamespaceRow.{NamespaceRow}
use Rattle.configfs_rows.specs.declared.subsystems.SubsystemRow.{SubsystemRow}
use Rattle.configfs_rows.proofs.Placing.{found_passes}
use Rattle.configfs_tree.specs.declared.configuration.Configuration.{Configuration}
use Rattle.tree_target.specs.Model.{Call, Submit, Execute, Poll, Control, AnEdit, DrainEnd, Target}
use Rattle.tree_target.specs.Views.{space_in, subsystem_named}
use Rattle.tree_target.specs.Admission.{admission}
use Rattle.tree_target.specs.Held.{held_by, held_disk}
use Rattle.ns_table.specs.Kept.{shape_of}
use Rattle.ns_table.specs.Positions.{Shown}
use Rattle.ns_table.specs.Words.{shows, subsystem_shows, is_shown, bit}
use Rattle.ns_table.proofs.Placed.{placed}
use Rattle.target_states.proofs.Admitting.{admitted}
use Rattle.target_states.proofs.Tags.{FewDisks, few_by, holds_on}
use Rattle.target_words.specs.Words.{words_at}

shows_it : (n : NamespaceRow) (disk : ℕ) → n.enabled ≡ true → n.disk ≡ Some disk
    → shows disk n ≡ true
shows_it n disk on at = rw (on, at) (eq-eqb disk disk refl)

any_map : {K X : Type 0} (p : X → Bool) (es : List (K × X))
    → list_any (λ (e : K × X). p e.1) es ≡ list_any p (map (λ (e : K × X). e.1) es)
any_map p [] = refl
any_map p (e ∷ es) = ap (λ b. p e.1 || b) (any_map p es)

none_some : (x : NamespaceRow) → None ≡ Some x → ⊥
none_some x e = cc

space_shown : (t : Configuration) (sub : List ℕ) (nsid disk : ℕ) (n : NamespaceRow)
    (s : Option SubsystemRow) → maps.get t.settings.subsystems sub ≡ s → space_in nsid s ≡ Some n
    → n.enabled ≡ true → n.disk ≡ Some disk → is_shown t disk ≡ true
unfolding is_shown
space_shown t sub nsid disk n None e stands on at = absurd (none_some n stands)
space_shown t sub nsid disk n (Some s) e stands on at =
    found_passes name_order (subsystem_shows disk) sub (maps.entries t.settings.subsystems) s
    (sym (maps.get-entries t.settings.subsystems sub) ∙ e)
    (any_map (shows disk) (maps.entries s.namespaces)
    ∙ found_passes nat_cmp (shows disk) nsid (maps.entries s.namespaces) n
    (sym (maps.get-entries s.namespaces nsid) ∙ stands) (shows_it n disk on at))

no_truth : false ≡ true → ⊥
no_truth e = cc

one_is : (b : Bool) → b ≡ true → bit b ≡ 0 → ⊥
one_is true is none = cc
one_is false is none = no_truth is

pub in_words : (t : Target) (queue : ℕ) (e : Sqe) (disk : ℕ) → FewDisks t.blocks
    → held_by (admission t queue e) ≡ Some disk → get_or (words_at t) disk 0 ≢ 0
in_words t queue e disk few is none =
    let h = holds_on t (admission t queue e) disk is in
    let a = admitted t queue e h.job h.is in
    let at : a.row.disk ≡ disk = sym a.is_job.disk ∙ h.on in
    let small : disk < 64 = subst (λ (k : ℕ). k < 64) at (few a.row.disk a.disk a.there) in
    let shown : is_shown t.tree disk ≡ true =
    subst (λ (k : ℕ). is_shown t.tree k ≡ true) at
    (space_shown t.tree a.sub a.nsid a.row.disk a.namespace (subsystem_named t.tree a.sub) refl
    a.stands a.enabled a.on) in
    one_is (is_shown t.tree disk) shown
    (sym ((placed (shape_of t.tree t.controllers t.blocks t.stamps)).each (Shown disk) small)
    ∙ none)

no_number : (a : ℕ) → None ≡ Some a → ⊥
no_number a e = cc

pub held_in_words : (t : Target) (call : Call) (disk : ℕ) → length t.blocks ≤ 64
    → held_disk t call ≡ Some disk → get_or (words_at t) disk 0 ≢ 0
unfolding held_disk
held_in_words t (Submit queue number e) disk few is =
    in_words t queue e disk (few_by t.blocks few) is
held_in_words t (Execute queue number payload) disk few is = absurd (no_number disk is)
held_in_words t (Poll queue) disk few is = absurd (no_number disk is)
held_in_words t (Control queue number e payload) disk few is = absurd (no_number disk is)
held_in_words t (AnEdit line e) disk few is = absurd (no_number disk is)
held_in_words t (DrainEnd line sub nsid) disk few is = absurd (no_number disk is)
