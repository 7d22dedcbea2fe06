-- While a command is held on a disk, the namespace that holds the disk goes on to hold it.
use Rattle.std.proofs.Common.{◌≡◌, ℕ, zero, suc, ◌+◌, ◌<◌, ◌&&◌, not, Bool, true, false, cond, IsTrue, List, [], ◌∷◌, length, Option, Some, None, is_some, refl, sym, ap, subst, ◌∙◌, slice_get, arith}
use Rattle.std.specs.List.{list_any, position_or_len}
use Rattle.std.specs.Str.{bytes_eq}
use Rattle.std.specs.FinMap as map
use Rattle.std.proofs.lemmas.Bool.{both_ways, lt-ltb}
use Rattle.std.proofs.lemmas.List.{length-map}
use Rattle.std.proofs.lemmas.Option.{slice_get_within}
use Rattle.sqe_cqe.specs.Anas.{ana_named}
use Rattle.sqe_cqe.specs.declared.rows.Ana.{Ana}
use Rattle.uuid.specs.Text.{parsed}
use Rattle.configfs_rows.specs.Values.{group_named}
use Rattle.configfs_rows.specs.Holders.{disk_of, disk_path, holder_of, hold, is_held, path_or_empty, paths_of, number_of, disk_number}
use Rattle.configfs_rows.specs.declared.disks.DiskRow.{DiskRow}
use Rattle.configfs_rows.specs.declared.disks.Holder.{Holder}
use Rattle.configfs_rows.specs.declared.namespaces.NamespaceRow.{NamespaceRow}
use Rattle.configfs_rows.specs.declared.namespaces.Identifier.{Identifier}
use Rattle.configfs_rows.specs.declared.namespaces.Identifier.TheVariants.{Uuid, Nguid}
use Rattle.configfs_rows.specs.declared.subsystems.SubsystemRow.{SubsystemRow}
use Rattle.configfs_rows.specs.declared.ports.PortRow.{PortRow}
use Rattle.configfs_rows.specs.declared.ports.Address.{Address}
use Rattle.configfs_rows.specs.declared.ports.Address.TheVariants as address
use Rattle.configfs_tree.specs.declared.configuration.Configuration.{Configuration}
use Rattle.configfs_tree.specs.declared.edits.Attr.{Attr}
use Rattle.configfs_tree.specs.declared.edits.Attr.TheVariants as attr
use Rattle.configfs_tree.specs.declared.edits.Folder.{Folder}
use Rattle.configfs_tree.specs.declared.edits.Folder.TheVariants as folder
use Rattle.configfs_tree.specs.declared.edits.FolderEdit.TheVariants as make
use Rattle.link_rules.specs.declared.edits.Edit.TheVariants as edit
use Rattle.link_rules.specs.declared.edits.LinkEdit.{LinkEdit}
use Rattle.link_rules.specs.declared.edits.LinkEdit.TheVariants as link
use Rattle.link_rules.specs.Table.{allow_host, disallow_host, link_subsystem, unlink_subsystem, link_outcome}
use Rattle.configfs_tree.specs.Asked.{path_names_disk, path_is_held}
use Rattle.configfs_tree.specs.Drained.{freed_path, freed_by, drained}
use Rattle.configfs_tree.specs.NamespaceRows.{paired, rows_in}
use Rattle.configfs_tree.specs.Outcome.{Outcome, Refuses, Accepts}
use Rattle.configfs_tree.specs.Phases.{phase_at}
use Rattle.configfs_tree.specs.Standing.{IsStanding}
use Rattle.configfs_tree.specs.Table.{mkdir_host, mkdir_subsystem, mkdir_namespace, mkdir_port, mkdir_ana_group, rmdir_host, rmdir_subsystem, rmdir_namespace, rmdir_port, rmdir_ana_group, set_attr_allow_any_host, set_attr_serial, set_attr_model, set_device_path, set_identifier, put_group_of, set_ana_grpid, set_enable, set_address, set_addr_trtype, set_addr_adrfam, set_addr_treq, set_addr_traddr, set_addr_trsvcid, put_state, set_ana_state, mkdir, rmdir, set_of_subsystem, set_of_namespace, set_of_port, set_of_group, set as set_outcome}
use Rattle.configfs_tree.proofs.Holds.{Holds, accepted, refuses, holds_row, holds_end, holds_last, holds_either, holds_unless, holds_if_subsystem, holds_if_rows, holds_if_port, holds_if_group, holds_parsed}
use Rattle.tree_target.specs.declared.calls.Command.{Command}
use Rattle.tree_target.specs.Edits.{Edit, outcome}
use Rattle.sqe_cqe.specs.declared.sqe.Sqe.{Sqe}
use Rattle.fabrics_connect.specs.declared.answer.Answer.{Answer}
use Rattle.fabrics_connect.specs.declared.answer.Answer.TheVariants.{Refused, Makes, Joins, Reads, Sets}
use Rattle.fabrics_connect.specs.After.{tree_after}
use Rattle.tree_target.specs.Model.{Call, Submit, Execute, Poll, Control, AnEdit, DrainEnd, Binding, Target, binding_at}
use Rattle.tree_target.specs.Controls.{answer_on, after_control}
use Rattle.tree_target.specs.Views.{space_in}
use Rattle.tree_target.specs.Steps.{is_lawful, changed, target_after, after_edit, disk_of_space, disk_at, is_draining_phase, is_on, none_on}
use Rattle.tree_target.specs.Fixed.{Desk, is_editors}
use Rattle.tree_target.specs.Held.{holder_at}
use Rattle.tree_target.proofs.HeldList.{both_true}
use Rattle.tree_target.proofs.Changes.{queues_leave}

-- each disk that is held is held by the same namespace
abbrev Keeps : Configuration → Configuration → Type 0
Keeps t u = (i : ℕ) (h : Holder) → holder_at t i ≡ Some h → holder_at u i ≡ Some h

abbrev KeepsBy : Configuration → Outcome → Type 0
KeepsBy t o = Holds (λ u change. Keeps t u) o

same : (t : Configuration) → Keeps t t
same t i h e = e

-- ---- a holder is put where there was none
some_holder : (h : Holder) (o : Option Holder) → o ≡ Some h → is_some o ≡ false → ⊥
some_holder h None e free = none_is h e where
  none_is : (h : Holder) → None ≡ Some h → ⊥
  none_is h e = cc
some_holder h (Some g) e free = both_ways true free refl

put_on_free : (g : Holder) (d : DiskRow) (disks : List DiskRow) (rest : List DiskRow)
    (found : Option DiskRow) (b : Bool) → is_some (holder_of (cond b (Some d) found)) ≡ false
    → (is_some (holder_of found) ≡ false → (i : ℕ) (h : Holder)
    → holder_of (slice_get disks i) ≡ Some h → holder_of (slice_get rest i) ≡ Some h)
    → (i : ℕ) (h : Holder) → holder_of (slice_get (d ∷ disks) i) ≡ Some h
    → holder_of (slice_get (cond b (record d { holder = Some g } ∷ disks) (d ∷ rest)) i) ≡ Some h
put_on_free g d disks rest found true free ih zero h e = absurd (some_holder h d.holder e free)
put_on_free g d disks rest found true free ih (suc i) h e = e
put_on_free g d disks rest found false free ih zero h e = e
put_on_free g d disks rest found false free ih (suc i) h e = ih free i h e

hold_free : (path : List ℕ) (g : Holder) (disks : List DiskRow)
    → is_some (holder_of (disk_of path disks)) ≡ false → (i : ℕ) (h : Holder)
    → holder_of (slice_get disks i) ≡ Some h
    → holder_of (slice_get (hold path (Some g) disks) i) ≡ Some h
hold_free path g [] free i h e = e
hold_free path g (d ∷ disks) free i h e =
    put_on_free g d disks (hold path (Some g) disks) (disk_of path disks) (bytes_eq d.path path)
    free (hold_free path g disks) i h e

-- ---- the table
k_mkdir : (t : Configuration) (f : Folder) → KeepsBy t (mkdir t f)
unfolding mkdir_host mkdir_subsystem mkdir_namespace mkdir_port mkdir_ana_group
k_mkdir t (folder.Host host) =
    holds_row _ _ _ _ (λ _. holds_last _ _ _ _ (λ _ i h e. e))
k_mkdir t (folder.Subsystem sub) =
    holds_row _ _ _ _ (λ _. holds_row _ _ _ _ (λ _. holds_last _ _ _ _ (λ _ i h e. e)))
k_mkdir t (folder.Namespace sub nsid) = holds_if_subsystem _ _ (λ s _.
    holds_row _ _ _ _ (λ _. holds_last _ _ _ _ (λ _ i h e. e)))
k_mkdir t (folder.Port id) =
    holds_row _ _ _ _ (λ _. holds_last _ _ _ _ (λ _ i h e. e))
k_mkdir t (folder.AnaGroup id group) = holds_if_port _ _ (λ p _.
    holds_row _ _ _ _ (λ _. holds_last _ _ _ _ (λ _ i h e. e)))

k_rmdir : (t : Configuration) (f : Folder) → KeepsBy t (rmdir t f)
unfolding rmdir_host rmdir_subsystem rmdir_namespace rmdir_port rmdir_ana_group
k_rmdir t (folder.Host host) =
    holds_row _ _ _ _ (λ _. holds_last _ _ _ _ (λ _ i h e. e))
k_rmdir t (folder.Subsystem sub) = holds_if_subsystem _ _ (λ s _.
    holds_row _ _ _ _ (λ _. holds_last _ _ _ _ (λ _ i h e. e)))
k_rmdir t (folder.Namespace sub nsid) = holds_if_rows nsid _ _ (λ s _ n _.
    holds_last _ _ _ _ (λ _ i h e. e))
k_rmdir t (folder.Port id) = holds_if_port _ _ (λ p _.
    holds_row _ _ _ _ (λ _. holds_last _ _ _ _ (λ _ i h e. e)))
k_rmdir t (folder.AnaGroup id group) = holds_if_port _ _ (λ p _.
    holds_if_group _ _ (λ state _. holds_last _ _ _ _ (λ _ i h e. e)))

k_subsystem : (t : Configuration) (sub : List ℕ) (a : Attr) (value : List ℕ)
    → KeepsBy t (set_of_subsystem t sub a value)
unfolding set_attr_allow_any_host set_attr_serial set_attr_model
k_subsystem t sub attr.AllowAnyHost value = holds_if_subsystem _ _ (λ s _.
    holds_row _ _ _ _ (λ _. holds_end _ _ _ (λ _.
    holds_unless _ t _ _ (same t) (λ _ i h e. e))))
k_subsystem t sub attr.Serial value = holds_if_subsystem _ _ (λ s _.
    holds_end _ _ _ (λ _. holds_unless _ t _ _ (same t) (λ _ i h e. e)))
k_subsystem t sub attr.ModelName value = holds_if_subsystem _ _ (λ s _.
    holds_end _ _ _ (λ _. holds_unless _ t _ _ (same t) (λ _ i h e. e)))
k_subsystem t sub a value = refuses _

k_identifier : (t : Configuration) (sub : List ℕ) (nsid : ℕ) (which : Identifier) (value : List ℕ)
    → KeepsBy t (set_identifier t sub nsid which value)
unfolding set_identifier
k_identifier t sub nsid which value = holds_if_rows nsid _ _ (λ s _ n _.
    holds_end _ _ _ (λ _. holds_parsed (parsed value) _ (λ bytes.
    holds_unless _ t _ _ (same t) (λ _ i h e. e))))

k_group : (t : Configuration) (sub : List ℕ) (nsid : ℕ) (s : SubsystemRow) (n : NamespaceRow)
    (group : Option ℕ) → KeepsBy t (put_group_of t sub nsid s n group)
k_group t sub nsid s n None = refuses _
k_group t sub nsid s n (Some group) = holds_unless _ t _ _ (same t) (λ _ i h e. e)

unnamed : (on : Bool) → on ≡ false → (not on && true) ≡ false → ⊥
unnamed true off e = both_ways true off refl
unnamed false off e = both_ways true e refl

free_of : (on held : Bool) → on ≡ false → (not on && held) ≡ false → held ≡ false
free_of true held off e = absurd (both_ways true off refl)
free_of false held off e = e

k_enabled : (t : Configuration) (s : SubsystemRow) (n : NamespaceRow) (nsid : ℕ)
    (path : Option (List ℕ)) → n.device_path ≡ path → n.enabled ≡ false
    → (not n.enabled && not (path_names_disk t n)) ≡ false
    → (not n.enabled && path_is_held t n) ≡ false → (i : ℕ) (h : Holder)
    → holder_at t i ≡ Some h
    → holder_of (slice_get (hold (path_or_empty n.device_path) (Some (record {
      sub = s.at;
      nsid = nsid;
    })) t.disks) i) ≡ Some h
k_enabled t s n nsid None is off named free i h e =
    absurd (unnamed n.enabled off (rw is at named))
k_enabled t s n nsid (Some path) is off named free i h e =
    let unheld : is_some (holder_of (disk_of path t.disks)) ≡ false =
    sym (ap (is_held t.disks) is) ∙ free_of n.enabled (path_is_held t n) off free in
    subst (λ (q : List ℕ). holder_of (slice_get (hold q (Some (record {
      sub = s.at;
      nsid = nsid;
    })) t.disks) i) ≡ Some h) (sym (ap path_or_empty is))
    (hold_free path (record { sub = s.at; nsid = nsid }) t.disks unheld i h e)

k_enable : (t : Configuration) (sub : List ℕ) (nsid : ℕ) (value : List ℕ)
    → KeepsBy t (set_enable t sub nsid value)
unfolding set_enable
k_enable t sub nsid value = holds_if_rows nsid _ _ (λ s _ n _.
    holds_either _ _ _
    (holds_unless _ t _ _ (same t) (λ _ i h e. e))
    (holds_row _ _ _ _ (λ _. holds_row _ _ _ _ (λ _. holds_row _ _ _ _ (λ named.
    holds_end _ _ _ (λ free. holds_unless _ t _ _ (same t)
    (λ off. k_enabled t s n nsid n.device_path refl off named free)))))))

k_namespace : (t : Configuration) (sub : List ℕ) (nsid : ℕ) (a : Attr) (value : List ℕ)
    → KeepsBy t (set_of_namespace t sub nsid a value)
unfolding set_device_path set_ana_grpid
k_namespace t sub nsid attr.DevicePath value = holds_if_rows nsid _ _ (λ s _ n _.
    holds_row _ _ _ _ (λ _. holds_end _ _ _ (λ _.
    holds_unless _ t _ _ (same t) (λ _ i h e. e))))
k_namespace t sub nsid attr.DeviceUuid value = k_identifier t sub nsid Uuid value
k_namespace t sub nsid attr.DeviceNguid value = k_identifier t sub nsid Nguid value
k_namespace t sub nsid attr.AnaGrpid value = holds_if_rows nsid _ _ (λ s _ n _.
    k_group t sub nsid s n (group_named value))
k_namespace t sub nsid attr.Enable value = k_enable t sub nsid value
k_namespace t sub nsid a value = refuses _

k_address : (t : Configuration) (id : ℕ) (a : Address) (good : Bool) (value : List ℕ)
    → KeepsBy t (set_address t id a good value)
k_address t id a good value = holds_if_port _ _ (λ p _. holds_row _ _ _ _
    (λ _. holds_end _ _ _ (λ _. holds_unless _ t _ _ (same t) (λ _ i h e. e))))

k_port : (t : Configuration) (id : ℕ) (a : Attr) (value : List ℕ)
    → KeepsBy t (set_of_port t id a value)
unfolding set_addr_trtype set_addr_adrfam set_addr_treq set_addr_traddr set_addr_trsvcid
k_port t id attr.Trtype value = k_address t id address.Trtype _ value
k_port t id attr.Adrfam value = k_address t id address.Adrfam _ value
k_port t id attr.Treq value = k_address t id address.Treq _ value
k_port t id attr.Traddr value = k_address t id address.Traddr _ value
k_port t id attr.Trsvcid value = k_address t id address.Trsvcid _ value
k_port t id a value = refuses _

k_state : (t : Configuration) (id group : ℕ) (p : PortRow) (old : Ana) (new : Option Ana)
    → KeepsBy t (put_state t id group p old new)
k_state t id group p old None = refuses _
k_state t id group p old (Some new) = holds_unless _ t _ _ (same t) (λ _ i h e. e)

k_ana_group : (t : Configuration) (id group : ℕ) (a : Attr) (value : List ℕ)
    → KeepsBy t (set_of_group t id group a value)
unfolding set_ana_state
k_ana_group t id group attr.AnaState value = holds_if_port _ _ (λ p _. holds_if_group _ _
    (λ old _. k_state t id group p old (ana_named value)))
k_ana_group t id group a value = refuses _

k_set : (t : Configuration) (f : Folder) (a : Attr) (value : List ℕ)
    → KeepsBy t (set_outcome t f a value)
k_set t (folder.Host host) a value = refuses _
k_set t (folder.Subsystem sub) a value = k_subsystem t sub a value
k_set t (folder.Namespace sub nsid) a value = k_namespace t sub nsid a value
k_set t (folder.Port id) a value = k_port t id a value
k_set t (folder.AnaGroup id group) a value = k_ana_group t id group a value

k_link : (t : Configuration) (e : LinkEdit) → KeepsBy t (link_outcome t e)
unfolding allow_host disallow_host link_subsystem unlink_subsystem
k_link t (link.AllowHost sub host) = holds_if_subsystem _ _ (λ s _. holds_row _ _ _ _ (λ _.
    holds_row _ _ _ _ (λ _. holds_last _ _ _ _ (λ _ i h e. e))))
k_link t (link.DisallowHost sub host) = holds_if_subsystem _ _ (λ s _. holds_row _ _ _ _ (λ _.
    holds_last _ _ _ _ (λ _ i h e. e)))
k_link t (link.LinkSubsystem id sub) = holds_if_port _ _ (λ p _. holds_if_subsystem _ _ (λ s _.
    holds_row _ _ _ _ (λ _. holds_last _ _ _ _ (λ _ i h e. e))))
k_link t (link.UnlinkSubsystem id sub) = holds_if_port _ _ (λ p _. holds_if_subsystem _ _ (λ s _.
    holds_last _ _ _ _ (λ _ i h e. e)))

edit_keeps : (t : Configuration) (e : Edit) → KeepsBy t (outcome t e)
edit_keeps t (edit.Folder (make.Mkdir f)) = k_mkdir t f
edit_keeps t (edit.Folder (make.Rmdir f)) = k_rmdir t f
edit_keeps t (edit.Folder (make.Set f a value)) = k_set t f a value
edit_keeps t (edit.Link e) = k_link t e

after_keeps : (t : Target) (o : Outcome) → KeepsBy t.tree o → Keeps t.tree (after_edit t o).tree
after_keeps t (Refuses errno) k i h e = e
after_keeps t (Accepts u change) k i h e = accepted u change k i h e

-- ---- the end of a drain frees one disk
free_step : (path : List ℕ) (d : DiskRow) (disks rest : List DiskRow) (b : Bool) (n : ℕ)
    → ((i : ℕ) → (i ≡ n → ⊥) → slice_get rest i ≡ slice_get disks i) → (i : ℕ)
    → (i ≡ cond (not b) (1 + n) 0 → ⊥)
    → slice_get (cond b (record d { holder = None } ∷ disks) (d ∷ rest)) i
    ≡ slice_get (d ∷ disks) i
free_step path d disks rest true n ih zero ne = absurd (ne refl)
free_step path d disks rest true n ih (suc i) ne = refl
free_step path d disks rest false n ih zero ne = refl
free_step path d disks rest false n ih (suc i) ne =
    ih i (λ is. ne (ap (λ k. suc k) is ∙ next n)) where
      next : (n : ℕ) → suc n ≡ 1 + n
      next n = omega arith

freed_others : (path : List ℕ) (disks : List DiskRow) (i : ℕ)
    → (i ≡ position_or_len (λ (p : List ℕ). bytes_eq p path) (paths_of disks) → ⊥)
    → slice_get (hold path None disks) i ≡ slice_get disks i
freed_others path [] i ne = refl
freed_others path (d ∷ disks) i ne = free_step path d disks (hold path None disks)
    (bytes_eq d.path path) (position_or_len (λ (p : List ℕ). bytes_eq p path) (paths_of disks))
    (freed_others path disks) i ne

some_disk : (o : Option DiskRow) (h : Holder) → holder_of o ≡ Some h → (d : DiskRow) × (o ≡ Some d)
some_disk None h e = absurd (none_is h e) where
  none_is : (h : Holder) → None ≡ Some h → ⊥
  none_is h e = cc
some_disk (Some d) h e = (d, refl)

there : (path : List ℕ) (disks : List DiskRow) (i : ℕ) (h : Holder)
    → holder_of (slice_get disks i) ≡ Some h
    → i ≡ position_or_len (λ (p : List ℕ). bytes_eq p path) (paths_of disks)
    → number_of path (paths_of disks) ≡ Some i
there path disks i h e is =
    let d = some_disk (slice_get disks i) h e in
    let low : i < length disks = slice_get_within disks i d.0 d.1 in
    let len : length (paths_of disks) ≡ length disks = length-map disks disk_path in
    let n = position_or_len (λ (p : List ℕ). bytes_eq p path) (paths_of disks) in
    let within : n < length (paths_of disks) = omega (arith, low, len, is) in
    ap (λ b. cond b (Some n) None) (lt-ltb n (length (paths_of disks)) within)
    ∙ ap (λ (m : ℕ). Some m) (sym is)

busy_disk : (held : List Command) (disk : Option ℕ) (i : ℕ) → none_on held disk ≡ true
    → list_any (is_on i) held ≡ true → disk ≡ Some i → ⊥
busy_disk held disk i free busy is =
    let off : not (list_any (is_on i) held) ≡ true = sym (ap (none_on held) is) ∙ free in
    both_ways true (sym off ∙ ap (λ b. not b) busy) refl

path_frees : (t : Configuration) (held : List Command) (path : Option (List ℕ)) (disk : Option ℕ)
    (i : ℕ) (h : Holder) → disk ≡ disk_number (paths_of t.disks) path
    → none_on held disk ≡ true → list_any (is_on i) held ≡ true → holder_at t i ≡ Some h
    → holder_at (freed_path t path) i ≡ Some h
path_frees t held None disk i h number free busy e = e
path_frees t held (Some path) disk i h number free busy e =
    ap holder_of (freed_others path t.disks i (λ is. busy_disk held disk i free busy
    (number ∙ there path t.disks i h e is))) ∙ e

space_frees : (t : Configuration) (held : List Command) (sub : List ℕ) (nsid : ℕ)
    (s : SubsystemRow) (n : Option NamespaceRow) (i : ℕ) (h : Holder) → IsStanding t
    → map.get t.settings.subsystems sub ≡ Some s → map.get s.namespaces nsid ≡ n
    → none_on held (disk_of_space n) ≡ true → list_any (is_on i) held ≡ true
    → holder_at t i ≡ Some h → holder_at (freed_by t (paired s n)) i ≡ Some h
space_frees t held sub nsid s None i h st f g free busy e = e
space_frees t held sub nsid s (Some n) i h st f g free busy e =
    path_frees t held n.device_path n.disk i h
    ((st.sound.subsystems sub s f).namespaces nsid n g).disk free busy e

sub_frees : (t : Configuration) (held : List Command) (sub : List ℕ) (nsid : ℕ)
    (s : Option SubsystemRow) (i : ℕ) (h : Holder) → IsStanding t
    → map.get t.settings.subsystems sub ≡ s
    → none_on held (disk_of_space (space_in nsid s)) ≡ true → list_any (is_on i) held ≡ true
    → holder_at t i ≡ Some h → holder_at (freed_by t (rows_in nsid s)) i ≡ Some h
sub_frees t held sub nsid None i h st f free busy e = e
sub_frees t held sub nsid (Some s) i h st f free busy e =
    space_frees t held sub nsid s (map.get s.namespaces nsid) i h st f refl free busy e

drain_keeps : (t : Configuration) (held : List Command) (sub : List ℕ) (nsid i : ℕ) (h : Holder)
    → IsStanding t → none_on held (disk_at t sub nsid) ≡ true → list_any (is_on i) held ≡ true
    → holder_at t i ≡ Some h → holder_at (drained t sub nsid) i ≡ Some h
drain_keeps t held sub nsid i h st free busy e =
    sub_frees t held sub nsid (map.get t.settings.subsystems sub) i h st refl free busy e

-- ---- a fabrics command changes no disk
answer_keeps : (t : Configuration) (a : Answer) → Keeps t (tree_after t a)
unfolding tree_after
answer_keeps t (Refused fault) i h e = e
answer_keeps t (Makes bound host) i h e = e
answer_keeps t (Joins bound) i h e = e
answer_keeps t (Reads value) i h e = e
answer_keeps t (Sets value) i h e = e

control_keeps : (t : Target) (queue : ℕ) (e : Sqe) (payload : List ℕ) (b : Option Binding)
    → Keeps t.tree (after_control t queue e payload b).tree
control_keeps t queue e payload None i h is = is
control_keeps t queue e payload (Some b) i h is =
    answer_keeps t.tree (answer_on t e payload b) i h is

-- ---- the law
queue_keeps : (t : Target) (call : Call) (i : ℕ) (h : Holder) → is_editors call ≡ false
    → holder_at t.tree i ≡ Some h → holder_at (target_after t call).tree i ≡ Some h
queue_keeps t call i h own e =
    ap (λ (d : Desk). holder_at d.tree i) (queues_leave t call own) ∙ e

pub keeps_holder : (t : Target) (call : Call) (disk : ℕ) (h : Holder) → IsStanding t.tree
    → IsTrue (is_lawful t call) → IsTrue (list_any (is_on disk) t.held)
    → holder_at t.tree disk ≡ Some h → holder_at (target_after t call).tree disk ≡ Some h
unfolding changed
keeps_holder t (Submit queue number e) disk h st lawful busy is =
    queue_keeps t (Submit queue number e) disk h refl is
keeps_holder t (Execute queue number payload) disk h st lawful busy is =
    queue_keeps t (Execute queue number payload) disk h refl is
keeps_holder t (Poll queue) disk h st lawful busy is = is
keeps_holder t (Control queue number e payload) disk h st lawful busy is =
    control_keeps t queue e payload (binding_at t queue) disk h is
keeps_holder t (AnEdit line e) disk h st lawful busy is =
    after_keeps t (outcome t.tree e) (edit_keeps t.tree e) disk h is
keeps_holder t (DrainEnd line sub nsid) disk h st lawful busy is =
    drain_keeps t.tree t.held sub nsid disk h st
    (both_true (is_draining_phase (phase_at t.tree sub nsid))
    (none_on t.held (disk_at t.tree sub nsid)) lawful).1 busy is
