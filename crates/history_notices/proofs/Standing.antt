-- The tree that an accepted edit leaves is one that calls reach, where the tree before it is.
use Rattle.std.proofs.Common.{◌≡◌, ℕ, not, Bool, true, false, IsTrue, List, Option, Some, codes, refl, sym, ap, subst, ◌∙◌}
use Rattle.std.specs.Str.{bytes_eq}
use Rattle.std.specs.FinMap as map
use Rattle.std.proofs.lemmas.Bool.{both_ways}
use Rattle.configfs_rows.specs.Subsystems.{put_allowed}
use Rattle.configfs_rows.specs.Ports.{put_link}
use Rattle.configfs_rows.specs.declared.subsystems.SubsystemRow.{SubsystemRow}
use Rattle.configfs_rows.specs.declared.ports.PortRow.{PortRow}
use Rattle.configfs_tree.specs.declared.configuration.Configuration.{Configuration}
use Rattle.configfs_tree.specs.declared.edits.Change.{Change}
use Rattle.configfs_tree.specs.Links.{allowed_in, linked_in, subsystem_row, port_row, allows_any, is_loop}
use Rattle.configfs_tree.specs.Outcome.{Outcome, Accepts, on_subsystem, on_port}
use Rattle.configfs_tree.specs.Standing.{IsPlaced, IsStanding}
use Rattle.configfs_tree.specs.Sound.{IsSound}
use Rattle.configfs_tree.proofs.Holds.{Holds, accepted, holds_row, holds_last, holds_if_subsystem, holds_if_port}
use Rattle.configfs_tree.proofs.KeptTable.{edit_keeps}
use Rattle.configfs_tree.proofs.SoundTable.{edit_sounds}
use Rattle.configfs_tree.proofs.Positions.{subsystem_positions, port_positions}
use Rattle.configfs_tree.proofs.Stands.{allow_stands, link_stands}
use Rattle.link_rules.specs.declared.edits.Edit.{Edit}
use Rattle.link_rules.specs.declared.edits.Edit.TheVariants as edit
use Rattle.link_rules.specs.declared.edits.LinkEdit.{LinkEdit}
use Rattle.link_rules.specs.declared.edits.LinkEdit.TheVariants as link
use Rattle.link_rules.specs.Table.{allow_host, disallow_host, link_subsystem, unlink_subsystem, link_outcome, edit_outcome}
use Rattle.history_notices.specs.Scripts.{CanBring}

on : (b : Bool) → not b ≡ false → b ≡ true
on true e = refl
on false e = absurd (both_ways true e refl)

never : {P : Type 0} → false ≡ true → P
never e = absurd cc

module _ (t : Configuration) (h : IsStanding t) where
  host_stands : (sub host : List ℕ) (linked : Bool) (s : SubsystemRow)
      → map.get t.settings.subsystems sub ≡ Some s
      → map.contains_key t.settings.hosts host ≡ true
      → (linked ≡ true → s.allow_any_host ≡ false)
      → IsStanding (on_subsystem t sub (put_allowed host linked))
  host_stands sub host linked s f there listed =
      let row : subsystem_row t s.at ≡ Some s =
      (subsystem_positions t h.placed).of_name sub s f in
      let own : s.nqn ≡ sub = h.placed.subsystems.own_key sub s f in
      let stands : IsStanding (allowed_in t host linked (subsystem_row t s.at)) =
      allow_stands t s.at host linked there (λ is. ap allows_any row ∙ listed is) h in
      subst (λ (n : List ℕ). IsStanding (on_subsystem t n (put_allowed host linked))) own
      (subst (λ (o : Option SubsystemRow). IsStanding (allowed_in t host linked o)) row stands)

  port_stands : (id : ℕ) (sub : List ℕ) (linked : Bool) (p : PortRow) (s : SubsystemRow)
      → map.get t.settings.ports id ≡ Some p → map.get t.settings.subsystems sub ≡ Some s
      → (linked ≡ true → bytes_eq p.trtype (codes "loop") ≡ true)
      → IsStanding (on_port t id (put_link sub linked))
  port_stands id sub linked p s f g loop =
      let at_port : port_row t p.at ≡ Some p = (port_positions t h.placed).of_id id p f in
      let at_sub : subsystem_row t s.at ≡ Some s =
      (subsystem_positions t h.placed).of_name sub s g in
      let own : s.nqn ≡ sub = h.placed.subsystems.own_key sub s g in
      let numbered : p.id ≡ id = h.placed.ports.own_key id p f in
      let stands : IsStanding (linked_in t linked (port_row t p.at) (subsystem_row t s.at)) =
      link_stands t p.at s.at linked
      (λ is. subst (λ (o : Option PortRow). IsTrue (is_loop o)) (sym at_port) (loop is)) h in
      subst (λ (i : ℕ). IsStanding (on_port t i (put_link sub linked))) numbered
      (subst (λ (n : List ℕ). IsStanding (on_port t p.id (put_link n linked))) own
      (subst (λ (o : Option SubsystemRow). IsStanding (linked_in t linked (Some p) o)) at_sub
      (subst (λ (o : Option PortRow). IsStanding (linked_in t linked o (subsystem_row t s.at)))
      at_port stands)))

  link_keeps : (e : LinkEdit) → Holds (λ u c. IsStanding u) (link_outcome t e)
  unfolding allow_host disallow_host link_subsystem unlink_subsystem
  link_keeps (link.AllowHost sub host) = holds_if_subsystem _ _ (λ s f. holds_row _ _ _ _
      (λ a. holds_row _ _ _ _ (λ b. holds_last _ _ _ _
      (λ d. host_stands sub host true s f (on _ a) (λ is. d)))))
  link_keeps (link.DisallowHost sub host) = holds_if_subsystem _ _ (λ s f. holds_row _ _ _ _
      (λ a. holds_last _ _ _ _
      (λ d. host_stands sub host false s f (on _ a) (λ is. never is))))
  link_keeps (link.LinkSubsystem id sub) = holds_if_port _ _ (λ p f. holds_if_subsystem _ _
      (λ s g. holds_row _ _ _ _ (λ a. holds_last _ _ _ _
      (λ d. port_stands id sub true p s f g (λ is. on _ d)))))
  link_keeps (link.UnlinkSubsystem id sub) = holds_if_port _ _ (λ p f. holds_if_subsystem _ _
      (λ s g. holds_last _ _ _ _ (λ d. port_stands id sub false p s f g (λ is. never is))))

  placed_by : (o : Outcome) (u : Configuration) (c : Change) → Holds (λ v d. IsPlaced v) o
      → o ≡ Accepts u c → IsPlaced u
  placed_by o u c k is = accepted {P = λ v d. IsPlaced v} u c
      (subst (λ (x : Outcome). Holds (λ v d. IsPlaced v) x) is k)

  sound_by : (o : Outcome) (u : Configuration) (c : Change) → Holds (λ v d. IsSound v) o
      → o ≡ Accepts u c → IsSound u
  sound_by o u c k is = accepted {P = λ v d. IsSound v} u c
      (subst (λ (x : Outcome). Holds (λ v d. IsSound v) x) is k)

  pub edited_stands : (e : Edit) (u : Configuration) (c : Change) → CanBring e
      → edit_outcome t e ≡ Accepts u c → IsStanding u
  edited_stands (edit.Folder e) u c can is = record {
    placed = placed_by (edit_outcome t (edit.Folder e)) u c (edit_keeps t e h.placed) is;
    sound = sound_by (edit_outcome t (edit.Folder e)) u c
        (edit_sounds t e can.0 can.1 h.sound) is;
  }
  edited_stands (edit.Link e) u c can is = accepted {P = λ v d. IsStanding v} u c
      (subst (λ (x : Outcome). Holds (λ v d. IsStanding v) x) is (link_keeps e))
