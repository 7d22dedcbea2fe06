-- Edits leave what is attached, and in a new tree nothing is.
use Rattle.std.proofs.Common.{◌≡◌, ◌≤◌, ℕ, Bool, List, [], Option, Some, None, slice_index, replicate, length, zero, suc, refl, sym, ap, subst, arith}
use Rattle.configfs_rows.specs.declared.subsystems.SubsystemRow.{SubsystemRow}
use Rattle.configfs_rows.specs.declared.ports.PortRow.{PortRow}
use Rattle.configfs_tree.specs.Links.{with_link, linked_in, with_allowed, allowed_in, port_row, subsystem_row}
use Rattle.configfs_tree.specs.Start.{empty_tree}
use Rattle.configfs_tree.specs.declared.configuration.Attached.{Attached}
use Rattle.configfs_tree.specs.declared.configuration.Configuration.{Configuration}
use Rattle.sqe_cqe.specs.declared.controllers.ControllerRow.{ControllerRow}
use Rattle.fabrics_connect.specs.After.{AttachedAreThere}

linked_leaves : (t : Configuration) (linked : Bool) (p : Option PortRow) (s : Option SubsystemRow)
    → (linked_in t linked p s).settings.attached ≡ t.settings.attached
linked_leaves t linked None s = refl
linked_leaves t linked (Some p) None = refl
linked_leaves t linked (Some p) (Some s) = refl

pub link_leaves : (t : Configuration) (port sub : ℕ) (linked : Bool)
    → (with_link t port sub linked).settings.attached ≡ t.settings.attached
link_leaves t port sub linked = linked_leaves t linked (port_row t port) (subsystem_row t sub)

allowed_leaves : (t : Configuration) (host : List ℕ) (linked : Bool) (s : Option SubsystemRow)
    → (allowed_in t host linked s).settings.attached ≡ t.settings.attached
allowed_leaves t host linked None = refl
allowed_leaves t host linked (Some s) = refl

pub allow_leaves : (t : Configuration) (sub : ℕ) (host : List ℕ) (linked : Bool)
    → (with_allowed t sub host linked).settings.attached ≡ t.settings.attached
allow_leaves t sub host linked = allowed_leaves t host linked (subsystem_row t sub)

no_more : (n at : ℕ) → slice_index (replicate n 0) at ≤ 0
no_more zero at = omega arith
no_more (suc n) zero = omega arith
no_more (suc n) (suc at) = no_more n at

pub none_attached : (t : Configuration) → t.settings.attached ≡ (empty_tree []).settings.attached
    → AttachedAreThere t []
none_attached t e = record {
  subsystems = λ at. subst (λ (a : Attached). slice_index a.subsystems at ≤ 0) (sym e) (no_more 16 at);
  ports = λ at. subst (λ (a : Attached). slice_index a.ports at ≤ 0) (sym e) (no_more 8 at);
}

pub still_there : (t u : Configuration) (cs : List ControllerRow)
    → u.settings.attached ≡ t.settings.attached → AttachedAreThere t cs → AttachedAreThere u cs
still_there t u cs e h = record {
  subsystems = λ at. subst (λ (a : Attached). slice_index a.subsystems at ≤ length cs) (sym e) (h.subsystems at);
  ports = λ at. subst (λ (a : Attached). slice_index a.ports at ≤ length cs) (sym e) (h.ports at);
}
