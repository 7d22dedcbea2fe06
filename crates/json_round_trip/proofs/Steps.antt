-- Edits that are made one after another, rows of the table that don't refuse, and finite maps with
-- one entry written again.
use Rattle.std.proofs.Common.{◌≡◌, ℕ, Bool, true, false, cond, List, [], ◌∷◌, ◌++◌, Option, Some, refl, sym, ap, ◌∙◌, append_assoc}
use Rattle.std.specs.List.{AllByRecursion}
use Rattle.std.specs.Option.{option_and_then}
use Rattle.std.specs.Ordering.{eq_by_cmp, nat_cmp}
use Rattle.std.specs.declared.cmp.Ordering.{Ordering}
use Rattle.std.specs.Cmp.{IsTotalOrder}
use Rattle.std.specs.FinMap as map
use Rattle.std.specs.FinMap.{FinMap, IsAntisymmetric}
use Rattle.configfs_rows.specs.Nqns.{name_order}
use Rattle.configfs_rows.specs.Maps.{updated, update_at}
use Rattle.configfs_rows.proofs.Gets.{get-insert_at}
use Rattle.configfs_rows.specs.declared.disks.DiskRow.{DiskRow}
use Rattle.configfs_rows.specs.declared.namespaces.NamespaceRow.{NamespaceRow}
use Rattle.configfs_rows.specs.declared.subsystems.SubsystemRow.{SubsystemRow}
use Rattle.configfs_rows.specs.declared.ports.PortRow.{PortRow}
use Rattle.configfs_tree.specs.NamespaceRows.{paired, rows_in}
use Rattle.configfs_tree.specs.Outcome.{Outcome, Refuses, first_of, if_subsystem, if_rows, if_port}
use Rattle.configfs_tree.specs.Start.{empty_settings}
use Rattle.configfs_tree.specs.declared.edits.Errno.{Errno}
use Rattle.configfs_tree.specs.declared.configuration.Configuration.{Configuration}
use Rattle.link_rules.specs.declared.edits.Edit.{Edit}
use Rattle.nvmetcli_json.specs.Laws.{edited, all_edited}

abbrev pub Hosts : Type 0
Hosts = FinMap name_order (Unit {0})

abbrev pub Spaces : Type 0
Spaces = FinMap nat_cmp NamespaceRow

abbrev pub Rows : Type 0
Rows = FinMap name_order SubsystemRow

abbrev pub Ports : Type 0
Ports = FinMap nat_cmp PortRow

-- a tree that no controller is attached to
abbrev pub tree_of : Hosts → Rows → Ports → ℕ → List DiskRow → Configuration
tree_of hosts subsystems ports count disks = record {
  settings = record empty_settings {
    hosts = hosts;
    subsystems = subsystems;
    ports = ports;
    ana_count = count;
  };
  disks = disks;
}

-- ---- one edit after another
-- these edits make that tree of this one, whatever comes after them
abbrev pub Goes : Configuration → List Edit → Configuration → Type 0
Goes t es u = (rest : List Edit) → all_edited t (es ++ rest) ≡ all_edited u rest

pub goes_one : (t u : Configuration) (e : Edit) → edited t e ≡ Some u → Goes t (e ∷ []) u
unfolding all_edited
goes_one t u e is rest = ap (option_and_then (λ v. all_edited v rest)) is

pub goes_nowhere : (t u : Configuration) → t ≡ u → Goes t [] u
goes_nowhere t u is rest = ap (λ v. all_edited v rest) is

pub goes_then : (t u v : Configuration) (es fs : List Edit) → Goes t es u → Goes u fs v
    → Goes t (es ++ fs) v
goes_then t u v es fs a b rest = ap (all_edited t) (append_assoc es fs rest)
    ∙ (a (fs ++ rest) ∙ b rest)

-- ---- rows of the table
-- an edit is accepted where no row's condition holds
pub passes : (rows : List (Bool × Errno)) (accepted : Outcome)
    → AllByRecursion (λ (row : Bool × Errno). row.0 ≡ false) rows → first_of rows accepted
    ≡ accepted
unfolding first_of
passes [] accepted p = refl
passes (row ∷ rows) accepted p =
    ap (λ (b : Bool). cond b (Refuses row.1) (first_of rows accepted)) p.0
    ∙ passes rows accepted p.1

pub in_sub : (m : Rows) (sub : List ℕ) (s : SubsystemRow) (f : SubsystemRow → Outcome)
    → map.get m sub ≡ Some s → if_subsystem (map.get m sub) f ≡ f s
unfolding if_subsystem
in_sub m sub s f e = ap (λ (o : Option SubsystemRow). if_subsystem o f) e

pub in_space : (m : Rows) (sub : List ℕ) (nsid : ℕ) (s : SubsystemRow) (n : NamespaceRow)
    (f : SubsystemRow → NamespaceRow → Outcome) → map.get m sub ≡ Some s
    → map.get s.namespaces nsid ≡ Some n → if_rows (rows_in nsid (map.get m sub)) f ≡ f s n
unfolding if_rows
in_space m sub nsid s n f e g = ap (λ (o : Option (SubsystemRow × NamespaceRow)). if_rows o f)
    (ap (rows_in nsid) e ∙ ap (paired s) g)

pub at_port : (m : Ports) (id : ℕ) (p : PortRow) (f : PortRow → Outcome) → map.get m id ≡ Some p
    → if_port (map.get m id) f ≡ f p
unfolding if_port
at_port m id p f e = ap (λ (o : Option PortRow). if_port o f) e

-- ---- finite maps
cond_again : {A : Type 0} (b : Bool) (x y z : A) → cond b y (cond b x z) ≡ cond b y z
cond_again true x y z = refl
cond_again false x y z = refl

module _ {K X : Type 0} {R : K → K → Ordering} (o : IsTotalOrder R) (same : IsAntisymmetric R) where
  pub insert_again : (m : FinMap R X) (k : K) (x y : X)
      → map.insert (map.insert m k x) k y ≡ map.insert m k y
  insert_again m k x y = map.same_map o same _ _ (λ q.
      map.get-insert o (map.insert m k x) k y q
      ∙ (ap (cond (eq_by_cmp R q k) (Some y)) (map.get-insert o m k x q)
      ∙ (cond_again (eq_by_cmp R q k) (Some x) (Some y) (map.get m q)
      ∙ sym (map.get-insert o m k y q))))

  -- a write to what was inserted
  pub update_here : (m : FinMap R X) (k : K) (x : X) (f : X → X)
      → update_at (map.insert m k x) k f ≡ map.insert m k (f x)
  update_here m k x f = ap (updated (map.insert m k x) k f) (get-insert_at o same m k x)
      ∙ insert_again m k x (f x)
