-- What a link that is made or taken away changes of a tree, and what it leaves.
use Rattle.std.proofs.Common.{◌≡◌, ◌⊎◌, inl, inr, ℕ, Bool, true, false, not, List, Option, Some, None, refl, sym, ap, subst, ◌∙◌}
use mathlib.Core.Logic.{⊎_elim}
use Rattle.std.specs.Cmp.{nat_cmp_total}
use Rattle.std.specs.Cmp.Lexicographic.{nat_list_cmp_total}
use Rattle.std.specs.Ordering.{nat_cmp}
use Rattle.std.specs.FinMap as map
use Rattle.std.specs.FinMap.{FinMap, nat_cmp-IsAntisymmetric, slice_cmp-IsAntisymmetric, IsAntisymmetric}
use Rattle.sqe_cqe.specs.declared.rows.Ana.{Ana}
use Rattle.configfs_rows.specs.Nqns.{name_order}
use Rattle.configfs_rows.specs.Subsystems.{put_allowed}
use Rattle.configfs_rows.specs.Ports.{put_link}
use Rattle.configfs_rows.specs.declared.subsystems.SubsystemRow.{SubsystemRow}
use Rattle.configfs_rows.specs.declared.ports.PortRow.{PortRow}
use Rattle.configfs_tree.specs.Outcome.{touching, on_subsystem, on_port}
use Rattle.configfs_tree.specs.Standing.{Placed, placed, placed_in}
use Rattle.configfs_tree.specs.Stays.{Stays, SubsystemAt, PortAt}
use Rattle.configfs_tree.specs.Told.{Tells, OneRow, OneOf, enabled_row, subsystem_front, port_front, group_in}
use Rattle.configfs_tree.specs.declared.edits.Touched.TheVariants as touches
use Rattle.configfs_tree.specs.declared.configuration.Settings.{Settings}
use Rattle.configfs_tree.specs.declared.configuration.Configuration.{Configuration}
use Rattle.link_rules.proofs.Maps.{some_same, none_some, cases_key, get_here, get_beside, look_same, kept_differs}

abbrev Rows : Type 0
Rows = FinMap name_order SubsystemRow

abbrev Ports : Type 0
Ports = FinMap nat_cmp PortRow

names_same : IsAntisymmetric name_order
names_same = slice_cmp-IsAntisymmetric nat_cmp-IsAntisymmetric

-- ---- a host is allowed, or isn't any more
module _ (t : Configuration) (sub host : List ℕ) (linked : Bool) (s : SubsystemRow)
    (found : map.get t.settings.subsystems sub ≡ Some s) where
  abbrev m : Rows
  m = t.settings.subsystems

  abbrev f : SubsystemRow → SubsystemRow
  f = put_allowed host linked

  abbrev u : Configuration
  u = on_subsystem t sub f

  same_space : (a : List ℕ) (j : ℕ) → placed u.settings.subsystems a j ≡ placed m a j
  same_space a j = look_same nat_list_cmp_total names_same (placed_in j) m sub f s found refl a

  row_differs : map.contains_key s.allowed_hosts host ≡ not linked → u.settings ≡ t.settings → ⊥
  row_differs was e =
      let here : Some (f s) ≡ Some s = sym (get_here nat_list_cmp_total names_same m sub f s found)
      ∙ (ap (λ (x : Settings). map.get x.subsystems sub) e ∙ found) in
      kept_differs nat_list_cmp_total s.allowed_hosts host linked was
      (ap (λ (x : SubsystemRow). x.allowed_hosts) (some_same (f s) s here))

  same_group : (a : List ℕ) (j : ℕ) (x y : Placed) → placed m a j ≡ Some x
      → placed u.settings.subsystems a j ≡ Some y → y.row.group ≡ x.row.group
  same_group a j x y e g = ap (λ (z : Placed). z.row.group)
      (some_same y x (sym g ∙ (same_space a j ∙ e)))

  same_port : (id : ℕ) (p q : PortRow) → map.get t.settings.ports id ≡ Some p
      → map.get t.settings.ports id ≡ Some q → q.groups ≡ p.groups
  same_port id p q e g = ap (λ (z : PortRow). z.groups) (some_same q p (sym g ∙ e))

  allowed_row : OneRow t u (touches.Subsystem s.at)
  allowed_row = record {
    spaces = λ a j. inl (same_space a j);
    subsystems = λ a. ⊎_elim
        (λ (is : a ≡ sub). inr (s, inl (ap (λ (y : List ℕ). map.get m y) is ∙ found), refl))
        (λ ne. inl (ap subsystem_front
        (get_beside nat_list_cmp_total names_same m sub f s found a ne)))
        (cases_key nat_list_cmp_total names_same a sub);
    ports = λ id. inl refl;
    groups = λ id group. inl refl;
  }

  pub allowed_tells : map.contains_key s.allowed_hosts host ≡ not linked
      → Tells t u (touching (touches.Subsystem s.at))
  allowed_tells was = record {
    published = inl (refl, row_differs was);
    spaces = λ a j. inl (ap enabled_row (same_space a j));
    space_named = λ at nsid e. absurd (none_some (at, nsid) e);
    space_none = λ _. refl;
    ports = λ id p q e g. inl (same_port id p q e g);
    port_named = λ at e. absurd (none_some at e);
    groups = λ a j x y e g. inl (same_group a j x y e g);
    subsystem_named = λ at e. absurd (none_some at e);
    one = inl refl;
    count = refl;
    rows = allowed_row;
  }

  still_at : (a : List ℕ) (at : ℕ) → SubsystemAt t a at → SubsystemAt u a at
  still_at a at x = ⊎_elim
      (λ (is : a ≡ sub).
      let same : x.row ≡ s = some_same x.row s (sym x.found
      ∙ (ap (λ (y : List ℕ). map.get m y) is ∙ found)) in
      record {
        row = f s;
        found = ap (λ (y : List ℕ). map.get u.settings.subsystems y) is
            ∙ get_here nat_list_cmp_total names_same m sub f s found;
        at_is = sym (ap (λ (z : SubsystemRow). z.at) same) ∙ x.at_is;
      })
      (λ ne. record {
        row = x.row;
        found = get_beside nat_list_cmp_total names_same m sub f s found a ne ∙ x.found;
        at_is = x.at_is;
      })
      (cases_key nat_list_cmp_total names_same a sub)

  pub allowed_stays : Stays t u
  allowed_stays = record {
    attached = refl;
    subsystems = λ a at busy x. still_at a at x;
    ports = λ id at busy x. record { row = x.row; found = x.found; at_is = x.at_is };
  }

-- ---- a port links a subsystem, or doesn't any more
abbrev groups_of : Option PortRow → Option (FinMap nat_cmp Ana)
groups_of None = None
groups_of (Some p) = Some p.groups

module _ (t : Configuration) (id : ℕ) (sub : List ℕ) (linked : Bool) (p : PortRow)
    (found : map.get t.settings.ports id ≡ Some p) where
  abbrev n : Ports
  n = t.settings.ports

  abbrev g : PortRow → PortRow
  g = put_link sub linked

  abbrev v : Configuration
  v = on_port t id g

  port_differs : map.contains_key p.links sub ≡ not linked → v.settings ≡ t.settings → ⊥
  port_differs was e =
      let here : Some (g p) ≡ Some p = sym (get_here nat_cmp_total nat_cmp-IsAntisymmetric n id g p
      found)
      ∙ (ap (λ (x : Settings). map.get x.ports id) e ∙ found) in
      kept_differs nat_list_cmp_total p.links sub linked was
      (ap (λ (x : PortRow). x.links) (some_same (g p) p here))

  same_groups : (k : ℕ) (x y : PortRow) → map.get n k ≡ Some x → map.get v.settings.ports k ≡ Some y
      → y.groups ≡ x.groups
  same_groups k x y e h = some_same y.groups x.groups (sym (ap groups_of h)
      ∙ (look_same nat_cmp_total nat_cmp-IsAntisymmetric groups_of n id g p found refl k
      ∙ ap groups_of e))

  same_in_space : (a : List ℕ) (j : ℕ) (x y : Placed)
      → placed t.settings.subsystems a j ≡ Some x → placed t.settings.subsystems a j ≡ Some y
      → y.row.group ≡ x.row.group
  same_in_space a j x y e h = ap (λ (z : Placed). z.row.group) (some_same y x (sym h ∙ e))

  linked_row : OneRow t v (touches.Port p.at)
  linked_row = record {
    spaces = λ a j. inl refl;
    subsystems = λ a. inl refl;
    ports = λ k. ⊎_elim
        (λ (is : k ≡ id). inr (p, inl (ap (λ (y : ℕ). map.get n y) is ∙ found), refl))
        (λ ne. inl (ap port_front (get_beside nat_cmp_total nat_cmp-IsAntisymmetric n id g p found
        k ne)))
        (cases_key nat_cmp_total nat_cmp-IsAntisymmetric k id);
    groups = λ k group. inl (look_same nat_cmp_total nat_cmp-IsAntisymmetric
        (λ (o : Option PortRow). group_in o group) n id g p found refl k);
  }

  pub linked_tells : map.contains_key p.links sub ≡ not linked
      → Tells t v (touching (touches.Port p.at))
  linked_tells was = record {
    published = inl (refl, port_differs was);
    spaces = λ a j. inl refl;
    space_named = λ at nsid e. absurd (none_some (at, nsid) e);
    space_none = λ _. refl;
    ports = λ k x y e h. inl (same_groups k x y e h);
    port_named = λ at e. absurd (none_some at e);
    groups = λ a j x y e h. inl (same_in_space a j x y e h);
    subsystem_named = λ at e. absurd (none_some at e);
    one = inl refl;
    count = refl;
    rows = linked_row;
  }

  port_still_at : (k : ℕ) (at : ℕ) → PortAt t k at → PortAt v k at
  port_still_at k at x = ⊎_elim
      (λ (is : k ≡ id).
      let same : x.row ≡ p = some_same x.row p (sym x.found
      ∙ (ap (λ (y : ℕ). map.get n y) is ∙ found)) in
      record {
        row = g p;
        found = ap (λ (y : ℕ). map.get v.settings.ports y) is
            ∙ get_here nat_cmp_total nat_cmp-IsAntisymmetric n id g p found;
        at_is = sym (ap (λ (z : PortRow). z.at) same) ∙ x.at_is;
      })
      (λ ne. record {
        row = x.row;
        found = get_beside nat_cmp_total nat_cmp-IsAntisymmetric n id g p found k ne ∙ x.found;
        at_is = x.at_is;
      })
      (cases_key nat_cmp_total nat_cmp-IsAntisymmetric k id)

  pub linked_stays : Stays t v
  linked_stays = record {
    attached = refl;
    subsystems = λ a at busy x. record { row = x.row; found = x.found; at_is = x.at_is };
    ports = λ k at busy x. port_still_at k at x;
  }
