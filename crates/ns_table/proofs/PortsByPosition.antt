-- ANA groups by the position of their port, where an edit names the port by its ID.
use Rattle.std.proofs.Common.{◌≡◌, ◌⊎◌, ℕ, ◌==◌, Option, Some, None, refl, sym, ap, subst, ◌∙◌, inl, inr}
use Rattle.std.proofs.lemmas.Bool.{eqb-true}
use Rattle.std.specs.FinMap as map
use Rattle.sqe_cqe.specs.declared.rows.Ana.{Ana}
use Rattle.configfs_rows.specs.declared.ports.PortRow.{PortRow}
use Rattle.configfs_tree.specs.declared.configuration.Configuration.{Configuration}
use Rattle.configfs_tree.specs.declared.edits.Touched.{Touched}
use Rattle.configfs_tree.specs.declared.edits.Touched.TheVariants as touches
use Rattle.configfs_tree.specs.Links.{port_row, PortPositions}
use Rattle.configfs_tree.specs.Told.{OneRow}
use Rattle.configfs_tree.specs.Told as told
use Rattle.tree_target.specs.Views.{group_in}
use Rattle.ns_table.proofs.Spaces.{none-some, some-same, found-passes}

-- what a change tells of a group
abbrev pub IsGroupTold : Touched → ℕ → ℕ → Type 0
IsGroupTold touched p g = (touched ≡ touches.Group p g) ⊎ ((touched ≡ touches.Port p) × (g ≡ 1))

record Found (t : Configuration) (p g : ℕ) (a : Ana) : Type 0 where
  row : PortRow
  at_is : row.at ≡ p
  named : map.get t.settings.ports row.id ≡ Some row
  stands : map.get row.groups g ≡ Some a

found-row : (t : Configuration) (p g : ℕ) (a : Ana) (o : Option PortRow) → PortPositions t → port_row t p ≡ o → group_in g o ≡ Some a → Found t p g a
found-row t p g a None h e is = absurd (none-some a is)
found-row t p g a (Some row) h e is = record {
  row = row;
  at_is = eqb-true row.at p (found-passes (λ (r : PortRow). r.at == p) (map.values t.settings.ports) row e);
  named = h.of_position p row e;
  stands = is;
}

-- a group by the ID of its port
record Held (u : Configuration) (id g : ℕ) (a : Ana) : Type 0 where
  row : PortRow
  named : map.get u.settings.ports id ≡ Some row
  stands : map.get row.groups g ≡ Some a

held-on : (u : Configuration) (id g : ℕ) (a : Ana) (o : Option PortRow) → map.get u.settings.ports id ≡ o → told.group_in o g ≡ Some a → Held u id g a
held-on u id g a None e is = absurd (none-some a is)
held-on u id g a (Some row) e is = record { row = row; named = e; stands = is }

-- the rows of one tree are those of another but for one, seen from either
record Beside (t u : Configuration) (touched : Touched) : Type 0 where
  groups : (id group : ℕ) → (told.group_in (map.get u.settings.ports id) group ≡ told.group_in (map.get t.settings.ports id) group)
      ⊎ ((p : PortRow) × ((map.get t.settings.ports id ≡ Some p) ⊎ (map.get u.settings.ports id ≡ Some p)) × IsGroupTold touched p.at group)
  places : (id : ℕ) (p q : PortRow) → map.get t.settings.ports id ≡ Some p → map.get u.settings.ports id ≡ Some q → q.at ≡ p.at

follow : (t u : Configuration) (touched : Touched) (p g : ℕ) (a : Ana) → PortPositions t → PortPositions u → Beside t u touched
    → group_in g (port_row t p) ≡ Some a → (group_in g (port_row u p) ≡ Some a) ⊎ IsGroupTold touched p g
follow t u touched p g a ht hu b is =
    let f = found-row t p g a (port_row t p) ht refl is in
    elim (b.groups f.row.id g) [
      | inl same ↦
          let old : told.group_in (map.get t.settings.ports f.row.id) g ≡ Some a = ap (λ (o : Option PortRow). told.group_in o g) f.named ∙ f.stands in
          let k = held-on u f.row.id g a (map.get u.settings.ports f.row.id) refl (same ∙ old) in
          let place : k.row.at ≡ p = b.places f.row.id f.row k.row f.named k.named ∙ f.at_is in
          let there : port_row u p ≡ Some k.row = subst (λ (n : ℕ). port_row u n ≡ Some k.row) place (hu.of_id f.row.id k.row k.named) in
          inl (ap (group_in g) there ∙ k.stands)
      | inr x ↦
          let place : x.0.at ≡ p = elim x.1 [
            | inl mine ↦ ap (λ (r : PortRow). r.at) (some-same x.0 f.row (sym mine ∙ f.named)) ∙ f.at_is
            | inr theirs ↦ b.places f.row.id f.row x.0 f.named theirs ∙ f.at_is
          ] in
          inr (subst (λ (n : ℕ). IsGroupTold touched n g) place x.2)
    ]

both-ways : (o p : Option Ana) (P : Type 0) → ((a : Ana) → o ≡ Some a → (p ≡ Some a) ⊎ P) → ((a : Ana) → p ≡ Some a → (o ≡ Some a) ⊎ P) → (p ≡ o) ⊎ P
both-ways None None P there back = inl refl
both-ways (Some a) p P there back = elim (there a refl) [ inl same ↦ inl same | inr h ↦ inr h ]
both-ways None (Some b) P there back = elim (back b refl) [ inl same ↦ absurd (none-some b same) | inr h ↦ inr h ]

beside : (t u : Configuration) (touched : Touched) → OneRow t u touched
    → ((id : ℕ) (p q : PortRow) → map.get t.settings.ports id ≡ Some p → map.get u.settings.ports id ≡ Some q → q.at ≡ p.at) → Beside t u touched
beside t u touched h places = record { groups = h.groups; places = places }

beside-back : (t u : Configuration) (touched : Touched) → OneRow t u touched
    → ((id : ℕ) (p q : PortRow) → map.get t.settings.ports id ≡ Some p → map.get u.settings.ports id ≡ Some q → q.at ≡ p.at) → Beside u t touched
beside-back t u touched h places = record {
  groups = λ id g. elim (h.groups id g) [ inl same ↦ inl (sym same) | inr x ↦ inr (x.0, elim x.1 [ inl a ↦ inr a | inr b ↦ inl b ], x.2) ];
  places = λ id p q hp hq. sym (places id q p hq hp);
}

-- a group at a position is as before, or is what the change tells of
pub group-as-before : (t u : Configuration) (touched : Touched) (p g : ℕ) → PortPositions t → PortPositions u → OneRow t u touched
    → ((id : ℕ) (p q : PortRow) → map.get t.settings.ports id ≡ Some p → map.get u.settings.ports id ≡ Some q → q.at ≡ p.at)
    → (group_in g (port_row u p) ≡ group_in g (port_row t p)) ⊎ IsGroupTold touched p g
group-as-before t u touched p g ht hu h places =
    both-ways (group_in g (port_row t p)) (group_in g (port_row u p)) (IsGroupTold touched p g)
    (λ a is. follow t u touched p g a ht hu (beside t u touched h places) is)
    (λ a is. follow u t touched p g a hu ht (beside-back t u touched h places) is)
