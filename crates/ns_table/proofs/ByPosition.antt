-- Rows by position, where an edit names them by name.
use Rattle.std.proofs.Common.{◌≡◌, ◌⊎◌, ℕ, ◌==◌, List, Option, Some, None, refl, sym, ap, subst, ◌∙◌, inl, inr}
use Rattle.std.proofs.lemmas.Bool.{eqb-true}
use Rattle.std.specs.FinMap as map
use Rattle.configfs_rows.specs.declared.namespaces.NamespaceRow.{NamespaceRow}
use Rattle.configfs_rows.specs.declared.subsystems.SubsystemRow.{SubsystemRow}
use Rattle.configfs_tree.specs.declared.configuration.Configuration.{Configuration}
use Rattle.configfs_tree.specs.declared.edits.Touched.{Touched}
use Rattle.configfs_tree.specs.declared.edits.Touched.TheVariants as touches
use Rattle.configfs_tree.specs.Links.{subsystem_row, SubsystemPositions}
use Rattle.configfs_tree.specs.Standing.{Placed, placed_in, placed_row}
use Rattle.configfs_tree.specs.Told.{OneRow, space, subsystem_front}
use Rattle.tree_target.specs.Views.{space_in}
use Rattle.ns_table.proofs.Spaces.{none-some, some-same, found-passes}

-- a namespace at a position, with its subsystem
pub record Found (t : Configuration) (s n : ℕ) (a : NamespaceRow) : Type 0 where
  pub row : SubsystemRow
  pub at_is : row.at ≡ s
  pub named : map.get t.settings.subsystems row.nqn ≡ Some row
  pub stands : map.get row.namespaces n ≡ Some a

-- by its name it is placed there
pub found-placed : (t : Configuration) (s n : ℕ) (a : NamespaceRow) (f : Found t s n a) → space t f.row.nqn n ≡ Some (record { at = s; row = a })
found-placed t s n a f =
    ap (placed_in n) f.named ∙ (ap (placed_row f.row.at) f.stands ∙ ap (λ (k : ℕ). let x : Placed = record { at = k; row = a } in Some x) f.at_is)

-- what is placed by a name stands at its position
placed-in-row : (row : SubsystemRow) (n : ℕ) (o : Option NamespaceRow) (x : Placed) → map.get row.namespaces n ≡ o → placed_row row.at o ≡ Some x → (row.at ≡ x.at) × (map.get row.namespaces n ≡ Some x.row)
placed-in-row row n None x e is = absurd (none-some x is)
placed-in-row row n (Some b) x e is =
    let y : Placed = record { at = row.at; row = b } in
    let same : y ≡ x = some-same y x is in
    (ap (λ (p : Placed). p.at) same, e ∙ ap (λ (p : Placed). Some p.row) same)

placed-on : (u : Configuration) (sub : List ℕ) (n : ℕ) (o : Option SubsystemRow) (x : Placed) → SubsystemPositions u → map.get u.settings.subsystems sub ≡ o → placed_in n o ≡ Some x
    → space_in n (subsystem_row u x.at) ≡ Some x.row
placed-on u sub n None x h e is = absurd (none-some x is)
placed-on u sub n (Some row) x h e is =
    let both = placed-in-row row n (map.get row.namespaces n) x refl is in
    let there : subsystem_row u x.at ≡ Some row = subst (λ (k : ℕ). subsystem_row u k ≡ Some row) both.0 (h.of_name sub row e) in
    ap (space_in n) there ∙ both.1

pub placed-there : (u : Configuration) (sub : List ℕ) (n : ℕ) (x : Placed) → SubsystemPositions u → space u sub n ≡ Some x → space_in n (subsystem_row u x.at) ≡ Some x.row
placed-there u sub n x h is = placed-on u sub n (map.get u.settings.subsystems sub) x h refl is

-- what is seen at a position is found there
found-row : (t : Configuration) (s n : ℕ) (a : NamespaceRow) (o : Option SubsystemRow) → SubsystemPositions t → subsystem_row t s ≡ o → space_in n o ≡ Some a → Found t s n a
found-row t s n a None h e is = absurd (none-some a is)
found-row t s n a (Some row) h e is = record {
  row = row;
  at_is = eqb-true row.at s (found-passes (λ (r : SubsystemRow). r.at == s) (map.values t.settings.subsystems) row e);
  named = h.of_position s row e;
  stands = is;
}

pub found-at : (t : Configuration) (s n : ℕ) (a : NamespaceRow) → SubsystemPositions t → space_in n (subsystem_row t s) ≡ Some a → Found t s n a
found-at t s n a h is = found-row t s n a (subsystem_row t s) h refl is

-- ---- from one tree to another that differs in one row
-- a subsystem that is there in both, with what else than namespaces it has as before, stands at its position
front-place : (r s : SubsystemRow) → subsystem_front (Some r) ≡ subsystem_front (Some s) → r.at ≡ s.at
front-place r s same = ap (λ (x : SubsystemRow). x.at) (some-same _ _ same)

-- what is placed has a subsystem
pub record Under (t : Configuration) (sub : List ℕ) (x : Placed) : Type 0 where
  pub row : SubsystemRow
  pub named : map.get t.settings.subsystems sub ≡ Some row
  pub at_is : row.at ≡ x.at

under-on : (t : Configuration) (sub : List ℕ) (n : ℕ) (o : Option SubsystemRow) (x : Placed) → map.get t.settings.subsystems sub ≡ o → placed_in n o ≡ Some x → Under t sub x
under-on t sub n None x e is = absurd (none-some x is)
under-on t sub n (Some row) x e is = record { row = row; named = e; at_is = (placed-in-row row n (map.get row.namespaces n) x refl is).0 }

pub under : (t : Configuration) (sub : List ℕ) (n : ℕ) (x : Placed) → space t sub n ≡ Some x → Under t sub x
under t sub n x is = under-on t sub n (map.get t.settings.subsystems sub) x refl is

-- the rows of one tree are those of another but for one, seen from either
pub record Beside (t u : Configuration) (touched : Touched) : Type 0 where
  pub spaces : (sub : List ℕ) (nsid : ℕ) → (space u sub nsid ≡ space t sub nsid)
      ⊎ ((x : Placed) × ((space t sub nsid ≡ Some x) ⊎ (space u sub nsid ≡ Some x)) × (touched ≡ touches.Namespace x.at nsid))
  pub subsystems : (sub : List ℕ) → (subsystem_front (map.get u.settings.subsystems sub) ≡ subsystem_front (map.get t.settings.subsystems sub))
      ⊎ ((s : SubsystemRow) × (touched ≡ touches.Subsystem s.at))

pub beside : (t u : Configuration) (touched : Touched) → OneRow t u touched → Beside t u touched
beside t u touched h = record {
  spaces = h.spaces;
  subsystems = λ sub. elim (h.subsystems sub) [ inl same ↦ inl same | inr x ↦ inr (x.0, x.2) ];
}

pub beside-back : (t u : Configuration) (touched : Touched) → OneRow t u touched → Beside u t touched
beside-back t u touched h = record {
  spaces = λ sub nsid. elim (h.spaces sub nsid) [
    | inl same ↦ inl (sym same)
    | inr x ↦ inr (x.0, elim x.1 [ inl a ↦ inr a | inr b ↦ inl b ], x.2)
  ];
  subsystems = λ sub. elim (h.subsystems sub) [ inl same ↦ inl (sym same) | inr x ↦ inr (x.0, x.2) ];
}

no-both : (touched : Touched) (a n b : ℕ) → touched ≡ touches.Namespace a n → touched ≡ touches.Subsystem b → ⊥
no-both touched a n b p q = cc

-- the position of what is placed by this name in the other tree
other-place : (t u : Configuration) (touched : Touched) (s n k : ℕ) (a : NamespaceRow) (f : Found t s n a) (x : Placed) → Beside t u touched
    → space u f.row.nqn n ≡ Some x → touched ≡ touches.Namespace k n → x.at ≡ s
other-place t u touched s n k a f x b is told =
    let w = under u f.row.nqn n x is in
    elim (b.subsystems f.row.nqn) [
      | inl same ↦
          let fronts : subsystem_front (Some w.row) ≡ subsystem_front (Some f.row) = ap subsystem_front (sym w.named) ∙ (same ∙ ap subsystem_front f.named) in
          sym w.at_is ∙ (front-place w.row f.row fronts ∙ f.at_is)
      | inr y ↦ absurd (no-both touched k n y.0.at told y.1)
    ]

-- a namespace at a position is there in the other tree too, or is the touched one
pub follow : (t u : Configuration) (touched : Touched) (s n : ℕ) (a : NamespaceRow) → SubsystemPositions t → SubsystemPositions u → Beside t u touched
    → space_in n (subsystem_row t s) ≡ Some a → (space_in n (subsystem_row u s) ≡ Some a) ⊎ (touched ≡ touches.Namespace s n)
follow t u touched s n a ht hu b is =
    let f = found-at t s n a ht is in
    let here : Placed = record { at = s; row = a } in
    let old = found-placed t s n a f in
    elim (b.spaces f.row.nqn n) [
      | inl same ↦ inl (placed-there u f.row.nqn n here hu (same ∙ old))
      | inr x ↦ elim x.1 [
        | inl mine ↦ inr (x.2 ∙ ap (λ (p : Placed). touches.Namespace p.at n) (some-same x.0 here (sym mine ∙ old)))
        | inr theirs ↦ inr (x.2 ∙ ap (λ (k : ℕ). touches.Namespace k n) (other-place t u touched s n x.0.at a f x.0 b theirs x.2))
      ]
    ]

both-ways : (o p : Option NamespaceRow) (P : Type 0) → ((a : NamespaceRow) → o ≡ Some a → (p ≡ Some a) ⊎ P) → ((a : NamespaceRow) → p ≡ Some a → (o ≡ Some a) ⊎ P) → (p ≡ o) ⊎ P
both-ways None None P there back = inl refl
both-ways (Some a) p P there back = elim (there a refl) [ inl same ↦ inl same | inr told ↦ inr told ]
both-ways None (Some b) P there back = elim (back b refl) [ inl same ↦ absurd (none-some b same) | inr told ↦ inr told ]

-- what stands at a position is as before, or is the touched one
pub space-as-before : (t u : Configuration) (touched : Touched) (s n : ℕ) → SubsystemPositions t → SubsystemPositions u → OneRow t u touched
    → (space_in n (subsystem_row u s) ≡ space_in n (subsystem_row t s)) ⊎ (touched ≡ touches.Namespace s n)
space-as-before t u touched s n ht hu h =
    both-ways (space_in n (subsystem_row t s)) (space_in n (subsystem_row u s)) (touched ≡ touches.Namespace s n)
    (λ a is. follow t u touched s n a ht hu (beside t u touched h) is)
    (λ a is. follow u t touched s n a hu ht (beside-back t u touched h) is)
