-- No place is in a patch twice.
use Rattle.std.proofs.Common.{◌≡◌, ◌⊎◌, ℕ, zero, suc, ◌==◌, ◌&&◌, ◌||◌, not, Bool, true, false, List, [], ◌∷◌, ◌++◌, map, Option, Some, None, refl, sym, ap, ◌∙◌, inl, inr}
use Rattle.std.proofs.lemmas.Bool.{eq-eqb}
use Rattle.std.specs.List.{slice_get, list_any}
use Rattle.configfs_tree.specs.declared.configuration.Configuration.{Configuration}
use Rattle.configfs_tree.specs.declared.edits.Touched.{Touched}
use Rattle.configfs_tree.specs.declared.edits.Touched.TheVariants as touches
use Rattle.configfs_tree.specs.Links.{subsystem_row}
use Rattle.tree_target.specs.Views.{space_in}
use Rattle.ns_table.specs.Positions.{Place, Shown, Ready, Changes, SubsystemStamp, PortStamp, State, Space}
use Rattle.ns_table.specs.Changed.{disk_in}
use Rattle.ns_table.specs.Patches.{touched_places, shown_places, turned_places, port_places, subsystem_places, told_places, PatchesAreOnce}
use Rattle.ns_table.proofs.Spaces.{none-some, some-same}

-- the places of a change have marks that differ
abbrev mark : Place → ℕ
mark (Space s n part) = part
mark (Shown d) = 11
mark (State p g) = 12
mark (Ready c) = 13
mark (PortStamp p) = 14
mark (SubsystemStamp s) = 15
mark Changes = 16

abbrev all_differ : List ℕ → Bool
all_differ [] = true
all_differ (x ∷ xs) = not (list_any (λ y. y == x) xs) && all_differ xs

no-truth : false ≡ true → ⊥
no-truth e = cc

some-none : (x : ℕ) → Some x ≡ None → ⊥
some-none x e = cc

both : (a b : Bool) → (a && b) ≡ true → (a ≡ true) × (b ≡ true)
both true b is = (refl, is)
both false b is = absurd (no-truth is)

negated : (a : Bool) → not a ≡ true → a ≡ true → ⊥
negated true p q = no-truth p
negated false p q = no-truth q

later : (a b : Bool) → b ≡ true → (a || b) ≡ true
later true b is = refl
later false b is = is

either : (a b : Bool) → a ≡ true → (a || b) ≡ true
either a b is = rw is refl

found-later : (x : ℕ) (xs : List ℕ) (i : ℕ) → slice_get xs i ≡ Some x → list_any (λ y. y == x) xs ≡ true
found-later x [] i e = absurd (none-some x e)
found-later x (y ∷ xs) zero e = either (y == x) (list_any (λ z. z == x) xs) (eq-eqb y x (some-same y x e))
found-later x (y ∷ xs) (suc i) e = later (y == x) (list_any (λ z. z == x) xs) (found-later x xs i e)

at-one : (xs : List ℕ) (i j k : ℕ) → all_differ xs ≡ true → slice_get xs i ≡ Some k → slice_get xs j ≡ Some k → i ≡ j
at-one [] i j k h e f = absurd (none-some k e)
at-one (x ∷ xs) zero zero k h e f = refl
at-one (x ∷ xs) zero (suc j) k h e f =
    let parts = both (not (list_any (λ y. y == x) xs)) (all_differ xs) h in
    let is : x ≡ k = some-same x k e in
    absurd (negated (list_any (λ y. y == x) xs) parts.0 (found-later x xs j (f ∙ ap (λ (n : ℕ). Some n) (sym is))))
at-one (x ∷ xs) (suc i) zero k h e f =
    let parts = both (not (list_any (λ y. y == x) xs)) (all_differ xs) h in
    let is : x ≡ k = some-same x k f in
    absurd (negated (list_any (λ y. y == x) xs) parts.0 (found-later x xs i (e ∙ ap (λ (n : ℕ). Some n) (sym is))))
at-one (x ∷ xs) (suc i) (suc j) k h e f =
    let parts = both (not (list_any (λ y. y == x) xs)) (all_differ xs) h in
    ap (λ (n : ℕ). suc n) (at-one xs i j k parts.1 e f)

get-map : (xs : List Place) (i : ℕ) (p : Place) → slice_get xs i ≡ Some p → slice_get (map mark xs) i ≡ Some (mark p)
get-map [] i p e = absurd (none-some p e)
get-map (x ∷ xs) zero p e = ap (λ (q : Place). Some (mark q)) (some-same x p e)
get-map (x ∷ xs) (suc i) p e = get-map xs i p e

-- what turned, as whether there is one and the disk that it keeps
abbrev turned_as : ℕ → ℕ → Option (Option ℕ) → List Place
turned_as a b None = []
turned_as a b (Some o) = Space a b 10 ∷ shown_places o

marks-apart : (a b : ℕ) (touched : Touched) (turned : Option (Option ℕ)) (port sub : Option ℕ) → (port ≡ None) ⊎ (sub ≡ None)
    → all_differ (map mark (touched_places touched ++ (turned_as a b turned ++ (port_places port ++ subsystem_places sub)))) ≡ true
marks-apart a b touches.Nothing None None None h = refl
marks-apart a b touches.Nothing None (Some x) None h = refl
marks-apart a b touches.Nothing None None (Some y) h = refl
marks-apart a b touches.Nothing (Some None) None None h = refl
marks-apart a b touches.Nothing (Some None) (Some x) None h = refl
marks-apart a b touches.Nothing (Some None) None (Some y) h = refl
marks-apart a b touches.Nothing (Some (Some d)) None None h = refl
marks-apart a b touches.Nothing (Some (Some d)) (Some x) None h = refl
marks-apart a b touches.Nothing (Some (Some d)) None (Some y) h = refl
marks-apart a b touches.Nothing None (Some x) (Some y) h = absurd (elim h [ inl e ↦ some-none x e | inr e ↦ some-none y e ])
marks-apart a b touches.Nothing (Some None) (Some x) (Some y) h = absurd (elim h [ inl e ↦ some-none x e | inr e ↦ some-none y e ])
marks-apart a b touches.Nothing (Some (Some d)) (Some x) (Some y) h = absurd (elim h [ inl e ↦ some-none x e | inr e ↦ some-none y e ])
marks-apart a b (touches.Namespace s n) None None None h = refl
marks-apart a b (touches.Namespace s n) None (Some x) None h = refl
marks-apart a b (touches.Namespace s n) None None (Some y) h = refl
marks-apart a b (touches.Namespace s n) (Some None) None None h = refl
marks-apart a b (touches.Namespace s n) (Some None) (Some x) None h = refl
marks-apart a b (touches.Namespace s n) (Some None) None (Some y) h = refl
marks-apart a b (touches.Namespace s n) (Some (Some d)) None None h = refl
marks-apart a b (touches.Namespace s n) (Some (Some d)) (Some x) None h = refl
marks-apart a b (touches.Namespace s n) (Some (Some d)) None (Some y) h = refl
marks-apart a b (touches.Namespace s n) None (Some x) (Some y) h = absurd (elim h [ inl e ↦ some-none x e | inr e ↦ some-none y e ])
marks-apart a b (touches.Namespace s n) (Some None) (Some x) (Some y) h = absurd (elim h [ inl e ↦ some-none x e | inr e ↦ some-none y e ])
marks-apart a b (touches.Namespace s n) (Some (Some d)) (Some x) (Some y) h = absurd (elim h [ inl e ↦ some-none x e | inr e ↦ some-none y e ])
marks-apart a b (touches.Group p g) None None None h = refl
marks-apart a b (touches.Group p g) None (Some x) None h = refl
marks-apart a b (touches.Group p g) None None (Some y) h = refl
marks-apart a b (touches.Group p g) (Some None) None None h = refl
marks-apart a b (touches.Group p g) (Some None) (Some x) None h = refl
marks-apart a b (touches.Group p g) (Some None) None (Some y) h = refl
marks-apart a b (touches.Group p g) (Some (Some d)) None None h = refl
marks-apart a b (touches.Group p g) (Some (Some d)) (Some x) None h = refl
marks-apart a b (touches.Group p g) (Some (Some d)) None (Some y) h = refl
marks-apart a b (touches.Group p g) None (Some x) (Some y) h = absurd (elim h [ inl e ↦ some-none x e | inr e ↦ some-none y e ])
marks-apart a b (touches.Group p g) (Some None) (Some x) (Some y) h = absurd (elim h [ inl e ↦ some-none x e | inr e ↦ some-none y e ])
marks-apart a b (touches.Group p g) (Some (Some d)) (Some x) (Some y) h = absurd (elim h [ inl e ↦ some-none x e | inr e ↦ some-none y e ])
marks-apart a b (touches.Port p) None None None h = refl
marks-apart a b (touches.Port p) None (Some x) None h = refl
marks-apart a b (touches.Port p) None None (Some y) h = refl
marks-apart a b (touches.Port p) (Some None) None None h = refl
marks-apart a b (touches.Port p) (Some None) (Some x) None h = refl
marks-apart a b (touches.Port p) (Some None) None (Some y) h = refl
marks-apart a b (touches.Port p) (Some (Some d)) None None h = refl
marks-apart a b (touches.Port p) (Some (Some d)) (Some x) None h = refl
marks-apart a b (touches.Port p) (Some (Some d)) None (Some y) h = refl
marks-apart a b (touches.Port p) None (Some x) (Some y) h = absurd (elim h [ inl e ↦ some-none x e | inr e ↦ some-none y e ])
marks-apart a b (touches.Port p) (Some None) (Some x) (Some y) h = absurd (elim h [ inl e ↦ some-none x e | inr e ↦ some-none y e ])
marks-apart a b (touches.Port p) (Some (Some d)) (Some x) (Some y) h = absurd (elim h [ inl e ↦ some-none x e | inr e ↦ some-none y e ])
marks-apart a b (touches.Subsystem s) None None None h = refl
marks-apart a b (touches.Subsystem s) None (Some x) None h = refl
marks-apart a b (touches.Subsystem s) None None (Some y) h = refl
marks-apart a b (touches.Subsystem s) (Some None) None None h = refl
marks-apart a b (touches.Subsystem s) (Some None) (Some x) None h = refl
marks-apart a b (touches.Subsystem s) (Some None) None (Some y) h = refl
marks-apart a b (touches.Subsystem s) (Some (Some d)) None None h = refl
marks-apart a b (touches.Subsystem s) (Some (Some d)) (Some x) None h = refl
marks-apart a b (touches.Subsystem s) (Some (Some d)) None (Some y) h = refl
marks-apart a b (touches.Subsystem s) None (Some x) (Some y) h = absurd (elim h [ inl e ↦ some-none x e | inr e ↦ some-none y e ])
marks-apart a b (touches.Subsystem s) (Some None) (Some x) (Some y) h = absurd (elim h [ inl e ↦ some-none x e | inr e ↦ some-none y e ])
marks-apart a b (touches.Subsystem s) (Some (Some d)) (Some x) (Some y) h = absurd (elim h [ inl e ↦ some-none x e | inr e ↦ some-none y e ])
marks-apart a b (touches.Controller k) None None None h = refl
marks-apart a b (touches.Controller k) None (Some x) None h = refl
marks-apart a b (touches.Controller k) None None (Some y) h = refl
marks-apart a b (touches.Controller k) (Some None) None None h = refl
marks-apart a b (touches.Controller k) (Some None) (Some x) None h = refl
marks-apart a b (touches.Controller k) (Some None) None (Some y) h = refl
marks-apart a b (touches.Controller k) (Some (Some d)) None None h = refl
marks-apart a b (touches.Controller k) (Some (Some d)) (Some x) None h = refl
marks-apart a b (touches.Controller k) (Some (Some d)) None (Some y) h = refl
marks-apart a b (touches.Controller k) None (Some x) (Some y) h = absurd (elim h [ inl e ↦ some-none x e | inr e ↦ some-none y e ])
marks-apart a b (touches.Controller k) (Some None) (Some x) (Some y) h = absurd (elim h [ inl e ↦ some-none x e | inr e ↦ some-none y e ])
marks-apart a b (touches.Controller k) (Some (Some d)) (Some x) (Some y) h = absurd (elim h [ inl e ↦ some-none x e | inr e ↦ some-none y e ])

apart-on : (u : Configuration) (touched : Touched) (namespace : Option (ℕ × ℕ)) (port sub : Option ℕ) → (port ≡ None) ⊎ (sub ≡ None)
    → all_differ (map mark (touched_places touched ++ (turned_places u namespace ++ (port_places port ++ subsystem_places sub)))) ≡ true
apart-on u touched None port sub h = marks-apart 0 0 touched None port sub h
apart-on u touched (Some x) port sub h = marks-apart x.0 x.1 touched (Some (disk_in (space_in x.1 (subsystem_row u x.0)))) port sub h

pub patch_once : PatchesAreOnce
patch_once u c one i j p e f =
    at-one (map mark (told_places u c)) i j (mark p) (apart-on u c.touched c.namespace c.ana_port c.ana_subsystem one) (get-map (told_places u c) i p e) (get-map (told_places u c) j p f)
