-- The edits of a simple plan make its tree.
use Rattle.std.proofs.Common.{◌≡◌, ◌&&◌, ◌==◌, ◌<◌, slice_index, ℕ, not, true, Bool, IsTrue, List, [], ◌∷◌, refl, ap, ◌∙◌, arith}
use Rattle.std.specs.List.{list_all, list_any, All}
use Rattle.std.proofs.lemmas.List.Elements.{All-same, All-from_recursion}
use Rattle.std.specs.Char.{is_ascii_graphic}
use Rattle.std.proofs.lemmas.Bool.Decides.{nat_tests}
use Rattle.std.specs.Cmp.{nat_cmp_total}
use Rattle.std.specs.Cmp.Lexicographic.{nat_list_cmp_total}
use Rattle.std.specs.FinMap.{nat_cmp-IsAntisymmetric}
use Rattle.mem_bdev.specs.declared.disk.DiskLine.{DiskLine}
use Rattle.plan_files.specs.Spelling.{is_name}
use Rattle.configfs_rows.specs.declared.limits.TheConstants.{MAX_CONTROLLERS}
use Rattle.configfs_rows.specs.declared.subsystems.SubsystemRow.{SubsystemRow}
use Rattle.configfs_rows.specs.declared.ports.PortRow.{PortRow}
use Rattle.configfs_rows.specs.Values.{is_path, is_text, is_text_byte}
use Rattle.configfs_tree.specs.declared.configuration.Configuration.{Configuration}
use Rattle.configfs_tree.specs.declared.edits.Change.{Change}
use Rattle.configfs_tree.specs.declared.edits.Errno.{Errno}
use Rattle.configfs_tree.specs.Outcome.{Outcome, Accepts}
use Rattle.configfs_tree.specs.Asked.{subsystem_place_taken, port_place_taken}
use Rattle.configfs_tree.specs.Links.{with_attached}
use Rattle.configfs_tree.specs.Start.{empty_tree}
use Rattle.configfs_tree.proofs.Kept.{names_same}
use Rattle.tree_target.specs.Start.{simple_nqn, simple_subsystem, simple_port, simple_tree}
use Rattle.tree_target.specs.Edits.{Edit, is_well_formed}
use Rattle.tree_target.specs.Loads.{Loaded, RefusedEdit, LoadedTree, load_on, load_from, loaded}
use Rattle.tree_target.specs.SimpleEdits.{simple_edits, tree_before_attach, SimpleIsEdited}
use Rattle.tree_target.proofs.HeldList.{both_true}
use Rattle.tree_target.proofs.Singles.{values_single}
use Rattle.tree_target.proofs.SimpleSteps.{one_sub, one_port, with_space, on_path, makes_subsystem, allows_any, makes_namespace, sets_path, makes_port, sets_trtype, links, enables}

-- ---- a name of a plan is a device path
all_along : (p q : ℕ → Bool) → ((x : ℕ) → p x ≡ true → q x ≡ true) → (xs : List ℕ)
    → list_all p xs ≡ true → list_all q xs ≡ true
all_along p q h [] e = refl
all_along p q h (x ∷ xs) e =
    let parts = both_true (p x) (list_all p xs) e in
    ap (λ (b : Bool). b && list_all q xs) (h x parts.0) ∙ all_along p q h xs parts.1

not_space : (x : ℕ) → is_ascii_graphic x ≡ true → not (x == 32) ≡ true
not_space x e = grind (arith, nat_tests)

printable : (x : ℕ) → is_ascii_graphic x ≡ true → is_text_byte x ≡ true
printable x e = grind (arith, nat_tests)

pub named_is_path : (path : List ℕ) → IsTrue (is_name path) → is_path path ≡ true
unfolding is_name
named_is_path path named =
    let parts = both_true _ _ named in
    ap (λ (b : Bool). b && list_all (λ x. not (x == 32)) path) parts.0
    ∙ all_along is_ascii_graphic (λ x. not (x == 32)) not_space path parts.1

pub named_is_text : (path : List ℕ) → IsTrue (is_name path) → is_text path ≡ true
unfolding is_name
named_is_text path named = all_along is_ascii_graphic is_text_byte printable path
    (both_true _ _ named).1

-- ---- loading
goes_on : (n : ℕ) (o : Outcome) (u : Configuration) (change : Change)
    (rest : Configuration → Loaded) → o ≡ Accepts u change → load_on n o rest ≡ rest u
goes_on n o u change rest e = ap (λ (x : Outcome). load_on n x rest) e

pub loads_simple : (d : DiskLine) → IsTrue (is_name d.path)
    → loaded (d ∷ []) (simple_edits d.path) ≡ LoadedTree (tree_before_attach d.path)
loads_simple d named =
    let path = d.path in
    goes_on 1 _ _ _ _ (makes_subsystem path)
    ∙ (goes_on 2 _ _ _ _ (allows_any path)
    ∙ (goes_on 3 _ _ _ _ (makes_namespace path)
    ∙ (goes_on 4 _ _ _ _ (sets_path path (named_is_path path named))
    ∙ (goes_on 5 _ _ _ _ (makes_port path (one_sub (with_space (on_path path))))
    ∙ (goes_on 6 _ _ _ _ (sets_trtype path (one_sub (with_space (on_path path))))
    ∙ (goes_on 7 _ _ _ _ (links path (with_space (on_path path)))
    ∙ goes_on 8 _ _ _ _ (enables path (one_port simple_port))))))))

pub simple_edited : SimpleIsEdited
simple_edited d named = record { loads = loads_simple d named; attached = refl }

-- ---- what the calls give
pub edits_fit : (path : List ℕ) (edits : List Edit) → edits ≡ simple_edits path
    → IsTrue (is_name path) → All (λ (e : Edit). IsTrue (is_well_formed e)) edits
edits_fit path edits is named =
    All-same (λ (e : Edit). IsTrue (is_well_formed e)) edits (simple_edits path) is
    (All-from_recursion (λ (e : Edit). IsTrue (is_well_formed e)) (simple_edits path)
    (refl, (refl, (refl, (named_is_text path named, (refl, (refl, (refl, (refl, tt)))))))))

pub loads_edited : (d : DiskLine) (lines : List DiskLine) (empty : Configuration)
    (edits : List Edit) → lines ≡ d ∷ [] → empty ≡ empty_tree lines → edits ≡ simple_edits d.path
    → IsTrue (is_name d.path) → load_from 1 empty edits ≡ LoadedTree (tree_before_attach d.path)
loads_edited d lines empty edits one is made named =
    ap (λ (t : Configuration). load_from 1 t edits) (is ∙ ap empty_tree one)
    ∙ (ap (load_from 1 (empty_tree (d ∷ []))) made ∙ loads_simple d named)

pub same_loaded : (t u : Configuration) → LoadedTree t ≡ LoadedTree u → t ≡ u
same_loaded t u e = cc

pub not_refused : (t : Configuration) (n : ℕ) (errno : Errno) → LoadedTree t ≡ RefusedEdit n errno
    → ⊥
not_refused t n errno e = cc

-- ---- the controller
pub subsystem_in_use : (t : Configuration) (path : List ℕ) → t ≡ tree_before_attach path
    → IsTrue (subsystem_place_taken t 0)
subsystem_in_use t path e = ap (λ (x : Configuration). subsystem_place_taken x 0) e
    ∙ ap (list_any (λ (s : SubsystemRow). s.at == 0))
    (values_single nat_list_cmp_total names_same simple_nqn (simple_subsystem path))

pub port_in_use : (t : Configuration) (path : List ℕ) → t ≡ tree_before_attach path
    → IsTrue (port_place_taken t 0)
port_in_use t path e = ap (λ (x : Configuration). port_place_taken x 0) e
    ∙ ap (list_any (λ (p : PortRow). p.at == 0))
    (values_single nat_cmp_total nat_cmp-IsAntisymmetric 1 simple_port)

pub subsystem_room : (t : Configuration) (path : List ℕ) → t ≡ tree_before_attach path
    → slice_index t.settings.attached.subsystems 0 < MAX_CONTROLLERS
subsystem_room t path e =
    let n : slice_index t.settings.attached.subsystems 0 ≡ 0 =
    ap (λ (x : Configuration). slice_index x.settings.attached.subsystems 0) e in
    omega (arith, n)

pub port_room : (t : Configuration) (path : List ℕ) → t ≡ tree_before_attach path
    → slice_index t.settings.attached.ports 0 < MAX_CONTROLLERS
port_room t path e =
    let n : slice_index t.settings.attached.ports 0 ≡ 0 =
    ap (λ (x : Configuration). slice_index x.settings.attached.ports 0) e in
    omega (arith, n)

pub attached_is : (t u : Configuration) (path : List ℕ) → t ≡ tree_before_attach path
    → u ≡ with_attached t 0 0 → u ≡ simple_tree path
attached_is t u path e f = f ∙ ap (λ (x : Configuration). with_attached x 0 0) e
