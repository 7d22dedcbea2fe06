-- The start of a plan without a controller.
use Rattle.std.proofs.Common.{◌≡◌, ℕ, zero, suc, ◌+◌, ◌<◌, ◌≤◌, slice_index, replicate, arith, List, [], ◌∷◌, length, map, get_or, drop, drop-cons, add-one, refl, sym, ap, subst, ◌∙◌, Ok}
use Rattle.std.proofs.lemmas.List.{length-replicate}
use Rattle.mem_bdev.specs.declared.disk.DiskLine.{DiskLine}
use Rattle.sqe_cqe.specs.declared.controllers.Binding.{Binding as CodeBinding}
use Rattle.configfs_rows.specs.declared.limits.TheConstants.{MAX_SUBSYSTEMS, MAX_PORTS}
use Rattle.configfs_tree.specs.declared.configuration.Attached.{Attached}
use Rattle.configfs_tree.specs.declared.edits.Errno.{Errno}
use Rattle.configfs_tree.specs.declared.configuration.Configuration.{Configuration}
use Rattle.configfs_tree.specs.declared.edits.Change.{Change}
use Rattle.configfs_tree.specs.Outcome.{Outcome, Refuses, Accepts}
use Rattle.configfs_tree.specs.Start.{empty_tree}
use Rattle.configfs_tree.specs.Links.{with_no_changes}
use Rattle.tree_target.specs.Edits.{Edit, outcome}
use Rattle.tree_target.specs.Fixed.{LeavesAttached}
use Rattle.tree_target.specs.Joined.{AreJoined}
use Rattle.tree_target.specs.Kept.{Kept}
use Rattle.tree_target.specs.Stands.{AreBound, StandsFor}
use Rattle.tree_target.specs.Loads.{IsFresh, Loaded, RefusedEdit, LoadedTree, loaded, LoadsTarget, load_on, load_from, unconnected, code_unconnected, start_of, kept_start}
use Rattle.tree_target.proofs.Changes.{edits_leave}

bound_none : (t : Configuration) (ports : List ℕ)
    → AreBound t (map code_unconnected ports) (map unconnected ports)
bound_none t [] = tt
bound_none t (p ∷ ports) = (refl, tt, bound_none t ports)

pub start_stands : (t : Configuration) (lines : List DiskLine) (ports : List ℕ)
    → StandsFor (kept_start t lines ports) (start_of t lines ports)
start_stands t lines ports = record {
  tree = refl;
  controllers = refl;
  blocks = refl;
  bindings = bound_none t ports;
  held = refl;
  events = refl;
  stamps = refl;
}

-- ---- loading
loads_on : (n : ℕ) (t u : Configuration) (e : Edit) (es : List Edit) (change : Change)
    → outcome t e ≡ Accepts u change → load_from n t (e ∷ es) ≡ load_from (n + 1) u es
loads_on n t u e es change g = ap (λ (o : Outcome). load_on n o (λ v. load_from (n + 1) v es)) g

pub loads_next : (edits : List Edit) (i : ℕ) (e : Edit) (t u : Configuration) (change : Change)
    (l : Loaded) → i < length edits → e ≡ get_or edits i e → l ≡ load_from (i + 1) t (drop i edits)
    → outcome t e ≡ Accepts u change → l ≡ load_from (i + 1 + 1) u (drop (i + 1) edits)
loads_next edits i e t u change l lt is so_far g =
    so_far
    ∙ (ap (load_from (i + 1) t) (drop-cons edits i e lt ∙ ap (λ (x : Edit). x ∷ drop (suc i) edits)
    (sym is))
    ∙ (loads_on (i + 1) t u e (drop (suc i) edits) change g
    ∙ ap (λ (n : ℕ). load_from (i + 1 + 1) u (drop n edits)) (sym (add-one i))))

pub loads_target : (l : Loaded) (t u : Configuration) (k : Kept) (lines : List DiskLine)
    (ports : List ℕ) → l ≡ LoadedTree t → u ≡ with_no_changes t
    → StandsFor k (start_of u lines ports)
    → LoadsTarget l lines ports (Ok k)
loads_target l t u k lines ports is same st = record {
  tree = t;
  loaded = is;
  stands = subst (λ (x : Configuration). StandsFor k (start_of x lines ports)) same st;
}

-- ---- no controller is attached
fresh_along : (t u : Configuration) → with_no_changes t ≡ u → IsFresh t → IsFresh u
fresh_along t u e f = ap (λ (x : Configuration). x.settings.attached) (sym e) ∙ f

not_refused : (n : ℕ) (errno : Errno) (u : Configuration) → RefusedEdit n errno ≡ LoadedTree u
    → ⊥
not_refused n errno u e = cc

loaded_is : (t u : Configuration) → LoadedTree t ≡ LoadedTree u → t ≡ u
loaded_is t u e = cc

fresh_on : (n : ℕ) (t u : Configuration) (edits : List Edit) (o : Outcome)
    → load_on n o (λ v. load_from (n + 1) v edits) ≡ LoadedTree u → LeavesAttached t o → IsFresh t
    → ((v : Configuration) → load_from (n + 1) v edits ≡ LoadedTree u → IsFresh v → IsFresh u)
    → IsFresh u
fresh_on n t u edits (Refuses errno) is leaves f rest = absurd (not_refused n errno u is)
fresh_on n t u edits (Accepts v change) is leaves f rest = rest v is (leaves.attached ∙ f)

fresh_from : (n : ℕ) (t u : Configuration) (edits : List Edit) → load_from n t edits ≡ LoadedTree u
    → IsFresh t → IsFresh u
fresh_from n t u [] e f = ap (λ (x : Configuration). x.settings.attached)
    (sym (loaded_is t u e)) ∙ f
fresh_from n t u (x ∷ edits) e f = fresh_on n t u edits (outcome t x) e (edits_leave t x) f
    (λ v is fresh. fresh_from (n + 1) v u edits is fresh)

pub loaded_fresh : (lines : List DiskLine) (edits : List Edit) (t u : Configuration)
    → loaded lines edits ≡ LoadedTree t → u ≡ with_no_changes t → IsFresh u
loaded_fresh lines edits t u e same =
    fresh_along t u (sym same) (fresh_from 1 (empty_tree lines) t edits e refl)

pub zeros_at : (n at : ℕ) → slice_index (replicate n 0) at ≡ 0
zeros_at zero at = refl
zeros_at (suc n) zero = refl
zeros_at (suc n) (suc at) = zeros_at n at

-- the counts at the start are zero: no controller is there
pub fresh_joined : (t : Configuration) (bindings : List CodeBinding) → IsFresh t
    → AreJoined t [] bindings
fresh_joined t bindings f = record {
  subsystems = ap (λ (a : Attached). length a.subsystems) f
      ∙ length-replicate {A = ℕ} MAX_SUBSYSTEMS 0;
  ports = ap (λ (a : Attached). length a.ports) f ∙ length-replicate {A = ℕ} MAX_PORTS 0;
  counted = record {
    subsystems = λ at. none (ap (λ (a : Attached). slice_index a.subsystems at) f
        ∙ zeros_at MAX_SUBSYSTEMS at);
    ports = λ at. none (ap (λ (a : Attached). slice_index a.ports at) f ∙ zeros_at MAX_PORTS at);
  };
  attached = tt;
  few = omega arith;
} where
  none : {n : ℕ} → n ≡ 0 → n ≤ 0
  none e = omega arith
