-- What a table is opened with.
use Rattle.std.proofs.Common.{◌≡◌, ℕ, zero, suc, List, [], ◌∷◌, Some, sym, ap}
use Rattle.std.specs.List.{slice_get}
use mathlib.Core.Option.{some, some-injective, some-ne-none}
use lib.ListN.{get_elem?}
use Rattle.disk_extents.specs.Extents.{Part}
use Rattle.ns_table.specs.Kept.{shape_of}
use Rattle.ns_table.proofs.Placed.{placed}
use Rattle.target_words.proofs.Opening.{opened, slots_stand}
use Rattle.target_meaning.specs.Histories.{OpensAsAsked}

got : (xs : List Part) (n : ℕ) (x : Part) → get_elem? xs n ≡ some x → slice_get xs n ≡ Some x
got [] n x e = absurd (some-ne-none x (sym e))
got (y ∷ xs) zero x e = ap (λ (z : Part). Some z) (some-injective y x e)
got (y ∷ xs) (suc n) x e = got xs n x e

pub opens_as : OpensAsAsked
opens_as r none = record {
  rows = sym (opened r.begun.target none);
  long = (placed (shape_of r.begun.target.tree r.begun.target.controllers r.begun.target.blocks
      r.begun.target.stamps)).all;
  extents = λ n x e. slots_stand r.begun.target.blocks n x (got _ n x e);
}
