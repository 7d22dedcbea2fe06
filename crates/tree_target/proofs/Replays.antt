-- Lawful calls make a legal history.
use Rattle.std.proofs.Common.{List, [], ◌∷◌, refl}
use Rattle.tree_target.specs.Model.{Call, Target}
use Rattle.tree_target.specs.Steps.{target_after}
use Rattle.tree_target.specs.Legal.{IsLegal, AreLawful, entries_of}

pub legal : (start : Target) (calls : List Call) → AreLawful start calls
    → IsLegal start (entries_of start calls)
legal start [] lawful = tt
legal start (c ∷ calls) lawful = (lawful.0, refl, legal (target_after start c) calls lawful.1)
