-- The table's replay is that of the sequential target.
use Rattle.std.proofs.Common.{◌≡◌, ℕ, true, List, [], ◌∷◌, Option, Some, None, refl, ap, ◌∙◌}
use Rattle.ref_state.specs.declared.kinds.Tag.{Tag}
use Rattle.table_rule.specs.Meant.{replay, LegalFrom}
use Rattle.tree_target.specs.Model.{Call, Target}
use Rattle.tree_target.specs.Legal.{AreLawful, after}
use Rattle.tree_target.proofs.Replays.{legal}
use Rattle.target_states.specs.Inputs.{call_of}
use Rattle.target_states.specs.States.{state, stepped, with_call, calls_of, may_take, answer_to}
use Rattle.target_meaning.specs.TreeMeans.{Run, tree_means}
use Rattle.target_meaning.specs.Histories.{StatesAreTheTargets, RepliesAreTheTargets, HistoriesAreLegal}

after_one : (t : Target) (c : Option Call) (calls : List Call)
    → after (stepped t c) calls ≡ after t (with_call c calls)
after_one t None calls = refl
after_one t (Some call) calls = refl

replayed : (r : Run) (tags log : List Tag) → state r.begun (replay (tree_means r) tags log)
    ≡ after (state r.begun tags) (calls_of r.begun.inputs log)
replayed r tags [] = refl
replayed r tags (tag ∷ log) =
    replayed r (tag ∷ tags) log
    ∙ after_one (state r.begun tags) (call_of r.begun.inputs tag) (calls_of r.begun.inputs log)

pub states_are : StatesAreTheTargets
states_are r log = replayed r [] log

pub replies_are : RepliesAreTheTargets
replies_are r log tag =
    ap (λ (t : Target). answer_to t (call_of r.begun.inputs tag)) (states_are r log)

lawful_one : (t : Target) (kind : ℕ) (c : Option Call) (calls : List Call)
    → may_take t kind c ≡ true → AreLawful (stepped t c) calls → AreLawful t (with_call c calls)
lawful_one t kind None calls e rest = rest
lawful_one t kind (Some call) calls e rest = (e, rest)

lawful_from : (r : Run) (tags log : List Tag) → LegalFrom (tree_means r) tags log
    → AreLawful (state r.begun tags) (calls_of r.begun.inputs log)
lawful_from r tags [] h = tt
lawful_from r tags (tag ∷ log) h =
    lawful_one (state r.begun tags) tag.kind (call_of r.begun.inputs tag)
    (calls_of r.begun.inputs log) h.0 (lawful_from r (tag ∷ tags) log h.1)

pub histories_legal : HistoriesAreLegal
histories_legal r log h =
    legal r.begun.target (calls_of r.begun.inputs log) (lawful_from r [] log h)
