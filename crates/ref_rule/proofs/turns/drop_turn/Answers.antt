use Rattle.std.proofs.Common.{◌∙◌, sym}
use Rattle.ref_state.specs.Steps.{is_slot}
use Rattle.ref_allowed.proofs.Positions.{removed_is, none_is}
use Rattle.ref_rule.proofs.turns.drop_turn.Goals as goal

pub returns-in-Some : goal.returns-in-Some
returns-in-Some c = c.remove.ensures.rest
    ∙ removed_is (is_slot c.args.slot) c.args.turns.now c.in-Some.i (sym c.turn_index.ensures
    ∙ c.in-Some.is)

pub returns-in_default : goal.returns-in_default
returns-in_default c = sym (none_is (is_slot c.args.slot) c.args.turns.now (sym c.turn_index.ensures
    ∙ c.in_default.is)).1
