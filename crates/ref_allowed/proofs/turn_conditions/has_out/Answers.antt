use Rattle.std.proofs.Common.{◌∙◌, sym}
use Rattle.ref_state.specs.Steps.{is_out_slot}
use Rattle.ref_allowed.proofs.Positions.{any_some, some_any}
use Rattle.ref_allowed.proofs.turn_conditions.has_out.Goals as goal

pub returns : goal.returns
returns c = (
  (λ h. any_some (is_out_slot c.args.slot) c.args.view.now.turns (sym c.any_out.ensures
      ∙ h)),
  λ m. c.any_out.ensures ∙ some_any (is_out_slot c.args.slot) c.args.view.now.turns m,
)
