use Rattle.std.proofs.Common.{◌∙◌, sym}
use Rattle.ref_state.specs.Steps.{is_home_slot}
use Rattle.ref_allowed.proofs.Positions.{any_some, some_any}
use Rattle.ref_allowed.proofs.turn_conditions.has_home.Goals as goal

pub returns : goal.returns
returns c = (
  (λ h. any_some (is_home_slot c.args.slot) c.args.view.now.turns (sym c.any_home.ensures
      ∙ h)),
  λ m. c.any_home.ensures ∙ some_any (is_home_slot c.args.slot) c.args.view.now.turns m,
)
