use Rattle.std.proofs.Common.{◌∙◌, sym}
use Rattle.ref_state.specs.Steps.{may_put}
use Rattle.ref_allowed.proofs.Positions.{any_some, some_any}
use Rattle.ref_allowed.proofs.reference_conditions.keeps_putable.Goals as goal

pub returns : goal.returns
returns c = (
  (λ h. any_some (may_put c.args.disk) c.args.view.now.holds (sym c.any_hold.ensures
      ∙ h)),
  λ m. c.any_hold.ensures ∙ some_any (may_put c.args.disk) c.args.view.now.holds m,
)
