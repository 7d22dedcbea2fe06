use Rattle.std.proofs.Common.{◌∙◌, sym}
use Rattle.ref_state.specs.Steps.{is_held}
use Rattle.ref_allowed.proofs.Positions.{any_some, some_any}
use Rattle.ref_allowed.proofs.reference_conditions.keeps_held.Goals as goal

pub returns : goal.returns
returns c = (
  (λ h. any_some (is_held c.args.call c.args.disk) c.args.view.now.holds
      (sym c.any_hold.ensures ∙ h)),
  λ m. c.any_hold.ensures
      ∙ some_any (is_held c.args.call c.args.disk) c.args.view.now.holds m,
)
