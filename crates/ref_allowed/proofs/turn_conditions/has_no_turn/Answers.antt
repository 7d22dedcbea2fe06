use Rattle.std.proofs.Common.{◌≡◌, ◌∙◌, not, Bool, true, false, sym, ap, refl, arith}
use Rattle.ref_state.specs.Steps.{is_slot}
use Rattle.ref_allowed.proofs.Positions.{none_any, any_none}
use Rattle.ref_allowed.proofs.turn_conditions.has_no_turn.Goals as goal

not_true : (b : Bool) → not b ≡ true → b ≡ false
not_true true h = absurd (let g : false ≡ true = h in grind arith)
not_true false h = refl

pub returns : goal.returns
returns c = (
  (λ h. none_any (is_slot c.args.slot) c.args.view.now.turns (sym c.any_turn.ensures
      ∙ not_true c.any_turn.result h)),
  λ m. ap not (c.any_turn.ensures
      ∙ any_none (is_slot c.args.slot) c.args.view.now.turns m),
)
