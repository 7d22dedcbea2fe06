use Rattle.std.proofs.Common.{◌∙◌, sym, ap, slice_set}
use Rattle.ref_state.specs.declared.state.Turn.{Turn}
use Rattle.ref_state.specs.Steps.{is_slot}
use Rattle.ref_allowed.proofs.Positions.{changed_is, none_is}
use Rattle.ref_rule.proofs.turns.move_extent.Goals as goal

pub returns-in-Some : goal.returns-in-Some
returns-in-Some c = let t : Turn = c.at_mut.result.now in
    ap (λ (x : Turn). slice_set c.args.turns.now c.in-Some.i (record x {
      out =
          c.args.out;
    })) (c.at_mut.ensures.value t)
    ∙ changed_is (is_slot c.args.slot) (λ x. record x {
      out =
          c.args.out;
    }) c.args.turns.now c.in-Some.i t (sym c.turn_index.ensures ∙ c.in-Some.is)

pub returns-in_default : goal.returns-in_default
returns-in_default c = sym ((none_is (is_slot c.args.slot) c.args.turns.now
    (sym c.turn_index.ensures ∙ c.in_default.is)).2 (λ x. record x { out = c.args.out }))
