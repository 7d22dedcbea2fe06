use Rattle.std.proofs.Common.{◌∙◌, sym, ap, slice_set, true}
use Rattle.ref_state.specs.declared.state.Hold.{Hold}
use Rattle.ref_allowed.specs.HoldTests.{passes}
use Rattle.ref_state.specs.Steps.{is_least}
use Rattle.ref_allowed.proofs.Positions.{changed_is, none_is}
use Rattle.ref_allowed.proofs.holds.mark_executed.Goals as goal

pub returns-in-Some : goal.returns-in-Some
returns-in-Some c = let t : Hold = c.at_mut.result.now in
    ap (λ (x : Hold). slice_set c.args.holds.now c.in-Some.i (record x {
      executed =
          true;
    })) (c.at_mut.ensures.value t)
    ∙ changed_is (is_least (passes c.args.test.now) c.args.holds.now) (λ x. record x {
      executed =
          true;
    }) c.args.holds.now c.in-Some.i t (sym c.hold_index.ensures ∙ c.in-Some.is)

pub returns-in_default : goal.returns-in_default
returns-in_default c = sym ((none_is (is_least (passes c.args.test.now) c.args.holds.now)
    c.args.holds.now (sym c.hold_index.ensures ∙ c.in_default.is)).2 (λ x. record x {
      executed =
          true;
    }))
