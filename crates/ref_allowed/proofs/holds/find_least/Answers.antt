use Rattle.std.proofs.Common.{◌∙◌, sym, ap, arith, refl}
use Rattle.ref_allowed.specs.HoldTests.{passes}
use Rattle.ref_state.proofs.Least.{least_more}
use Rattle.ref_allowed.proofs.holds.find_least.Goals as goal

pub loop-i-preserved-then-passes : goal.loop-i-preserved-then-passes
loop-i-preserved-then-passes c = let m =
    least_more (passes c.args.test.now) c.args.holds.now c.loop-i.i c.at-h.result.now c.loop-i.least
    (omega arith) c.loop-i.invariant.0 c.at-h.ensures c.loop-i.invariant.1 in (
      omega arith,
      ap (λ x. Rattle.std.proofs.Common.Some x) c.lesser.ensures
          ∙ m.0 (sym c.passes.ensures ∙ c.if-passes.true),
    )

pub loop-i-preserved : goal.loop-i-preserved
loop-i-preserved c = let m = least_more (passes c.args.test.now) c.args.holds.now c.loop-i.i
    c.at-h.result.now c.loop-i.least (omega arith) c.loop-i.invariant.0 c.at-h.ensures
    c.loop-i.invariant.1 in
    (omega arith, m.1 (sym c.passes.ensures ∙ c.if-passes.false))
