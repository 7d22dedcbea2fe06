use Rattle.std.proofs.Common.{◌∙◌, below_more, sym, length, arith}
use Rattle.run_serving.proofs.Filing.{front_is, opcode-get}
use Rattle.run_serving.proofs.files.front_len.Goals as goal

pub returns-then-capsule-ne-FABRICS-clause-value :
    goal.returns-then-capsule-ne-FABRICS-clause-value
returns-then-capsule-ne-FABRICS-clause-value c = λ bytes.
    sym (front_is bytes c.args.capsules.now c.loop-number.number (omega (arith, c.loop-number-test.true))
    c.loop-number.invariant
    (λ lt e. c.if-capsule-ne-FABRICS.true (sym (opcode-get c.args.capsules.now c.loop-number.number _
    c.loop-number-test.true) ∙ e)))

pub loop-number-preserved : goal.loop-number-preserved
loop-number-preserved c = below_more _ _ c.loop-number.invariant
    (opcode-get c.args.capsules.now c.loop-number.number _ c.loop-number-test.true
    ∙ c.if-capsule-ne-FABRICS.false)

pub returns-clause-value : goal.returns-clause-value
returns-clause-value c = λ bytes.
    sym (front_is bytes c.args.capsules.now (length c.args.capsules.now) (omega arith)
    (λ k lt. c.loop-number.invariant k (omega (arith, lt, c.loop-number-test.false)))
    (λ lt. absurd (omega (arith, lt))))
