use Rattle.run_check.proofs.Seating.{front_none, front_next, front_found}
use Rattle.run_check.proofs.first_seats.front_len.Goals as goal

pub loop-number-init : goal.loop-number-init
loop-number-init c = front_none c.args.file.now.bytes.items c.args.file.now.capsules.items

pub returns-then-capsule-ne-FABRICS-clause-value :
    goal.returns-then-capsule-ne-FABRICS-clause-value
returns-then-capsule-ne-FABRICS-clause-value c =
    front_found c.args.file.now.bytes.items c.args.file.now.capsules.items c.loop-number.number _
    (rw c.deref-capsule-items.ensures.value at c.loop-number-test.true)
    (rw c.deref-capsule-items.ensures.value at c.if-capsule-ne-FABRICS.true) c.loop-number.invariant

pub loop-number-preserved : goal.loop-number-preserved
loop-number-preserved c =
    front_next c.args.file.now.bytes.items c.args.file.now.capsules.items c.loop-number.number _
    (rw c.deref-capsule-items.ensures.value at c.loop-number-test.true)
    (rw c.deref-capsule-items.ensures.value at c.if-capsule-ne-FABRICS.false) c.loop-number.invariant
