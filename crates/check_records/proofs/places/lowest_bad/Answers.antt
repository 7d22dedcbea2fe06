use Rattle.std.proofs.Common.{◌≡◌, ℕ, length, subst, arith, refl}
use Rattle.run_verdicts.specs.Places.{IsBadPlace, IsLowest}
use Rattle.check_records.proofs.Placing.{doubled, missing, outside, short, right}
use Rattle.check_records.proofs.places.lowest_bad.Goals as goal

pub returns-then-place-index : goal.returns-then-place-index
returns-then-place-index c =
    doubled c.args.places.now c.args.n c.loop-index.index _ c.requires.sorted c.loop-index.invariant.0 c.loop-index-test.true c.loop-index.invariant.1 refl c.if-place-index.true

pub returns-then-index-n : goal.returns-then-index-n
returns-then-index-n c =
    missing c.args.places.now c.args.n c.loop-index.index c.requires.sorted c.loop-index.invariant.0 c.loop-index-test.true c.if-index-n.true c.if-place-index-2.true

pub returns-else-index-n : goal.returns-else-index-n
returns-else-index-n c =
    outside c.args.places.now c.args.n c.loop-index.index _ c.requires.sorted c.loop-index.invariant.0 c.loop-index-test.true (omega (arith, c.loop-index.invariant.1)) refl (omega arith)

pub returns-then-place-n : goal.returns-then-place-n
returns-then-place-n c =
    outside c.args.places.now c.args.n c.loop-index.index _ c.requires.sorted c.loop-index.invariant.0 c.loop-index-test.true (omega (arith, c.loop-index.invariant.1)) refl (omega arith)

pub returns-then-count-n : goal.returns-then-count-n
returns-then-count-n c =
    let is : c.loop-index.index ≡ length c.args.places.now = omega (arith, c.loop-index.auto.index-end, c.loop-index-test.false) in
    subst (λ (p : ℕ). IsLowest (IsBadPlace c.args.n c.args.places.now) p) is (short c.args.places.now c.args.n c.loop-index.index c.loop-index.invariant.0 is (omega arith))

pub returns-else-count-n : goal.returns-else-count-n
returns-else-count-n c =
    let is : c.loop-index.index ≡ length c.args.places.now = omega (arith, c.loop-index.auto.index-end, c.loop-index-test.false) in
    right c.args.places.now c.args.n c.loop-index.index c.loop-index.invariant.0 is (omega (arith, c.loop-index.invariant.1))
