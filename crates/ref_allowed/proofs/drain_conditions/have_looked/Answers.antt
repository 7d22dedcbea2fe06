use Rattle.std.proofs.Common.{◌≡◌, true, slice_index_or, Some, None, arith}
use borrow.Author.Count.{below_more}
use Rattle.ref_state.specs.declared.state.Count.{Count}
use Rattle.ref_allowed.proofs.drain_conditions.have_looked.Goals as goal

pub loop-other-preserved : goal.loop-other-preserved
loop-other-preserved c = below_more (λ o. (x : Count) × (slice_index_or c.args.looked.now o None
    ≡ Some x)) c.loop-other.other c.loop-other.invariant
    (c.has_looked.ensures.0 (let f = c.if-not-has_looked.false in
    let h : c.has_looked.result ≡ true = grind arith in h))
