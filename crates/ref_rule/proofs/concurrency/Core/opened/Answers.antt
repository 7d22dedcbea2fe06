use Rattle.std.proofs.Common.{◌*◌, replicate, sym, subst}
use Rattle.ref_state.specs.Soundness.{IsSound, opened_core}
use Rattle.ref_state.proofs.Whole.{parts_of}
use Rattle.ref_state.proofs.Opened.{opens}
use Rattle.ref_rule.proofs.concurrency.Core.opened.Goals as goal

pub invariant_of-result : goal.invariant_of-result
invariant_of-result c = let qs = c.args.quotas.now in let d = c.args.disks in
    let ws = replicate c.args.rows 0 in
    subst IsSound (sym c.in_ok-state.ensures) (parts_of (opened_core qs d (8 * d) ws)
    (opens qs d (8 * d) ws c.requires.sum))
