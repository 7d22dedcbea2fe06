use Rattle.std.proofs.Common.{false, arith}
use Rattle.run_serving.specs.Goes.{HasFront, HasNothing, IsFrontLong}
use Rattle.run_serving.proofs.Turning.{round_here, nothing_stable, front_stable}
use Rattle.run_serving.proofs.rounds.+serve_fronts.Goals as goal

pub returns-clause-serves : goal.returns-clause-serves
returns-clause-serves t c =
    round_here c.bindings_are_own.ensures IsFrontLong false c.args.queue c.args.files.now HasNothing
    HasFront nothing_stable front_stable c.file-item.result _ _ _ c.index-outputs-0.result _ _ _ _ _ _ c.file-item.is
    c.in-len1-up.len_at_least c.requires.same
    (λ m e. omega (arith, e, c.serve_front-next.ensures.places)) c.serve_front-next.ensures.serves
    c.serve_fronts.ensures.serves
