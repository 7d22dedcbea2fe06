use Rattle.std.proofs.Common.{false}
use Rattle.run_serving.specs.Goes.{AnySize, HasAll, HasFront}
use Rattle.run_serving.proofs.Turning.{round_here, front_stable, all_stable}
use Rattle.run_serving.proofs.rounds.+serve_rests.Goals as goal

pub returns-clause-serves : goal.returns-clause-serves
returns-clause-serves t c =
    round_here c.bindings_are_own.ensures AnySize false c.args.queue c.args.files.now HasFront
    HasAll front_stable all_stable c.file-item.result _ _ _ c.index-outputs-0.result _ _ _ _ _ _
    c.file-item.is c.in-len1-up.len_at_least c.requires.same (λ m e. tt)
    c.serve_rest-next.ensures.serves c.serve_rests.ensures.serves
