use Rattle.std.proofs.Common.{true}
use Rattle.run_serving.specs.Goes.{AnySize, HasAll, HasEnded}
use Rattle.run_serving.proofs.Turning.{round_here, all_stable, ended_stable}
use Rattle.run_serving.proofs.rounds.+poll_all.Goals as goal

pub returns-clause-serves : goal.returns-clause-serves
returns-clause-serves t c =
    round_here c.bindings_are_own.ensures AnySize true c.args.queue c.args.files.now HasAll
    HasEnded all_stable ended_stable c.file-item.result _ _ _ c.index-outputs-0.result _ _ _ _ _ _
    c.file-item.is c.in-len1-up.len_at_least c.requires.same (λ m e. tt)
    c.poll_to_end-next.ensures.serves c.poll_all.ensures.serves
