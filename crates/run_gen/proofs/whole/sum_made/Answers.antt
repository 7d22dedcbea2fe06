use Rattle.std.proofs.Common.{◌∙◌}
use Rattle.run_gen.proofs.Ending.{summed_in, unmade_in}
use Rattle.run_gen.proofs.Files.{in_hand_apart}
use Rattle.run_gen.proofs.whole.sum_made.Goals as goal

pub in_memory-requires-clause-apart : goal.in_memory-requires-clause-apart
in_memory-requires-clause-apart c = in_hand_apart c.args.seed.now c.args.made.now c.requires.made

pub returns-in-Ok-sum_run-clause-summed : goal.returns-in-Ok-sum_run-clause-summed
returns-in-Ok-sum_run-clause-summed c =
    let named = rw c.unwrap-name.ensures at c.as_text.ensures.value in
    summed_in c.args.seed.now c.args.made.now _ _ _ c.requires.made c.in-Ok.ensures.just
    (named ∙ c.in-Ok-plan_name.ensures.value) c.in-Ok-sum_run.ensures.summed

pub returns-clause-refused : goal.returns-clause-refused
returns-clause-refused c =
    let named = rw c.unwrap-name.ensures at c.as_text.ensures.value in
    unmade_in c.args.seed.now c.args.made.now _ _ _ _ c.requires.made c.in-Ok.ensures.just
    (named ∙ c.in-Ok-plan_name.ensures.value) c.in-Err-sum_run.ensures.refused
