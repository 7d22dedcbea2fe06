use Rattle.std.proofs.Common.{refl}
use Rattle.nvmet_run.proofs.Ending.{ran, made_ends}
use Rattle.nvmet_run.proofs.run.run_read.Goals as goal

pub returns-in-Ok-write_run-clause-ran : goal.returns-in-Ok-write_run-clause-ran
returns-in-Ok-write_run-clause-ran g c = λ name plan_read.
    ran _ _ _ _ _ name c.args.plan.now _ _ _ c.make_run.ensures.later.told
    (c.in-Ok.ensures.made name plan_read) c.in-Ok-write_run.ensures.written
    c.in-Ok-write_run.ensures.put

pub returns-in-Ok-clause-refused : goal.returns-in-Ok-clause-refused
returns-in-Ok-clause-refused g c = λ name plan_read.
    made_ends _ _ _ name c.args.plan.now _ _ _ _ c.make_run.ensures.later refl
    (c.in-Ok.ensures.made name plan_read) c.in-Err-write_run.ensures.refused
