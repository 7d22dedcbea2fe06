use Rattle.std.proofs.Common.{refl}
use Rattle.nvmet_run.proofs.Ending.{plan_unread, ran_since, ended_since}
use Rattle.nvmet_run.proofs.run.run_whole.Goals as goal

pub returns-in-Err-clause-refused : goal.returns-in-Err-clause-refused
returns-in-Err-clause-refused g c =
    plan_unread _ _ _ _ c.in-Err.ensures.refused c.read_plan_file.ensures.later
    (rw c.as_bytes.ensures.value at c.report_fault.ensures)

pub returns-in-Ok-run_read-clause-ran : goal.returns-in-Ok-run_read-clause-ran
returns-in-Ok-run_read-clause-ran g c =
    ran_since _ _ _ _ _ _ c.in-Ok.read c.read_plan_file.ensures.later.told c.in-Ok.ensures.read
    (c.in-Ok-run_read.ensures.ran c.args.plan.now)

pub returns-clause-refused : goal.returns-clause-refused
returns-clause-refused g c =
    let said = rw (
      c.file_name.ensures,
      c.as_bytes-in-Err-run_read.ensures.value,
      c.file.ensures,
    ) at c.report_fault-in-Err-run_read.ensures in
    ended_since _ _ _ _ c.args.plan.now c.in-Ok.read _ c.read_plan_file.ensures.later refl
    c.in-Ok.ensures.read (c.in-Err-run_read.ensures.refused c.args.plan.now) refl said
