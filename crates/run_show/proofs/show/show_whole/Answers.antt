use Rattle.std.proofs.Common.{refl}
use Rattle.run_show.proofs.Ending.{plan_unread, shown_since, ended_since}
use Rattle.run_show.proofs.show.show_whole.Goals as goal

pub returns-in-Err-clause-refused : goal.returns-in-Err-clause-refused
returns-in-Err-clause-refused g c =
    plan_unread _ _ _ _ c.in-Err.ensures.refused c.read_plan_file.ensures.later
    (rw c.as_bytes.ensures.value at c.report_fault.ensures)

pub returns-in-Ok-show_read-clause-shown : goal.returns-in-Ok-show_read-clause-shown
returns-in-Ok-show_read-clause-shown g c =
    shown_since _ _ _ _ _ _ c.in-Ok.read c.read_plan_file.ensures.later.told c.in-Ok.ensures.read
    (c.in-Ok-show_read.ensures.shown c.args.plan.now)

pub returns-clause-refused : goal.returns-clause-refused
returns-clause-refused g c =
    let said = rw (
      c.file_name.ensures,
      c.as_bytes-in-Err-show_read.ensures.value,
      c.file.ensures,
    ) at c.report_fault-in-Err-show_read.ensures in
    ended_since _ _ _ _ c.args.plan.now c.in-Ok.read _ c.read_plan_file.ensures.later
    c.show_read.ensures.later refl c.in-Ok.ensures.read
    (c.in-Err-show_read.ensures.refused c.args.plan.now) refl said
