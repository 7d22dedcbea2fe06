use Rattle.std.proofs.Common.{refl}
use Rattle.run_outcomes.specs.Outsides.{told_by, outside}
use Rattle.run_check.proofs.Ending.{plan_unread}
use Rattle.run_check.proofs.check.check_whole.Goals as goal

pub returns-in-Err : goal.returns-in-Err
returns-in-Err g c =
    plan_unread _ _ _ _ c.in-Err.ensures.refused c.read_plan_file.ensures.later
    (rw c.as_bytes.ensures.value at c.report_fault.ensures)

pub returns : goal.returns
returns g c =
    let files = g.F.Files in
    let sink = g.K.Sink in
    let old = c.args.files.now in
    let out = c.args.out.now in
    let before = outside (told_by (files.tells old) (files.told old)) (files.faults old)
    (files.last old) (sink.taken out) (sink.faults out) in
    c.check_read.ensures before c.right_runs_are_transcripts.ensures c.read_plan_file.ensures.later
    refl c.in-Ok.ensures.read
