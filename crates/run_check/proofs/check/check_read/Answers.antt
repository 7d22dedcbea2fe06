use Rattle.run_check.proofs.Ending.{verdict_read, fault_read}
use Rattle.run_check.proofs.check.check_read.Goals as goal

pub returns-in-Ok : goal.returns-in-Ok
returns-in-Ok g c = λ before law e same p.
    verdict_read before _ _ _ c.args.name.now c.args.plan.now c.in-Ok.verdict _
    c.judge_plan.ensures.later c.in-Ok.ensures.judged c.put_verdict.ensures law e same p

pub returns-in-Err : goal.returns-in-Err
returns-in-Err g c = λ before law e same p.
    let said = rw (
      c.file_name.ensures,
      c.as_bytes.ensures.value,
      c.file.ensures,
    ) at c.report_fault.ensures in
    fault_read before _ _ _ c.args.name.now c.args.plan.now c.in-Err.fault
    c.judge_plan.ensures.later c.in-Err.ensures.refused said e same p
