use Rattle.std.proofs.Common.{inl}
use Rattle.run_check.proofs.Ending.{was_judged, stops_records}
use Rattle.run_check.proofs.check.judge_plan.Goals as goal

pub returns-in-Ok-judge_inputs-clause-judged : goal.returns-in-Ok-judge_inputs-clause-judged
returns-in-Ok-judge_inputs-clause-judged g c = λ name plan_read.
    let read = c.in-Ok.ensures.read in
    was_judged _ _ c.args.plan.now name read.known _ c.in-Ok-read_records.records _ read.plan_is
    read.holds.files_are c.read_plan_inputs.ensures.later read.was_read plan_read
    (rw c.deref.ensures.value at (c.in-Ok-read_records.ensures.read read.known))
    (c.in-Ok-judge_inputs.ensures read.known read.holds)

pub returns-in-Err-clause-refused : goal.returns-in-Err-clause-refused
returns-in-Err-clause-refused g c = inl c.in-Err.ensures.refused

pub returns-in-Err-read_records-clause-refused : goal.returns-in-Err-read_records-clause-refused
returns-in-Err-read_records-clause-refused g c =
    let read = c.in-Ok.ensures.read in
    stops_records _ _ _ c.args.plan.now read.known _ c.in-Err-read_records.fault read.plan_is
    read.holds.files_are c.read_plan_inputs.ensures.later read.read
    (rw c.deref.ensures.value at (c.in-Err-read_records.ensures.refused read.known))
