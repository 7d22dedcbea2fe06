use Rattle.run_inputs.proofs.Walking.{plan_start_stops, plan_script_stops, plan_queues_stop, plan_reads_all, rest_was}
use Rattle.run_inputs.proofs.inputs.read_plan_inputs.Goals as goal

pub returns-in-Err-clause-refused : goal.returns-in-Err-clause-refused
returns-in-Err-clause-refused g c = plan_start_stops _ _ c.args.plan.now c.in-Err.fault
    c.in-Err.ensures.refused

pub returns-in-Err-read_script_file-clause-refused :
    goal.returns-in-Err-read_script_file-clause-refused
returns-in-Err-read_script_file-clause-refused g c =
    plan_script_stops _ _ _ c.args.plan.now _ _ c.in-Err-read_script_file.fault
    c.in-Ok.ensures.later c.in-Ok.ensures.read c.in-Err-read_script_file.ensures.refused

pub read_queue_files-requires-clause-names : goal.read_queue_files-requires-clause-names
read_queue_files-requires-clause-names g c = rw c.as_slice.ensures c.requires.names.queues

pub returns-in-Ok-read_queue_files-clause-read : goal.returns-in-Ok-read_queue_files-clause-read
returns-in-Ok-read_queue_files-clause-read g c =
    let a = plan_reads_all _ _ _ c.args.plan.now _ _ _ _ c.in-Ok.ensures.later
    c.in-Ok-read_script_file.ensures.later c.in-Ok.ensures.read
    c.in-Ok-read_script_file.ensures.read
    (rw c.as_slice.ensures at c.in-Ok-read_queue_files.ensures.read) in
    record {
      known = a.known;
      plan_is = a.plan_is;
      holds = a.holds;
      was_read = rest_was _ c.args.plan.now a.known a.read;
      read = a.read;
    }

pub returns-in-Err-read_queue_files-clause-refused :
    goal.returns-in-Err-read_queue_files-clause-refused
returns-in-Err-read_queue_files-clause-refused g c =
    plan_queues_stop _ _ _ _ c.args.plan.now _ _ _ c.in-Err-read_queue_files.fault
    c.in-Ok.ensures.later c.in-Ok-read_script_file.ensures.later c.in-Ok.ensures.read
    c.in-Ok-read_script_file.ensures.read
    (rw c.as_slice.ensures at c.in-Err-read_queue_files.ensures.refused)
