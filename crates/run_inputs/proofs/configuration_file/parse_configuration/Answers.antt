use Rattle.run_inputs.proofs.Starting.{json_stops, edits_stop, text_starts}
use Rattle.run_inputs.proofs.configuration_file.parse_configuration.Goals as goal

pub returns-in-Err-clause-refused : goal.returns-in-Err-clause-refused
returns-in-Err-clause-refused c = λ s e. rw c.json_fault.ensures
    (json_stops s c.args.bytes.now c.in-Err.error c.in-Err.ensures.exact)

pub returns-in-Ok-load_target-clause-started : goal.returns-in-Ok-load_target-clause-started
returns-in-Ok-load_target-clause-started c = λ s e.
    text_starts s c.args.plan.now c.args.bytes.now c.in-Ok.config c.in-Ok-load_target.target
    c.in-Ok.ensures.exact e c.in-Ok-load_target.ensures.started

pub returns-clause-refused : goal.returns-clause-refused
returns-clause-refused c = λ s e.
    edits_stop s c.args.plan.now c.args.bytes.now c.in-Ok.config c.in-Err-load_target.fault
    c.in-Ok.ensures.exact e c.in-Err-load_target.ensures.refused
