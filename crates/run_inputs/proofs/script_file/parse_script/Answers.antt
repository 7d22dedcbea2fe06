use Rattle.run_inputs.proofs.Parsing.{script_given, script_refused}
use Rattle.run_inputs.proofs.script_file.parse_script.Goals as goal

pub returns-in-Ok-clause-exact : goal.returns-in-Ok-clause-exact
returns-in-Ok-clause-exact c = script_given c.args.bytes.now c.in-Ok.edits.items c.requires
    c.in-Ok.ensures.exact

pub returns-in-Err-clause-exact : goal.returns-in-Err-clause-exact
returns-in-Err-clause-exact c = rw c.line_fault.ensures (script_refused c.args.bytes.now
    c.in-Err.error c.requires c.in-Err.ensures.exact)
