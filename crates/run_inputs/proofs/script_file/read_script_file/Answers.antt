use Rattle.run_inputs.proofs.script_file.read_script_file.Goals as goal

pub returns-in-Some-clause-refused : goal.returns-in-Some-clause-refused
returns-in-Some-clause-refused g c = rw c.in-Some.is c.read_named_script.ensures.refused
