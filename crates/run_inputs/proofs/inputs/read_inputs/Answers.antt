use Rattle.run_inputs.specs.Views.{seen}
use Rattle.run_inputs.proofs.Settling.{fault_settled, fault_of_none, none_but_fault}
use Rattle.run_inputs.proofs.Whole.{plan_ends, rest_ends, rest_goes, rest_read}
use Rattle.run_inputs.proofs.inputs.read_inputs.Goals as goal

pub returns-in-Err-clause-refused : goal.returns-in-Err-clause-refused
returns-in-Err-clause-refused g c = plan_ends _ _ c.args.name.now c.in-Err.fault
    c.in-Err.ensures.refused

pub returns-in-Ok-read_plan_inputs-clause-read : goal.returns-in-Ok-read_plan_inputs-clause-read
returns-in-Ok-read_plan_inputs-clause-read g c =
    let before = seen (g.F.Files.tells c.args.files.now) (g.F.Files.told c.args.files.now)
    (g.F.Files.faults c.args.files.now) (g.F.Files.last c.args.files.now) in
    rest_read before _ c.args.name.now c.in-Ok.plan c.in-Ok-read_plan_inputs.inputs
    c.in-Ok.ensures.read c.in-Ok.ensures.later c.in-Ok-read_plan_inputs.ensures.read

pub returns-in-Ok-read_plan_inputs-clause-exact : goal.returns-in-Ok-read_plan_inputs-clause-exact
returns-in-Ok-read_plan_inputs-clause-exact g c = λ f tell quiet.
    let after = seen (g.F.Files.tells c.read_plan_inputs.new.files)
    (g.F.Files.told c.read_plan_inputs.new.files) (g.F.Files.faults c.read_plan_inputs.new.files)
    (g.F.Files.last c.read_plan_inputs.new.files) in
    let all = rest_goes _ _ after c.args.name.now c.in-Ok.plan c.in-Ok-read_plan_inputs.inputs
    c.in-Ok.ensures.read c.in-Ok.ensures.later c.in-Ok-read_plan_inputs.ensures.read in
    none_but_fault _ _ c.args.name.now _ f all tell quiet

pub returns-in-Err-read_plan_inputs-clause-refused :
    goal.returns-in-Err-read_plan_inputs-clause-refused
returns-in-Err-read_plan_inputs-clause-refused g c =
    rest_ends _ _ _ c.args.name.now c.in-Ok.plan c.in-Err-read_plan_inputs.fault
    c.in-Ok.ensures.read c.in-Ok.ensures.later c.in-Err-read_plan_inputs.ensures.refused

pub returns-in-Err-read_plan_inputs-clause-exact : goal.returns-in-Err-read_plan_inputs-clause-exact
returns-in-Err-read_plan_inputs-clause-exact g c = λ f tell quiet.
    fault_settled _ _ c.args.name.now c.in-Err-read_plan_inputs.fault f
    (rest_ends _ _ _ c.args.name.now c.in-Ok.plan c.in-Err-read_plan_inputs.fault
    c.in-Ok.ensures.read c.in-Ok.ensures.later c.in-Err-read_plan_inputs.ensures.refused) tell quiet

pub returns-in-Err-read_plan_inputs-clause-complete :
    goal.returns-in-Err-read_plan_inputs-clause-complete
returns-in-Err-read_plan_inputs-clause-complete g c = λ s tell quiet.
    fault_of_none _ _ c.args.name.now c.in-Err-read_plan_inputs.fault s
    (rest_ends _ _ _ c.args.name.now c.in-Ok.plan c.in-Err-read_plan_inputs.fault
    c.in-Ok.ensures.read c.in-Ok.ensures.later c.in-Err-read_plan_inputs.ensures.refused) tell quiet
