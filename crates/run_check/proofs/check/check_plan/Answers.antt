use Rattle.run_check.proofs.Ending.{legal_is, fault_is, exact_ends, named_ends, complete_ends}
use Rattle.run_check.proofs.check.check_plan.Goals as goal

pub returns-clause-legal : goal.returns-clause-legal
returns-clause-legal g c = legal_is _ _ _ _ c.check_whole.ensures

pub returns-clause-not_legal : goal.returns-clause-not_legal
returns-clause-not_legal g c = λ place field is. fault_is _ _ _ _ _ c.check_whole.ensures is

pub returns-clause-refused : goal.returns-clause-refused
returns-clause-refused g c = λ f is. fault_is _ _ _ _ _ c.check_whole.ensures is

pub returns-clause-exact : goal.returns-clause-exact
returns-clause-exact g c = λ f tells quiet. exact_ends _ _ _ _ f c.told_files_settle.ensures
    c.check_whole.ensures tells quiet

pub returns-clause-named : goal.returns-clause-named
returns-clause-named g c = λ s place field tells bad quiet.
    named_ends _ _ _ _ s place field c.told_files_settle.ensures c.right_runs_have_no_fault.ensures
    c.runs_have_one_fault.ensures c.check_whole.ensures tells bad quiet

pub returns-clause-complete : goal.returns-clause-complete
returns-clause-complete g c = λ s tells right quiet calm.
    complete_ends _ _ _ _ s c.told_files_settle.ensures c.right_runs_have_no_fault.ensures
    c.check_whole.ensures tells right quiet calm
