use Rattle.std.proofs.Common.{inr, sym, ap, ◌∙◌}
use Rattle.run_outcomes.specs.declared.faults.Fault.TheVariants as fault
use Rattle.nvmet_run.specs.Codes.{status_of}
use Rattle.nvmet_run.proofs.Serving.{clash, not_stopped, fault_is, stopped_as, judged_as}
use Rattle.nvmet_run.proofs.commands.check_named.Goals as goal

pub returns-in-Ok-clause-exact : goal.returns-in-Ok-clause-exact
returns-in-Ok-clause-exact g c = λ f tells quiet. absurd (c.in-Ok.ensures.exact f tells quiet)

pub returns-in-Err-NotLegal-clause-not_legal : goal.returns-in-Err-NotLegal-clause-not_legal
returns-in-Err-NotLegal-clause-not_legal g c = λ place field is.
    c.in-Err-NotLegal.ensures.not_legal place field
    (judged_as c.in-Err-NotLegal.field-0 c.in-Err-NotLegal.place place c.in-Err-NotLegal.field field
    c.in-Err-NotLegal.field-0-is is)

pub returns-in-Err-NotLegal-clause-exact : goal.returns-in-Err-NotLegal-clause-exact
returns-in-Err-NotLegal-clause-exact g c = λ f tells quiet.
    absurd (not_stopped c.in-Err-NotLegal.field-0 c.in-Err-NotLegal.place c.in-Err-NotLegal.field f fault.Memory
    c.in-Err-NotLegal.field-0-is (c.in-Err-NotLegal.ensures.exact f tells quiet))

pub returns-in-Err-NotLegal-clause-complete : goal.returns-in-Err-NotLegal-clause-complete
returns-in-Err-NotLegal-clause-complete g c = λ s tells right quiet calm.
    absurd (clash c.in-Err-NotLegal.place c.in-Err-NotLegal.field fault.Memory
    (sym c.in-Err-NotLegal.field-0-is ∙ c.in-Err-NotLegal.ensures.complete s tells right quiet calm))

pub returns-in-Err-Stopped-clause-exact : goal.returns-in-Err-Stopped-clause-exact
returns-in-Err-Stopped-clause-exact g c = λ f tells quiet.
    stopped_as c.of.result c.in-Err-Stopped.field-0 c.in-Err-Stopped.fault f c.of.ensures
    c.in-Err-Stopped.field-0-is (c.in-Err-Stopped.ensures.exact f tells quiet)

pub returns-in-Err-Stopped-clause-complete : goal.returns-in-Err-Stopped-clause-complete
returns-in-Err-Stopped-clause-complete g c = λ s tells right quiet calm.
    inr (c.of.ensures ∙ ap status_of (fault_is c.in-Err-Stopped.fault fault.Memory
    (sym c.in-Err-Stopped.field-0-is ∙ c.in-Err-Stopped.ensures.complete s tells right quiet calm)))
