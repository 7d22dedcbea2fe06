use Rattle.nvmet_run.proofs.Serving.{shown_as}
use Rattle.nvmet_run.proofs.commands.show_named.Goals as goal

pub returns-in-Err-clause-exact : goal.returns-in-Err-clause-exact
returns-in-Err-clause-exact g c = λ f tells quiet.
    shown_as c.of.result c.in-Err.fault f c.of.ensures (c.in-Err.ensures.exact f tells quiet)
