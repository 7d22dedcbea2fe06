use Rattle.std.proofs.Common.{◌∙◌, refl}
use Rattle.run_records.specs.declared.records.Kind.TheVariants as kinds
use Rattle.run_serving.proofs.More.{counts_more}
use Rattle.run_serving.proofs.Calling.{makes_submit, through_serves}
use Rattle.run_serving.proofs.Nexts.{not_held, no_fabrics}
use Rattle.run_serving.proofs.calls.submit_admin_one.Goals as goal

pub returns-clause-serves : goal.returns-clause-serves
returns-clause-serves c =
    let into = c.submit_admin_into-reply.ensures in
    let reply = c.submit_admin_into-reply.result.0 in
    through_serves _ _ _ _ _ _ _ _ reply _ (not_held _ into.answered)
    (makes_submit _ _ _ _ _ _ _ _ _ _ into.does.does
    (counts_more c.args.output.now _ _ _ kinds.Submit c.args.number reply 0 _ _
    (c.count.ensures.same ∙ into.does.appends) refl refl refl refl refl refl refl refl
    into.does.given_is c.count.ensures.counts)
    (no_fabrics _ c.requires.opcode))
