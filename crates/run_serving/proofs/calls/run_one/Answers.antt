use Rattle.std.proofs.Common.{ℕ, ◌+◌, [], ap, ◌∙◌, refl}
use Rattle.mem_bdev.specs.Texts.{Text, appended}
use Rattle.run_records.specs.Records.{record_bytes}
use Rattle.run_records.specs.declared.records.Kind.TheVariants as kinds
use Rattle.tree_target.specs.Kept.{job_bytes}
use Rattle.tree_target.specs.declared.calls.Reply.TheVariants as replies
use Rattle.run_transcript.specs.Printing.{head_of}
use Rattle.run_serving.specs.declared.output.Output.{Output}
use Rattle.run_serving.proofs.More.{counts_more}
use Rattle.run_serving.proofs.Calling.{both_serve, makes_execute, makes_submit}
use Rattle.run_serving.proofs.Nexts.{no_fabrics}
use Rattle.run_serving.proofs.calls.run_one.Goals as goal

pub returns-clause-serves : goal.returns-clause-serves
returns-clause-serves c =
    let n = c.args.number in
    let old = c.args.output.now in
    let one = c.count.new.self in
    let submit = record_bytes (head_of c.args.place kinds.Submit n replies.Held 0) [] in
    let mid : Output = record one { records = appended one.records submit } in
    let counted = c.count.ensures.counts in
    let reply = c.run_into-reply.result.0 in
    let bytes = job_bytes c.args.target.now.blocks c.args.job.now in
    let given = c.run_into-reply.ensures.given in
    let runs = c.run_into-reply.ensures.runs in
    let first = counts_more old old mid c.args.place kinds.Submit n replies.Held 0 0 []
    (ap (λ (t : Text). appended t submit) c.count.ensures.same) refl refl refl refl refl refl refl
    refl refl (record {
      calls = counted.calls;
      submitted = counted.submitted;
      executed = counted.executed;
      refused = counted.refused;
      events = counted.events;
      waiting = counted.waiting;
      taken = counted.taken;
      given = counted.given;
    }) in
    let records =
    c.count-2.ensures.same ∙ c.run_into-reply.ensures.appends
    ∙ ap (λ (m : ℕ). appended (appended one.records submit)
    (record_bytes (head_of (c.args.place + 1) kinds.Execute n reply m) bytes)) given in
    both_serve _ _ _ runs.between _ _ mid _ _ _ _ replies.Held _ _
    c.run_into-reply.ensures.bindings c.requires.not_admin refl
    (makes_submit _ _ _ _ _ _ _ _ _ _ runs.submits first (no_fabrics _ c.requires.opcode))
    (makes_execute _ _ _ _ _ _ _ _ _ _ runs.executes
    (counts_more mid _ _ _ kinds.Execute n reply _ _ bytes records refl refl refl refl refl refl refl
    refl given c.count-2.ensures.counts))
