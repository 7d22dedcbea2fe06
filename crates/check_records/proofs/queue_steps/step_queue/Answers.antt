use Rattle.std.proofs.Common.{ℕ, List, subst}
use Rattle.response_files.specs.Responses.{response_in}
use Rattle.check_records.specs.Told.{entry_told}
use Rattle.check_records.specs.Cursors.{capsules_of, step_call}
use Rattle.check_records.specs.Steps.{Compares}
use Rattle.check_records.proofs.Stepping.{steps, told_as}
use Rattle.check_records.proofs.queue_steps.step_queue.Goals as goal

pub returns-clause-steps : goal.returns-clause-steps
returns-clause-steps c = λ t st.
    let q = c.args.queue in
    let f = capsules_of c.args.file.now in
    let n = c.args.at.now.taken in
    let e = entry_told q f n (response_in c.args.bytes.now c.args.record.now) in
    let named = c.names.ensures.0 c.if-not-names.false in
    steps _ t e (step_call q f n c.in-Some.step) c.make-reply.result c.make-reply.new.buffer.bytes c.make-reply.new.target c.difference.result
    (c.in-Some.ensures.next t st)
    (told_as q n f _ _ _ _ named.0 named.1)
    (c.make-reply.ensures.does t st)
    (subst (λ (b : List ℕ). Compares e.reply b c.make-reply.result c.make-reply.new.buffer.bytes c.difference.result) c.data.ensures
    (subst (λ (b : List ℕ). Compares e.reply c.data.result.now c.make-reply.result b c.difference.result) c.bytes.ensures.value c.difference.ensures))
