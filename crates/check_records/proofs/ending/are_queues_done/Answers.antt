use Rattle.std.proofs.Common.{◌<◌, length, sym, ◌∙◌, arith}
use Rattle.std.proofs.lemmas.Option.{slice_get-get_or, slice_get_within}
use Rattle.check_records.proofs.Finding.{none_seat}
use Rattle.check_records.proofs.Finishing.{file_at, one-left, ended-more}
use Rattle.check_records.proofs.ending.are_queues_done.Goals as goal

pub next-requires : goal.next-requires
next-requires c =
    c.requires.inside c.loop-q.q c.index-files-q.result _ (file_at c.args.files.now c.loop-q.q c.index-files-q.result c.loop-q-test.true c.index-files-q.is)
    (slice_get-get_or c.args.seats.now c.loop-q.q none_seat (omega (arith, c.loop-q-test.true, c.requires.same)))

pub returns-then-is_some-clause-left : goal.returns-then-is_some-clause-left
returns-then-is_some-clause-left c = λ is.
    one-left c.args.target.now c.args.files.now c.args.seats.now c.loop-q.q c.index-files-q.result _ c.next.result
    (file_at c.args.files.now c.loop-q.q c.index-files-q.result c.loop-q-test.true c.index-files-q.is)
    (slice_get-get_or c.args.seats.now c.loop-q.q none_seat (omega (arith, c.loop-q-test.true, c.requires.same)))
    c.next.ensures.next (sym c.is_some.ensures ∙ c.if-is_some.true)

pub loop-q-preserved : goal.loop-q-preserved
loop-q-preserved c =
    ended-more c.args.target.now c.args.files.now c.args.seats.now c.loop-q.q c.index-files-q.result _ c.next.result
    (file_at c.args.files.now c.loop-q.q c.index-files-q.result c.loop-q-test.true c.index-files-q.is)
    (slice_get-get_or c.args.seats.now c.loop-q.q none_seat (omega (arith, c.loop-q-test.true, c.requires.same)))
    c.next.ensures.next (sym c.is_some.ensures ∙ c.if-is_some.false) c.loop-q.invariant

pub returns-clause-done : goal.returns-clause-done
returns-clause-done c = λ is q f s hf hs.
    let lt : q < length c.args.files.now = slice_get_within c.args.files.now q f hf in
    c.loop-q.invariant q f s (omega (arith, lt, c.loop-q-test.false)) hf hs
