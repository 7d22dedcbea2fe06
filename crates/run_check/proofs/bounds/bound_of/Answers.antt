use Rattle.std.proofs.Common.{◌<◌, ◌≤◌, ◌+◌, ◌^◌, length, drop, ap, sym, subst, arith}
use Rattle.std.proofs.lemmas.List.{drop_all}
use Rattle.check_records.specs.declared.seats.Responses.{Responses}
use Rattle.check_records.specs.Cursors.{capsules_of}
use Rattle.check_records.specs.Seats.{all_responses, files_of, responses_of}
use Rattle.run_check.proofs.Bounding.{no_queue, queue_more, no_queue_left}
use Rattle.run_check.proofs.Placing.{next_at}
use Rattle.run_check.proofs.bounds.bound_of.Goals as goal

pub loop-i-init : goal.loop-i-init
loop-i-init c = no_queue c.args.lines.now (files_of c.args.files.now)
    (all_responses c.args.responses.now) c.bound_of_lines-bound.result c.bound_of_lines-bound.ensures

pub bound_of_queue-bound-requires : goal.bound_of_queue-bound-requires
bound_of_queue-bound-requires c =
    let lt : c.loop-i.i < length c.args.responses.now = omega (arith, c.loop-i-test.true, c.requires.same) in
    subst (λ (r : Responses). length r.records.items < 2 ^ 32) (sym c.index-responses-i.is)
    (c.requires.few c.loop-i.i c.index-responses-i.result lt)

pub loop-i-preserved : goal.loop-i-preserved
loop-i-preserved c =
    let fs = c.args.files.now in
    let rs = c.args.responses.now in
    let i = c.loop-i.i in
    let f = c.index-files-i.result in
    let r = c.index-responses-i.result in
    let lt : i < length rs = omega (arith, c.loop-i-test.true, c.requires.same) in
    queue_more c.args.lines.now (files_of fs) (all_responses rs) i c.loop-i.bound
    c.bound_of_queue-bound.result (files_of (drop i fs)) (files_of (drop (i + 1) fs))
    (all_responses (drop i rs)) (all_responses (drop (i + 1) rs)) (capsules_of f) (responses_of r)
    (ap files_of (next_at fs i f c.loop-i-test.true c.index-files-i.is))
    (ap all_responses (next_at rs i r lt c.index-responses-i.is)) c.bound_of_queue-bound.ensures
    c.loop-i.invariant

pub returns : goal.returns
returns c =
    let fs = c.args.files.now in
    let i = c.loop-i.i in
    let le : length fs ≤ i = omega (arith, c.loop-i-test.false) in
    no_queue_left c.args.lines.now (files_of fs) (all_responses c.args.responses.now) i c.loop-i.bound
    (files_of (drop i fs)) (all_responses (drop i c.args.responses.now))
    (ap files_of (drop_all i fs le)) c.loop-i.invariant
