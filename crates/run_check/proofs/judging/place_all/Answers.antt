use Rattle.std.proofs.Common.{arith}
use Rattle.check_records.specs.Seats.{all_responses}
use Rattle.run_check.specs.Finished.{lines_of}
use Rattle.run_check.proofs.Placing.{all_few, count_is, places_same}
use Rattle.run_check.proofs.judging.place_all.Goals as goal

pub returns-clause-number : goal.returns-clause-number
returns-clause-number c =
    let rs = c.args.records.now.responses.items in
    let j = c.args.records.now.journal in
    let perm = rw (c.lines_of-lines.ensures, c.deref.ensures.value) at c.in_ok-places.ensures.all in
    c.number_of-number.ensures (all_responses rs) (λ none. omega (
      arith,
      c.len.ensures,
      count_is rs j c.in_ok-places.places.items perm none,
    ))

pub returns-clause-bad : goal.returns-clause-bad
returns-clause-bad c =
    let perm = rw (c.lines_of-lines.ensures, c.deref.ensures.value) at c.in_ok-places.ensures.all in
    places_same _ c.in_ok-places.places.items c.number_of-number.result c.lowest_bad-bad.result perm
    (rw c.deref-2.ensures.value at c.lowest_bad-bad.ensures)

pub returns-clause-few : goal.returns-clause-few
returns-clause-few c =
    let perm = rw (c.lines_of-lines.ensures, c.deref.ensures.value) at c.in_ok-places.ensures.all in
    all_few c.args.records.now.responses.items (lines_of c.args.records.now.journal)
    c.in_ok-places.places.items 4294967296 perm c.in_ok-places.ensures.few
