use Rattle.std.proofs.Common.{◌≡◌, length, ap, sym, ◌∙◌}
use Rattle.std.specs.Prelude.{IfOk}
use Rattle.std.proofs.lemmas.Result.{IfOk-weaker}
use Rattle.std.proofs.lemmas.List.{length-map}
use Rattle.check_records.specs.Cursors.{capsules_of}
use Rattle.check_records.specs.Seats.{all_responses, files_of}
use Rattle.run_check.proofs.Seating.{are_seated}
use Rattle.run_check.proofs.Verdicting.{JudgesAll, bad_place, judged}
use Rattle.run_check.proofs.judging.judge_finished.Goals as goal

pub returns-in-Some : goal.returns-in-Some
returns-in-Some c = λ s stands script files.
    bad_place s c.args.records.now c.in_ok-placing.placing.number c.in-Some.place
    (ap length files ∙ length-map c.args.files.now capsules_of ∙ sym c.requires.same)
    c.in_ok-placing.ensures.number (rw c.in-Some.is at c.in_ok-placing.ensures.bad)

pub judge-requires-clause-read : goal.judge-requires-clause-read
judge-requires-clause-read c = rw c.deref-2.ensures.value c.requires.read

pub judge-requires-clause-seated : goal.judge-requires-clause-seated
judge-requires-clause-seated c = rw c.deref_mut.ensures.value (are_seated c.args.target.now
    c.args.files.now (all_responses c.deref-2.result.now) c.in_ok-seats.seats.items c.requires.idle
    c.in_ok-seats.ensures.first)

pub returns : goal.returns
returns c =
    let r = c.args.records.now in
    let n = c.in_ok-placing.placing.number in
    let bound = c.bound_of-bound.result in
    let target = c.args.target.now in
    let script = c.args.script.now in
    let files = files_of c.args.files.now in
    let count : length files ≡ length r.responses.items =
    length-map c.args.files.now capsules_of ∙ sym c.requires.same in
    let places = rw c.in_default.is at c.in_ok-placing.ensures.bad in
    let bounds = rw (c.lines_of-lines.ensures, c.deref.ensures.value) at c.bound_of-bound.ensures in
    let judges : IfOk c.judge.result (JudgesAll n bound target script files r) =
    rw (c.lines_of-lines.ensures, c.deref-2.ensures.value) at c.judge.ensures.judges in
    IfOk-weaker c.judge.result (JudgesAll n bound target script files r) _
    (λ v h s stands same_script same_files. judged s r n bound target script files v same_script
    same_files count c.in_ok-placing.ensures.number places bounds h stands) judges
