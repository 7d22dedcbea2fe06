use Rattle.std.proofs.Common.{◌≡◌, ℕ, None, refl, subst, ◌∙◌, arith}
use Rattle.tree_target.specs.Stands.{StandsFor}
use Rattle.run_transcript.specs.Runs.{target_at}
use Rattle.std.specs.Prelude.{Option}
use Rattle.run_verdicts.specs.declared.verdict.Field.{Field}
use Rattle.run_verdicts.specs.Faults.{AreDone}
use Rattle.check_records.specs.Seats.{Laid, Goes, index_of}
use Rattle.check_records.proofs.Finishing.{fresh-laid, inside, are-done, editor-left, queue-left, judged-right, judged-early}
use Rattle.check_records.proofs.ending.judge.Goals as goal
use Rattle.check_records.proofs.ending.judge.Goals.{else-is_editor_done-via-then-is_editor_done+else-are_queues_done, else-is_editor_done-via-else-is_editor_done}

pub loop-place-init : goal.loop-place-init
loop-place-init c = record {
  seats = c.requires.seats;
  queues = c.requires.queues;
  seated = c.requires.seated;
  desk = record { editing = refl };
  room = c.requires.room;
  laid = λ run told bounds places st. (fresh-laid c.args.n run _ _ _ _ c.args.seats.now told places c.requires.fresh, st);
}

pub loop-place-preserved : goal.loop-place-preserved
loop-place-preserved c =
    let none = c.in-None.is in
    let inv = c.loop-place.invariant in
    record {
      seats = omega (arith, c.step_place.auto.seats, inv.seats);
      queues = c.in_ok-found.ensures.queues none ∙ inv.queues;
      seated = c.in_ok-found.ensures.seated none;
      desk = c.in_ok-found.ensures.desk none;
      room = omega (arith, c.in_ok-found.ensures.room none, inv.room);
      laid = λ run told bounds places st.
          let k = inv.laid run told bounds places st in
          let goes : Goes c.args.n c.loop-place.place run None c.step_place.new.target (index_of c.step_place.new.desk.next c.step_place.new.seats) =
          subst (λ (o : Option Field). Goes c.args.n c.loop-place.place run o c.step_place.new.target (index_of c.step_place.new.desk.next c.step_place.new.seats)) none
          (c.in_ok-found.ensures.goes c.args.n run told bounds c.loop-place-test.true k.0 k.1) in
          goes;
    }

pub are_queues_done-requires-clause-inside : goal.are_queues_done-requires-clause-inside
are_queues_done-requires-clause-inside c =
    inside c.loop-place.target c.args.files.now c.args.responses.now c.loop-place.seats c.requires.same c.loop-place.invariant.seated

pub returns-then-are_queues_done : goal.returns-then-are_queues_done
returns-then-are_queues_done c = record {
  judges = λ run told bounds places st.
      let inv = c.loop-place.invariant in
      let k = inv.laid run told bounds places st in
      let is : c.loop-place.place ≡ c.args.n = omega (arith, c.loop-place-test.false, c.loop-place.auto.place-end) in
      let laid : Laid c.args.n c.args.n run (index_of c.loop-place.desk.next c.loop-place.seats) = subst (λ (p : ℕ). Laid c.args.n p run (index_of c.loop-place.desk.next c.loop-place.seats)) is k.0 in
      let stands : StandsFor c.loop-place.target (target_at run c.args.n) = subst (λ (p : ℕ). StandsFor c.loop-place.target (target_at run p)) is k.1 in
      let done : AreDone run = are-done c.args.n run c.args.script.now c.args.files.now c.args.responses.now c.args.journal.now c.loop-place.desk c.loop-place.seats c.loop-place.target told laid stands inv.desk inv.seated inv.seats c.requires.same
      (c.if-is_editor_done.ensures.done refl (target_at run c.args.n) stands) (c.if-are_queues_done.ensures.done refl) in
      (refl, judged-right c.args.n run c.args.script.now c.args.files.now c.args.responses.now c.args.journal.now c.loop-place.desk c.loop-place.seats c.loop-place.target told laid stands inv.desk inv.seated inv.seats c.requires.same done);
}

pub returns : goal.returns
returns c = record {
  judges = λ run told bounds places st.
      let inv = c.loop-place.invariant in
      let k = inv.laid run told bounds places st in
      let is : c.loop-place.place ≡ c.args.n = omega (arith, c.loop-place-test.false, c.loop-place.auto.place-end) in
      let laid : Laid c.args.n c.args.n run (index_of c.loop-place.desk.next c.loop-place.seats) = subst (λ (p : ℕ). Laid c.args.n p run (index_of c.loop-place.desk.next c.loop-place.seats)) is k.0 in
      let stands : StandsFor c.loop-place.target (target_at run c.args.n) = subst (λ (p : ℕ). StandsFor c.loop-place.target (target_at run p)) is k.1 in
      judged-early c.args.n run c.args.script.now c.args.files.now c.args.responses.now c.args.journal.now c.loop-place.desk c.loop-place.seats c.loop-place.target told laid stands inv.desk inv.seated inv.seats c.requires.same
      (elim c.else-is_editor_done.branch [
        | else-is_editor_done-via-then-is_editor_done+else-are_queues_done w ↦
            queue-left c.args.n run c.args.script.now c.args.files.now c.args.responses.now c.args.journal.now c.loop-place.desk c.loop-place.seats c.loop-place.target told laid stands inv.desk inv.seated inv.seats c.requires.same
            (w.if-are_queues_done.ensures.left refl)
        | else-is_editor_done-via-else-is_editor_done w ↦
            editor-left c.args.n run c.args.script.now c.args.files.now c.args.responses.now c.args.journal.now c.loop-place.desk c.loop-place.seats c.loop-place.target told laid stands inv.desk inv.seated inv.seats c.requires.same
            (w.if-is_editor_done.ensures.left refl (target_at run c.args.n) stands)
      ]);
}
