use Rattle.std.proofs.Common.{◌∙◌, length, List, refl, ap, rules}
use Rattle.std.proofs.lemmas.List.{with_items_is}
use Rattle.run_serving.specs.declared.output.Output.{Output}
use Rattle.run_serving.specs.Readiness.{nothing_of}
use Rattle.run_serving.proofs.Starting.{ready_len}
use Rattle.run_serving.proofs.Concluding.{ran}
use Rattle.run_serving.proofs.whole.serve.Goals as goal

pub serve_in_turn-requires-clause-same : goal.serve_in_turn-requires-clause-same
serve_in_turn-requires-clause-same c =
    ap (λ (x : List Output). length x) c.as_mut_slice-slots.ensures.value
    ∙ ready_len nothing_of c.args.files.now c.in_ok-outputs.outputs.items c.in_ok-outputs.ensures.ready

pub returns : goal.returns
returns c = record {
  runs = λ plan passed_over start st.
      ran c.bindings_are_own.ensures c.queues_leave_desk.ensures plan passed_over start
      c.args.script.now c.args.files.now _ _ _ c.serve_in_turn.new.outputs _ _ _ _ st
      c.in_ok-outputs.ensures c.in_ok-edited.ensures.journals
      (rw c.as_mut_slice-slots.ensures.value at c.in_ok-places.ensures.serves)
      (with_items_is c.in_ok-outputs.outputs c.serve_in_turn.new.outputs (search rules)) refl refl
      refl refl refl;
}
