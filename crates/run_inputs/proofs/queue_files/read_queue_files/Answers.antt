use Rattle.std.proofs.Common.{◌≡◌, ◌<◌, ◌+◌, ◌++◌, ◌∷◌, [], length, subst, sym, arith}
use Rattle.std.specs.Prelude.{IsUtf8}
use Rattle.std.proofs.lemmas.Result.{err_from_is_err_and}
use Rattle.std.proofs.lemmas.List.{map_push, length-append}
use Rattle.std.proofs.lemmas.List.Elements.{All-push}
use Rattle.plan_files.specs.declared.items.QueueLine.{QueueLine}
use Rattle.run_inputs.specs.Ready.{IsReady}
use Rattle.run_inputs.proofs.OneFile.{earlier_again}
use Rattle.run_inputs.proofs.QueueLoop.{one_more, stops_here, next_line}
use Rattle.run_inputs.proofs.queue_files.read_queue_files.Goals as goal

pub read_queue_file-requires-clause-name : goal.read_queue_file-requires-clause-name
read_queue_file-requires-clause-name g c =
    let lt : c.loop-i.i < length c.args.lines.now = omega arith in
    subst (λ (q : QueueLine). IsUtf8 q.capsules) (sym c.index-lines-i.is)
    (c.requires.names c.loop-i.i c.index-lines-i.result lt).0

pub returns-in_err-next-clause-refused : goal.returns-in_err-next-clause-refused
returns-in_err-next-clause-refused g c =
    let lt : c.loop-i.i < length c.args.lines.now = omega arith in
    let p = err_from_is_err_and c.from_residual.result c.from_residual.ensures.1 in
    rw (p.1, p.2) (stops_here _ _ _ c.args.lines.now _ _ c.index-lines-i.result c.loop-i.i _
    c.loop-i.input c.loop-i.output _ _ c.capsules_number-number.ensures c.loop-i.invariant.later
    (next_line c.args.lines.now c.loop-i.i c.index-lines-i.result lt c.index-lines-i.is)
    c.loop-i.invariant.so_far c.in_err-next.ensures.refused)

pub loop-i-preserved : goal.loop-i-preserved
loop-i-preserved g c =
    let lt : c.loop-i.i < length c.args.lines.now = omega arith in
    let done = c.loop-i.read.items in
    let one = c.in_ok-next.next.file in
    let more : c.push.new.self.items ≡ done ++ one ∷ [] = c.in_ok-push.ensures.items in
    let count : length (done ++ one ∷ []) ≡ length done + 1 = length-append done (one ∷ []) in
    let last = one_more _ _ c.args.lines.now _ _ c.index-lines-i.result c.loop-i.i _
    c.loop-i.input c.loop-i.output _ c.loop-i.invariant.later
    (next_line c.args.lines.now c.loop-i.i c.index-lines-i.result lt c.index-lines-i.is)
    c.loop-i.invariant.so_far
    (rw c.capsules_number-number.ensures at c.in_ok-next.ensures.read) in
    record {
      input_small = c.in_ok-next.ensures.input;
      output_small = c.in_ok-next.ensures.output;
      ready = rw more (All-push IsReady done one c.loop-i.invariant.ready c.in_ok-next.ensures.ready);
      all = rw (more, count) (omega (arith, c.loop-i.invariant.all));
      later = earlier_again _ _ _ c.loop-i.invariant.later c.in_ok-next.ensures.later;
      so_far = rw (more, map_push) last;
    }
