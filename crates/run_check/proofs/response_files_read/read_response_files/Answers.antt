use Rattle.std.proofs.Common.{◌≡◌, ◌<◌, ◌+◌, ◌++◌, ◌∷◌, [], length, get_or, ap, subst, sym, ◌∙◌, arith}
use Rattle.std.specs.Prelude.{IsUtf8}
use Rattle.std.proofs.lemmas.Result.{err_from_is_err_and}
use Rattle.std.proofs.lemmas.List.{map_push, length-append}
use Rattle.std.proofs.lemmas.List.Elements.{All-push}
use Rattle.plan_files.specs.declared.items.QueueLine.{QueueLine}
use Rattle.run_transcript.specs.declared.capsule_files.CapsuleFile.{CapsuleFile}
use Rattle.run_inputs.specs.Ready.{IsReady}
use Rattle.run_inputs.specs.QueueFile.{room_of_all}
use Rattle.run_inputs.proofs.OneFile.{earlier_again}
use Rattle.check_records.specs.Cursors.{capsules_of}
use Rattle.check_records.specs.Seats.{AreRead, files_of}
use Rattle.run_check.proofs.Files.{one_more, stops_here, room_is}
use Rattle.run_check.proofs.Placing.{next_at}
use Rattle.run_check.proofs.response_files_read.read_response_files.Goals as goal

pub read_response_file-requires : goal.read_response_file-requires
read_response_file-requires g c =
    let lt : c.loop-i.i < length c.args.lines.now = omega arith in
    record {
      name = subst (λ (q : QueueLine). IsUtf8 q.responses) (sym c.index-lines-i.is)
          (c.requires.names c.loop-i.i c.index-lines-i.result lt).1;
    }

pub returns-in_err-next-clause-refused : goal.returns-in_err-next-clause-refused
returns-in_err-next-clause-refused g c =
    let lt : c.loop-i.i < length c.args.lines.now = omega arith in
    let lf : c.loop-i.i < length c.args.capsules.now = omega (arith, c.requires.same) in
    let f = c.index-capsules-i.result in
    let there = get_or c.args.capsules.now c.loop-i.i f in
    let ready : IsReady there = c.requires.ready c.loop-i.i f lf in
    let room : there.room ≡ room_of_all (capsules_of f) =
    ap (λ (x : CapsuleFile). x.room) (sym c.index-capsules-i.is)
    ∙ room_is f f.room (subst (λ (x : CapsuleFile). IsReady x) (sym c.index-capsules-i.is) ready).room in
    let p = err_from_is_err_and c.from_residual.result c.from_residual.ensures.1 in
    rw (p.1, p.2) (stops_here _ _ _ c.args.lines.now _ _ (files_of c.args.capsules.now) _ _
    c.index-lines-i.result (capsules_of f) c.loop-i.i _ _ there.room _ c.loop-i.invariant.later
    c.responses_number-number.ensures room
    (next_at c.args.lines.now c.loop-i.i c.index-lines-i.result lt c.index-lines-i.is)
    (ap files_of (next_at c.args.capsules.now c.loop-i.i f lf c.index-capsules-i.is))
    c.loop-i.invariant.so_far c.in_err-next.ensures.refused)

pub loop-i-preserved : goal.loop-i-preserved
loop-i-preserved g c =
    let lt : c.loop-i.i < length c.args.lines.now = omega arith in
    let lf : c.loop-i.i < length c.args.capsules.now = omega (arith, c.requires.same) in
    let f = c.index-capsules-i.result in
    let there = get_or c.args.capsules.now c.loop-i.i f in
    let ready : IsReady there = c.requires.ready c.loop-i.i f lf in
    let room : there.room ≡ room_of_all (capsules_of f) =
    ap (λ (x : CapsuleFile). x.room) (sym c.index-capsules-i.is)
    ∙ room_is f f.room (subst (λ (x : CapsuleFile). IsReady x) (sym c.index-capsules-i.is) ready).room in
    let done = c.loop-i.read.items in
    let one = c.in_ok-next.next in
    let more : c.push.new.self.items ≡ done ++ one ∷ [] = c.in_ok-push.ensures.items in
    let count : length (done ++ one ∷ []) ≡ length done + 1 = length-append done (one ∷ []) in
    let last = one_more _ _ c.args.lines.now _ _ (files_of c.args.capsules.now) _ _
    c.index-lines-i.result (capsules_of f) c.loop-i.i _ _ there.room _ c.loop-i.invariant.later
    c.responses_number-number.ensures room
    (next_at c.args.lines.now c.loop-i.i c.index-lines-i.result lt c.index-lines-i.is)
    (ap files_of (next_at c.args.capsules.now c.loop-i.i f lf c.index-capsules-i.is))
    c.loop-i.invariant.so_far c.in_ok-next.ensures.read in
    record {
      ready = rw more (All-push AreRead done one c.loop-i.invariant.ready c.in_ok-next.ensures.ready);
      all = rw (more, count) (omega (arith, c.loop-i.invariant.all));
      later = earlier_again _ _ _ c.loop-i.invariant.later c.in_ok-next.ensures.later;
      so_far = rw (more, map_push) last;
    }
