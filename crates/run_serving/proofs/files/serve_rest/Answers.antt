use Rattle.std.proofs.Common.{◌≡◌, ◌<◌, ◌∙◌, ap, sym, refl, length, arith}
use Rattle.plan_files.specs.declared.capsules.Capsule as code
use Rattle.plan_files.specs.Rooms.{capsule_room}
use Rattle.run_serving.specs.Goes.{HasFront}
use Rattle.run_serving.proofs.Filing.{room_after, serves_more, to_end, capsules-len}
use Rattle.run_serving.proofs.files.serve_rest.Goals as goal

pub loop-number-preserved : goal.loop-number-preserved
loop-number-preserved c =
    let f = c.args.file.now in
    let d = c.index-capsule.result.now in
    let n = c.loop-number.number in
    let lt : n < length f.capsules.items = omega (
      arith,
      c.loop-number-test.true,
      c.len-number-end.ensures,
    ) in
    let before = c.loop-number.invariant in
    record {
      idle = c.serve_one-next.ensures.idle;
      queues = c.serve_one-next.ensures.queues ∙ before.queues;
      few = omega (arith, c.serve_one-next.ensures.places, before.few);
      ready = room_after f n _ _ d lt before.ready c.serve_one-next.ensures.calls
          (omega (
            arith,
            c.serve_one-next.ensures.len,
            ap (λ (x : code.Capsule). capsule_room x.sqe) c.index-capsule.ensures,
          )) c.serve_one-next.ensures.room;
      makes = serves_more c.args.queue f.bytes.items f.capsules.items n d _ HasFront _ _ _ _ _ _
          _ _ _ _ lt c.index-capsule.ensures
          (rw c.deref-in-loop-number.ensures.value at c.payload_of-payload.ensures.value)
          refl before.makes c.serve_one-next.ensures.serves;
    }

pub returns-clause-serves : goal.returns-clause-serves
returns-clause-serves c =
    let f = c.args.file.now in
    let same : c.loop-number.number ≡ length f.capsules.items = omega (
      arith,
      c.loop-number-test.false,
      c.loop-number.auto.number-end,
      c.len-number-end.ensures,
      c.front_len-front.ensures.within,
      c.deref.ensures.len,
    ) in
    to_end _ _ c.loop-number.number HasFront _ _ _ _ _ _
    (same ∙ sym (capsules-len f.bytes.items f.capsules.items)) c.loop-number.invariant.makes
