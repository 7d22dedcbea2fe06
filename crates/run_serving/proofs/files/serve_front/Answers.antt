use Rattle.std.proofs.Common.{◌≡◌, ◌<◌, ◌∙◌, ap, sym, length, arith}
use Rattle.plan_files.specs.declared.capsules.Capsule as code
use Rattle.run_serving.proofs.Filing.{opcode-get, room_after, serves_more, from_nothing, to_front}
use Rattle.run_serving.proofs.Spaces.{head_room}
use Rattle.plan_files.specs.Rooms.{capsule_room}
use Rattle.run_serving.specs.Goes.{HasTaken}
use Rattle.run_serving.specs.Readiness.{front_of}
use Rattle.run_serving.proofs.files.serve_front.Goals as goal

pub control_one-requires-clause-opcode : goal.control_one-requires-clause-opcode
control_one-requires-clause-opcode c =
    let d = c.index-capsule.result.now in
    let cs = c.args.file.now.capsules.items in
    ap (λ (x : code.Capsule). x.sqe.opcode) c.index-capsule.ensures
    ∙ sym (opcode-get cs c.loop-number.number d (omega (
      arith,
      c.loop-number-test.true,
      c.front_len-front.ensures.within,
      c.deref.ensures.len,
    )))
    ∙ rw c.deref.ensures.value at (c.front_len-front.ensures.fabrics c.loop-number.number
    c.loop-number-test.true)

pub loop-number-preserved : goal.loop-number-preserved
loop-number-preserved c =
    let f = c.args.file.now in
    let d = c.index-capsule.result.now in
    let n = c.loop-number.number in
    let lt : n < length f.capsules.items = omega (
      arith,
      c.loop-number-test.true,
      c.front_len-front.ensures.within,
      c.deref.ensures.len,
    ) in
    let before = c.loop-number.invariant in
    record {
      idle = c.control_one.ensures.idle;
      queues = c.control_one.ensures.queues ∙ before.queues;
      ready = room_after f n _ _ d lt before.ready (omega (arith, c.control_one.ensures.calls))
          (omega (
            arith,
            c.control_one.ensures.len,
            ap (λ (x : code.Capsule). capsule_room x.sqe) c.index-capsule.ensures,
            head_room d.sqe,
          )) c.control_one.ensures.room;
      makes = serves_more c.args.queue f.bytes.items f.capsules.items n d _ (HasTaken 0) _ _ _ _ _ _
          _ _ _ _ lt c.index-capsule.ensures
          (rw c.deref-in-loop-number.ensures.value at c.payload_of-payload.ensures.value)
          (omega arith) before.makes c.control_one.ensures.serves;
    }

pub returns-clause-serves : goal.returns-clause-serves
returns-clause-serves c =
    let f = c.args.file.now in
    let front : c.front_len-front.result ≡ front_of f =
    rw c.deref.ensures.value at (c.front_len-front.ensures.value f.bytes.items) in
    let same : c.loop-number.number ≡ c.front_len-front.result = omega (
      arith,
      c.loop-number-test.false,
      c.loop-number.auto.number-end,
    ) in
    let all = from_nothing _ _ _ _ _ _ _ _ _ (to_front _ _ c.loop-number.number (HasTaken 0) _ _ _ _ _ _ (same ∙ front)
    c.loop-number.invariant.makes) in
    rw same at all
