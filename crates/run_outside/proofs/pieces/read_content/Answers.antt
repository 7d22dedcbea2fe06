use Rattle.std.proofs.Common.{arith, rules}
use Rattle.std.proofs.lemmas.List.{length-drop}
use Rattle.run_outside.proofs.Reading.{front_on}
use Rattle.run_outside.proofs.Piecing.{gives_all, gives_more, consumes_on}
use Rattle.run_outside.proofs.pieces.read_content.Goals as goal

pub returns-in-Some-Ok-eq0 : goal.returns-in-Some-Ok-eq0
returns-in-Some-Ok-eq0 g c =
    let read = rw c.in-Some-Ok-eq0.field-0-is at c.in-Some-Ok-eq0.ensures.bytes in
    rw c.truncate-in-Some-Ok-eq0.ensures.items
    (gives_all _ _ _ c.args.limit c.loop-filled.filled c.args.into.now.items
    c.loop-filled.into.items c.read_piece.new.into.items
    c.loop-filled.invariant.start (omega arith) (omega arith) c.loop-filled.invariant.front
    c.in-Some-Ok-eq0.ensures.front
    c.loop-filled.invariant.consumed
    (rw c.in-Some-Ok-eq0.field-0-0-test at read.0)
    (read.1 c.in-Some-Ok-eq0.field-0-0-test
    (omega (
      arith,
      length-drop c.loop-filled.filled c.read_piece.new.into.items,
      c.in-Some-Ok-eq0.ensures.full,
    ))))

pub loop-filled-preserved : goal.loop-filled-preserved
loop-filled-preserved g c =
    let read = rw c.in-Some-Ok.field-0-is at c.in-Some-Ok.ensures.bytes in
    record {
      front = front_on _ c.loop-filled.filled _ c.loop-filled.into.items _
          c.loop-filled.invariant.start c.loop-filled.invariant.front c.in-Some-Ok.ensures.front;
      start = omega arith;
      filled = search rules;
      room = search rules;
      few = search rules;
      consumed = consumes_on _ _ _ _ c.loop-filled.filled c.in-Some-Ok.count
          c.loop-filled.into.items c.read_piece.new.into.items
          c.loop-filled.invariant.start (omega arith) c.in-Some-Ok.ensures.front
          c.loop-filled.invariant.consumed read.0;
    }

pub returns : goal.returns
returns g c =
    gives_more _ _ c.args.limit c.loop-filled.filled c.args.into.now.items c.loop-filled.into.items
    c.loop-filled.invariant.front
    (omega arith) (omega arith) c.loop-filled.invariant.consumed
