use Rattle.std.proofs.Common.{◌≡◌, ℕ, ◌+◌, ◌*◌, ◌<◌, List, Some, None, length, get_or, subst, arith}
use Rattle.ref_state.specs.declared.kinds.Tag.{Tag}
use Rattle.ref_state.specs.declared.state.Hold.{Hold}
use Rattle.ref_state.specs.Steps.{first, is_slot, Some_where}
use Rattle.table_rule.specs.Meant.{is_named, target, Legal}
use Rattle.table_rule.specs.Plays.{IsInHand}
use Rattle.table_rule.specs.Counted.{Counted}
use Rattle.extent_executes.specs.Executes.{TookOut, Stopped, Ran, LastTried}
use Rattle.extent_executes.proofs.Executing as executing
use Rattle.extent_executes.proofs.executes.+run_from.Goals as goal

pub place_execute-requires-clause-turns : goal.place_execute-requires-clause-turns
place_execute-requires-clause-turns g t c = λ n near on. let x = c.requires.touches n near on in let e = c.if-i-slots.true in
    subst (λ k. Some_where (is_slot k) c.args.seat.now.base.me.0.view.turns × IsInHand k c.args.seat.now.base.me.1) x.2 (c.requires.reached.held x.0 (let h = x.1 in omega arith))

pub returns-then-i-slots-clause-ran : goal.returns-then-i-slots-clause-ran
returns-then-i-slots-clause-ran g t c = let e = c.place_execute.ensures.executed in
    (e.0, executing.ran_last g.M.Means.means c.args.call c.args.hold c.args.seat.now.base.me c.place_execute.new.seat.base.me c.place_execute.result e.0 e.1 c.place_execute.ensures.own.1)

pub put_back-requires-clause-empty : goal.put_back-requires-clause-empty
put_back-requires-clause-empty g t c = let o : TookOut g.M.Means.means (get_or c.args.slots.now c.args.i 0) c.in_ok-value.value c.args.seat.now.base.me c.take_out.new.seat.base.me = rw c.in_ok-value.was at c.take_out.ensures.took in
    let r : (serial : ℕ) × Ran g.M.Means.means c.args.call c.args.hold c.take_out.new.seat.base.me c.run_from.new.seat.base.me c.in-Some.place serial = rw c.in-Some.is at c.run_from.ensures.ran in
    executing.ran_empty g.M.Means.means (get_or c.args.slots.now c.args.i 0) c.in_ok-value.value c.args.seat.now.base.me c.take_out.new.seat.base.me c.run_from.new.seat.base.me o c.args.call c.args.hold c.in-Some.place r.0 r.1

pub put_back-requires-clause-turn : goal.put_back-requires-clause-turn
put_back-requires-clause-turn g t c = let o : TookOut g.M.Means.means (get_or c.args.slots.now c.args.i 0) c.in_ok-value.value c.args.seat.now.base.me c.take_out.new.seat.base.me = rw c.in_ok-value.was at c.take_out.ensures.took in
    let r : (serial : ℕ) × Ran g.M.Means.means c.args.call c.args.hold c.take_out.new.seat.base.me c.run_from.new.seat.base.me c.in-Some.place serial = rw c.in-Some.is at c.run_from.ensures.ran in
    executing.ran_turn g.M.Means.means (get_or c.args.slots.now c.args.i 0) c.in_ok-value.value c.args.seat.now.base.me c.take_out.new.seat.base.me c.run_from.new.seat.base.me o c.args.call c.args.hold c.in-Some.place r.0 r.1

pub put_back-requires-clause-stands : goal.put_back-requires-clause-stands
put_back-requires-clause-stands g t c = let o : TookOut g.M.Means.means (get_or c.args.slots.now c.args.i 0) c.in_ok-value.value c.args.seat.now.base.me c.take_out.new.seat.base.me = rw c.in_ok-value.was at c.take_out.ensures.took in
    let r : (serial : ℕ) × Ran g.M.Means.means c.args.call c.args.hold c.take_out.new.seat.base.me c.run_from.new.seat.base.me c.in-Some.place serial = rw c.in-Some.is at c.run_from.ensures.ran in
    let m = g.M.Means.means in
    executing.ran_stands g.M.Means.means (get_or c.args.slots.now c.args.i 0) c.in_ok-value.value c.args.seat.now.base.me c.take_out.new.seat.base.me c.run_from.new.seat.base.me o c.args.call c.args.hold c.in-Some.place r.0 r.1 c.apply-value.result
    (subst (λ (z : Tag × Hold). (log : List Tag) → Legal m log → m.stands c.in_ok-value.value (get_or c.args.slots.now c.args.i 0) (target m log) → first (λ (y : Tag × ℕ). is_named z.0 y.0) (m.commands (target m log)) ≡ Some (z.1.call, z.1.disk) → m.stands c.apply-value.result (get_or c.args.slots.now c.args.i 0) (m.next (target m log) z.0))
    (λ i. (c.requires.work.0 i, c.requires.work.1 i)) c.apply-value.ensures)

pub returns-in-Some-clause-ran : goal.returns-in-Some-clause-ran
returns-in-Some-clause-ran g t c = let o : TookOut g.M.Means.means (get_or c.args.slots.now c.args.i 0) c.in_ok-value.value c.args.seat.now.base.me c.take_out.new.seat.base.me = rw c.in_ok-value.was at c.take_out.ensures.took in
    let r : (serial : ℕ) × Ran g.M.Means.means c.args.call c.args.hold c.take_out.new.seat.base.me c.run_from.new.seat.base.me c.in-Some.place serial = rw c.in-Some.is at c.run_from.ensures.ran in
    (r.0, executing.ran_next g.M.Means.means (get_or c.args.slots.now c.args.i 0) c.in_ok-value.value c.args.seat.now.base.me c.take_out.new.seat.base.me c.run_from.new.seat.base.me o c.args.call c.args.hold c.in-Some.place r.0 r.1 c.put_back.new.seat.base.me c.put_back.ensures.view)

pub put_back-requires-in-None-clause-empty : goal.put_back-requires-in-None-clause-empty
put_back-requires-in-None-clause-empty g t c = let o : TookOut g.M.Means.means (get_or c.args.slots.now c.args.i 0) c.in_ok-value.value c.args.seat.now.base.me c.take_out.new.seat.base.me = rw c.in_ok-value.was at c.take_out.ensures.took in
    let s : Stopped g.M.Means.means c.args.slots.now c.take_out.new.seat.base.me c.run_from.new.seat.base.me = rw c.in-None.is at c.run_from.ensures.stopped in
    executing.stop_empty g.M.Means.means (get_or c.args.slots.now c.args.i 0) c.in_ok-value.value c.args.seat.now.base.me c.take_out.new.seat.base.me c.run_from.new.seat.base.me o c.args.slots.now s

pub put_back-requires-in-None-clause-turn : goal.put_back-requires-in-None-clause-turn
put_back-requires-in-None-clause-turn g t c = let o : TookOut g.M.Means.means (get_or c.args.slots.now c.args.i 0) c.in_ok-value.value c.args.seat.now.base.me c.take_out.new.seat.base.me = rw c.in_ok-value.was at c.take_out.ensures.took in
    let s : Stopped g.M.Means.means c.args.slots.now c.take_out.new.seat.base.me c.run_from.new.seat.base.me = rw c.in-None.is at c.run_from.ensures.stopped in
    executing.stop_turn g.M.Means.means (get_or c.args.slots.now c.args.i 0) c.in_ok-value.value c.args.seat.now.base.me c.take_out.new.seat.base.me c.run_from.new.seat.base.me o c.args.slots.now s

pub put_back-requires-in-None-clause-stands : goal.put_back-requires-in-None-clause-stands
put_back-requires-in-None-clause-stands g t c = let o : TookOut g.M.Means.means (get_or c.args.slots.now c.args.i 0) c.in_ok-value.value c.args.seat.now.base.me c.take_out.new.seat.base.me = rw c.in_ok-value.was at c.take_out.ensures.took in
    let s : Stopped g.M.Means.means c.args.slots.now c.take_out.new.seat.base.me c.run_from.new.seat.base.me = rw c.in-None.is at c.run_from.ensures.stopped in
    executing.stop_stands g.M.Means.means (get_or c.args.slots.now c.args.i 0) c.in_ok-value.value c.args.seat.now.base.me c.take_out.new.seat.base.me c.run_from.new.seat.base.me o c.args.slots.now s

pub returns-in-None-clause-stopped : goal.returns-in-None-clause-stopped
returns-in-None-clause-stopped g t c = let o : TookOut g.M.Means.means (get_or c.args.slots.now c.args.i 0) c.in_ok-value.value c.args.seat.now.base.me c.take_out.new.seat.base.me = rw c.in_ok-value.was at c.take_out.ensures.took in
    let s : Stopped g.M.Means.means c.args.slots.now c.take_out.new.seat.base.me c.run_from.new.seat.base.me = rw c.in-None.is at c.run_from.ensures.stopped in
    executing.stopped_next g.M.Means.means (get_or c.args.slots.now c.args.i 0) c.in_ok-value.value c.args.seat.now.base.me c.take_out.new.seat.base.me c.run_from.new.seat.base.me o c.args.slots.now s c.put_back-in-None.new.seat.base.me c.put_back-in-None.ensures.view

pub returns-in_err-value-clause-tried : goal.returns-in_err-value-clause-tried
returns-in_err-value-clause-tried g t c = let i = c.args.i in let slots = c.args.slots.now in
    let e : LastTried (get_or slots i 0) c.take_out.new.seat.base.me × (c.take_out.new.steps ≡ record c.args.steps.now { turn = c.args.steps.now.turn + 1 }) = rw c.in_err-value.was at c.take_out.ensures.tried in
    executing.none_or c.from_residual.result (0, (let h = c.requires.inside in let ne = c.if-i-slots.false in omega arith), subst (λ k. LastTried (get_or slots k 0) c.take_out.new.seat.base.me) (let same : i ≡ 0 + i = omega arith in same) e.0, e.1)

pub returns-in-None-clause-tried : goal.returns-in-None-clause-tried
returns-in-None-clause-tried g t c = let i = c.args.i in let slots = c.args.slots.now in
    let e : c.take_out.new.steps ≡ record c.args.steps.now { turn = c.args.steps.now.turn + 2 } = rw c.in_ok-value.was at c.take_out.ensures.ticks in
    let r : (n : ℕ) × (n + (i + 1) < length slots) × LastTried (get_or slots (n + (i + 1)) 0) c.run_from.new.seat.base.me × (c.run_from.new.steps ≡ record c.take_out.new.steps { turn = c.take_out.new.steps.turn + (4 * n + 1) }) = rw c.in-None.is at c.run_from.ensures.tried in (
      r.0 + 1,
      (let h = r.1 in omega arith),
      executing.tried_next slots r.0 i (get_or slots i 0) c.run_from.new.seat.base.me c.put_back-in-None.new.seat.base.me c.put_back-in-None.ensures.view r.2,
      executing.more_ticks r.0 c.args.steps.now c.take_out.new.steps c.run_from.new.steps c.put_back-in-None.new.steps e r.3 c.put_back-in-None.ensures.ticks,
    )
