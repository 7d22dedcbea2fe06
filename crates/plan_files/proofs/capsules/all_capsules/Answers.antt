use Rattle.std.proofs.Common.{◌≡◌, ℕ, ◌+◌, ◌++◌, ◌∷◌, [], length, drop, subst, sym, arith, length-drop}
use Rattle.std.proofs.lemmas.Result.{err_from_is_err_and}
use Rattle.std.proofs.lemmas.List.{map_push, length-append, drop-drop, drop_all}
use Rattle.std.proofs.lemmas.List.Elements.{All-push}
use Rattle.sqe_cqe.specs.Sqe.{payload_len}
use Rattle.plan_files.specs.Capsules.{IsWholeIn, StandBetween, capsule_in, capsules_in}
use Rattle.plan_files.specs.CapsuleReading.{capsules_of}
use Rattle.plan_files.proofs.CapsuleLoop.{goes_on, ends, is_full, is_done, stand_more, room_more}
use Rattle.plan_files.proofs.capsules.all_capsules.Goals as goal

pub returns-then-len-ge-MAX_CAPSULES-clause-exact :
    goal.returns-then-len-ge-MAX_CAPSULES-clause-exact
returns-then-len-ge-MAX_CAPSULES-clause-exact c =
    let bytes = c.args.bytes.now in
    let len = length-drop c.loop-at.at bytes in
    rw c.too_long.ensures (is_full (capsules_in bytes c.loop-at.capsules.items) _ _ _ _ _
    (omega arith) (omega (arith, len)) c.loop-at.invariant.so_far)

pub returns-in_err-next-clause-exact : goal.returns-in_err-next-clause-exact
returns-in_err-next-clause-exact c =
    let bytes = c.args.bytes.now in
    let len = length-drop c.loop-at.at bytes in
    let p = err_from_is_err_and c.from_residual.result c.from_residual.ensures.1 in
    rw (p.1, p.2) (ends c.in_err-next.field-0.0 (capsules_in bytes c.loop-at.capsules.items)
    65536 (length c.loop-at.capsules.items) c.loop-at.at c.loop-at.room
    (drop c.loop-at.at bytes) (capsules_of bytes) (omega arith) (omega (arith, len))
    c.in_err-next.ensures.exact c.loop-at.invariant.so_far)

pub loop-at-preserved : goal.loop-at-preserved
loop-at-preserved c =
    let bytes = c.args.bytes.now in
    let one = c.in_ok-next.next.capsule in
    let done = c.loop-at.capsules.items in
    let rest = length-drop c.loop-at.at bytes in
    let is = c.in_ok-next.ensures in
    let more : c.push.new.self.items ≡ done ++ one ∷ [] = c.in_ok-push.ensures.items in
    let count : length (done ++ one ∷ []) ≡ length done + 1 = length-append done (one ∷ []) in
    let at : one.data_at + one.data_len ≡ c.loop-at.at + (64 + payload_len one.sqe) =
    omega (arith, is.place, is.whole.len) in
    let now = goes_on (capsules_in bytes done) 65536 (length done) c.loop-at.at c.loop-at.room
    (drop c.loop-at.at bytes) (capsule_in bytes one) (capsules_of bytes) (omega arith)
    (omega (arith, rest)) is.exact c.loop-at.invariant.so_far in
    record {
      inside = is.whole.within;
      few = rw (more, count) (omega arith);
      small = is.roomy;
      sized = rw (more, is.room, c.loop-at.invariant.sized)
          (sym (room_more done one));
      so_far = rw (more, count, is.room, at, map_push, ← drop-drop) now;
      whole = rw more (All-push (IsWholeIn bytes) done one c.loop-at.invariant.whole is.whole);
      places = rw more (stand_more 0 c.loop-at.at done one c.loop-at.invariant.places is.place);
    }

pub returns-clause-places : goal.returns-clause-places
returns-clause-places c =
    let all : c.loop-at.at ≡ length c.args.bytes.now = omega (
      arith,
      c.loop-at-test.false,
      c.loop-at.invariant.inside,
    ) in
    subst (λ (n : ℕ). StandBetween 0 n c.loop-at.capsules.items) all c.loop-at.invariant.places

pub returns-clause-exact : goal.returns-clause-exact
returns-clause-exact c =
    is_done _ _ _ _ _ _ (drop_all c.loop-at.at c.args.bytes.now c.loop-at-test.false)
    c.loop-at.invariant.so_far
