use Rattle.std.proofs.Common.{◌≡◌, ℕ, ◌+◌, ◌++◌, ◌∷◌, [], length, drop, subst, arith, length-drop}
use Rattle.std.proofs.lemmas.Result.{err_from_is_err_and}
use Rattle.std.proofs.lemmas.List.{map_push, length-append, drop-drop, drop_all}
use Rattle.std.proofs.lemmas.List.Elements.{All-push}
use Rattle.response_files.specs.Responses.{IsWholeIn, StandBetween, response_in, responses_in}
use Rattle.response_files.specs.ResponseReading.{responses_of}
use Rattle.response_files.proofs.Fronting.{goes_on, ends, is_done, stand_more}
use Rattle.response_files.proofs.responses.all_records.Goals as goal

pub returns-in_err-record-clause-exact : goal.returns-in_err-record-clause-exact
returns-in_err-record-clause-exact c =
    let bytes = c.args.bytes.now in
    let len = length-drop c.loop-at.at bytes in
    let p = err_from_is_err_and c.from_residual.result c.from_residual.ensures.1 in
    rw (p.1, p.2) (ends c.in_err-record.field-0.0 (responses_in bytes c.loop-at.records.items)
    (length bytes) (length c.loop-at.records.items) c.loop-at.at (drop c.loop-at.at bytes)
    (responses_of bytes) (omega (arith, c.loop-at.invariant.few)) (omega (arith, len))
    c.in_err-record.ensures.exact c.loop-at.invariant.so_far)

pub loop-at-preserved : goal.loop-at-preserved
loop-at-preserved c =
    let bytes = c.args.bytes.now in
    let one = c.in_ok-record.record in
    let done = c.loop-at.records.items in
    let rest = length-drop c.loop-at.at bytes in
    let is = c.in_ok-record.ensures in
    let more : c.push.new.self.items ≡ done ++ one ∷ [] = c.in_ok-push.ensures.items in
    let count : length (done ++ one ∷ []) ≡ length done + 1 = length-append done (one ∷ []) in
    let at : one.data_at + one.head.len ≡ c.loop-at.at + (32 + one.head.len) =
    omega (arith, is.place) in
    let now = goes_on (responses_in bytes done) (length bytes) (length done) c.loop-at.at
    (drop c.loop-at.at bytes) (response_in bytes one) (responses_of bytes)
    (omega (arith, c.loop-at.invariant.few)) (omega (arith, rest)) is.exact
    c.loop-at.invariant.so_far in
    record {
      inside = is.whole;
      few = rw (more, count) (omega (arith, c.loop-at.invariant.few, at));
      so_far = rw (more, count, at, map_push, ← drop-drop) now;
      whole = rw more (All-push (IsWholeIn bytes) done one c.loop-at.invariant.whole is.whole);
      places = rw more (stand_more 0 c.loop-at.at done one c.loop-at.invariant.places is.place);
    }

pub returns-clause-places : goal.returns-clause-places
returns-clause-places c =
    let all : c.loop-at.at ≡ length c.args.bytes.now = omega (
      arith,
      c.loop-at-test.false,
      c.loop-at.invariant.inside,
    ) in
    subst (λ (n : ℕ). StandBetween 0 n c.loop-at.records.items) all c.loop-at.invariant.places

pub returns-clause-exact : goal.returns-clause-exact
returns-clause-exact c =
    is_done _ _ _ _ _ (drop_all c.loop-at.at c.args.bytes.now c.loop-at-test.false)
    c.loop-at.invariant.so_far
