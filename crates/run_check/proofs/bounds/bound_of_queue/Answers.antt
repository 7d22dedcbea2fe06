use Rattle.std.proofs.Common.{◌≡◌, ◌≤◌, ◌<◌, ◌+◌, ◌&&◌, ℕ, subst, length, map, drop, ap, sym, refl, arith}
use Rattle.std.proofs.lemmas.List.{drop_all, length-map}
use Rattle.plan_files.specs.Capsules.{capsule_in}
use Rattle.response_files.specs.Responses.{response_in}
use Rattle.run_transcript.specs.Served.{is_final}
use Rattle.check_records.specs.Cursors.{capsules_of, progress_at}
use Rattle.check_records.specs.Seats.{responses_of}
use Rattle.run_check.specs.Pieces.{Adds, is_poll_kind}
use Rattle.run_check.proofs.Bounding.{no_record, record_more, no_record_left}
use Rattle.run_check.proofs.Placing.{next_at}
use Rattle.run_check.proofs.bounds.bound_of_queue.Goals as goal

pub loop-i-init : goal.loop-i-init
loop-i-init c = record {
  small = omega arith;
  so_far = no_record (length c.args.file.now.capsules.items) (capsules_of c.args.file.now)
      (responses_of c.args.responses.now) c.args.bound;
}

pub loop-i-preserved : goal.loop-i-preserved
loop-i-preserved c =
    let f = c.args.file.now in
    let bytes = c.args.responses.now.bytes.items in
    let items = c.args.responses.now.records.items in
    let i = c.loop-i.i in
    let r = c.index.result.now in
    let at = c.loop-i.cursor in
    let n = length f.capsules.items in
    let lt : i < length items = omega (arith, c.loop-i-test.true) in
    let count : c.len.result ≡ n = omega (arith, c.len.ensures, f.capsules.ok) in
    let adds : Adds (is_poll_kind r.head.kind && is_final n (progress_at at)) r.head.place c.loop-i.to c.behind_record-to.result =
    subst (λ (m : ℕ). Adds (is_poll_kind r.head.kind && is_final m (progress_at at)) r.head.place c.loop-i.to
    c.behind_record-to.result) count c.behind_record-to.ensures.adds in
    record {
      small = omega (arith, c.behind_record-to.ensures.few, c.loop-i.invariant.small);
      so_far = record_more n (capsules_of f) (responses_of c.args.responses.now) c.args.bound
          (progress_at at) (progress_at c.behind_record-to.new.cursor) c.loop-i.to
          c.behind_record-to.result (map (response_in bytes) (drop i items))
          (map (response_in bytes) (drop (i + 1) items)) (response_in bytes r)
          (is_poll_kind r.head.kind && is_final n (progress_at at))
          (ap (map (response_in bytes)) (next_at items i r lt c.index.ensures))
          refl adds
          (λ queue. c.behind_record-to.ensures.progress bytes queue (capsules_of f))
          c.loop-i.invariant.so_far;
    }

pub returns : goal.returns
returns c =
    let f = c.args.file.now in
    let bytes = c.args.responses.now.bytes.items in
    let items = c.args.responses.now.records.items in
    let i = c.loop-i.i in
    let le : length items ≤ i = omega (arith, c.loop-i-test.false) in
    no_record_left (length f.capsules.items) (capsules_of f) (responses_of c.args.responses.now)
    c.args.bound (progress_at c.loop-i.cursor) c.loop-i.to
    (map (response_in bytes) (drop i items)) (ap (map (response_in bytes)) (drop_all i items le))
    (sym (length-map f.capsules.items (capsule_in f.bytes.items))) c.loop-i.invariant.so_far
