use Rattle.std.proofs.Common.{◌≡◌, ◌<◌, ◌∙◌, Bool, List, ℕ, Some, not, true, false, length, ap, sym, arith}
use Rattle.std.specs.List.{slice_get}
use Rattle.std.specs.Str.{bytes_eq}
use Rattle.configfs_rows.specs.declared.disks.DiskRow.{DiskRow}
use Rattle.json_round_trip.proofs.Accepted.{paths_differ, paths_so_far}
use Rattle.json_round_trip.proofs.reload.has_disks_of.Goals as goal

negated : (b : Bool) → not b ≡ true → b ≡ false
negated true e = sym e
negated false e = cc

affirmed : (b : Bool) → not b ≡ false → b ≡ true
affirmed true e = cc
affirmed false e = sym e

pub returns-then-ne : goal.returns-then-ne
returns-then-ne c =
    let lt : c.loop-i.i < length c.args.lines.now = omega arith in
    let got : Some c.in-Some.row.now ≡ slice_get c.args.t.now.disks c.loop-i.i =
    c.in-Some.ensures ∙ ap (λ (rows : List DiskRow). slice_get rows c.loop-i.i)
    c.disks-disks.ensures in
    let texts : bytes_eq c.as_bytes.result.now c.as_bytes-in-loop-i.result.now
    ≡ bytes_eq c.in-Some.row.now.path c.index-lines-i.result.path =
    ap (λ (x : List ℕ). bytes_eq x c.as_bytes-in-loop-i.result.now) c.as_bytes.ensures
    ∙ ap (bytes_eq c.in-Some.row.now.path) c.as_bytes-in-loop-i.ensures in (
      λ never. absurd cc,
      λ same. absurd (paths_differ c.args.t.now.disks c.args.lines.now c.loop-i.i c.in-Some.row.now
          c.index-lines-i.result got lt c.index-lines-i.is
          (sym texts ∙ negated _ (sym c.if-ne.ensures)) (same)),
    )

pub loop-i-preserved : goal.loop-i-preserved
loop-i-preserved c =
    let lt : c.loop-i.i < length c.args.lines.now = omega arith in
    let got : Some c.in-Some.row.now ≡ slice_get c.args.t.now.disks c.loop-i.i =
    c.in-Some.ensures ∙ ap (λ (rows : List DiskRow). slice_get rows c.loop-i.i)
    c.disks-disks.ensures in
    let texts : bytes_eq c.as_bytes.result.now c.as_bytes-in-loop-i.result.now
    ≡ bytes_eq c.in-Some.row.now.path c.index-lines-i.result.path =
    ap (λ (x : List ℕ). bytes_eq x c.as_bytes-in-loop-i.result.now) c.as_bytes.ensures
    ∙ ap (bytes_eq c.in-Some.row.now.path) c.as_bytes-in-loop-i.ensures in
    paths_so_far c.args.t.now.disks c.args.lines.now c.loop-i.i c.in-Some.row.now
    c.index-lines-i.result got lt c.index-lines-i.is
    (sym texts ∙ affirmed _ (sym c.if-ne.ensures)) c.loop-i.invariant
