use Rattle.std.proofs.Common.{◌≡◌, ◌+◌, ◌-◌, ◌*◌, ◌^◌, length, refl, ap, ◌∙◌, arith}
use Rattle.disk_extents.specs.Extents.{Part}
use Rattle.disk_extents.proofs.OnParts.{piece-fits, held-size}
use Rattle.disk_extents.proofs.extents.Extent.piece_of.Goals as goal

pub piece_at-requires : goal.piece_at-requires
piece_at-requires c =
    let x = c.args.self.now in
    let first : c.self.inside.first ≡ x.first = ap (λ (p : Part). p.first) c.self.view_is in
    let size : c.self.inside.size ≡ 2 ^ x.held.shift =
    held-size c.self.inside.first c.self.inside.end c.self.inside.size c.self.inside.shift c.self.inside.disk x c.self.invariant (ap (λ (p : Part). p.held) c.self.view_is) in
    let whole : length c.args.payload.now ≡ c.in-Write.count * 2 ^ x.held.shift = rw c.in-Write.is at c.requires.data in
    let len : length c.args.payload.now ≡ c.in-Write.count * c.self.inside.size = whole ∙ rw (← size) refl in
    let from = c.self.inside.first + c.met-met.result.at in
    let till = from + c.met-met.result.count in
    let many : till - from ≡ c.met-met.result.count = omega arith in
    let fits = piece-fits c.in-Write.lba c.in-Write.count from till c.self.inside.size (length c.args.payload.now) (omega (arith, c.met-met.ensures.at))
    (omega (arith, c.met-met.ensures.at, c.met-met.ensures.count, c.from.ensures)) (omega (arith, c.if-met-eq0.false)) len in
    rw many at fits
