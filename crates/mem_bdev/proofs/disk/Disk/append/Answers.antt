use Rattle.std.proofs.Common.{ℕ, List, ap, arith, ◌∙◌}
use Rattle.mem_bdev.proofs.Disks.{blocks_in_bytes, range_gives}
use Rattle.mem_bdev.specs.Texts.{appended}
use Rattle.mem_bdev.proofs.disk.Disk.append.Goals as goal

pub overflow_mul-start : goal.overflow_mul-start
overflow_mul-start c =
    let h = blocks_in_bytes c.self.inside _ _ _ c.self.view_is c.self.invariant c.requires.inside in
    omega (arith, c.self.inside.bytes.ok, c.self.inside.bytes.small)

pub overflow_mul-len : goal.overflow_mul-len
overflow_mul-len c =
    let h = blocks_in_bytes c.self.inside _ _ _ c.self.view_is c.self.invariant c.requires.inside in
    omega (arith, c.self.inside.bytes.ok, c.self.inside.bytes.small)

pub piece-requires : goal.piece-requires
piece-requires c =
    rw c.deref.ensures.value (blocks_in_bytes c.self.inside _ _ _ c.self.view_is c.self.invariant c.requires.inside)

pub returns-clause-value : goal.returns-clause-value
returns-clause-value c =
    c.put.ensures ∙ ap (λ (bytes : List ℕ). appended c.args.to.now bytes) (c.piece.ensures.value ∙ rw c.deref.ensures.value (range_gives c.self.inside _ _ _ c.self.view_is c.self.invariant c.requires.inside))
