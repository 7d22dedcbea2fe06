use Rattle.std.proofs.Common.{arith, ◌∙◌, refl}
use Rattle.mem_bdev.proofs.Disks.{blocks_in_bytes, zero_after}
use Rattle.mem_bdev.proofs.disk.Disk.zero.Goals as goal

pub overflow_mul-start : goal.overflow_mul-start
overflow_mul-start c =
    let h = blocks_in_bytes c.self.inside _ _ _ c.self.view_is c.self.invariant c.requires in omega (arith, c.self.inside.bytes.ok, c.self.inside.bytes.small)

pub overflow_mul-len : goal.overflow_mul-len
overflow_mul-len c =
    let h = blocks_in_bytes c.self.inside _ _ _ c.self.view_is c.self.invariant c.requires in omega (arith, c.self.inside.bytes.ok, c.self.inside.bytes.small)

pub zero_at-requires : goal.zero_at-requires
zero_at-requires c =
    rw c.deref_mut.ensures.value (blocks_in_bytes c.self.inside _ _ _ c.self.view_is c.self.invariant c.requires)

pub returns : goal.returns
returns c =
    zero_after c.self.inside _ _ _ _ c.self.view_is c.self.invariant c.requires (rw c.deref_mut.ensures.value at c.zero_at.ensures) (c.zero_at.auto.bytes ∙ rw c.deref_mut.ensures.value refl)
