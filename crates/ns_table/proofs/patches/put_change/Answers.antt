use Rattle.std.proofs.Common.{ℕ, ap, ◌∙◌}
use Rattle.ns_table.specs.Kept.{stamps_by}
use Rattle.ns_table.specs.Changed.{shape_before, stamps_after}
use Rattle.ns_table.specs.Patches.{words_at, told_places}
use Rattle.ns_table.proofs.PatchParts.{patch-is}
use Rattle.ns_table.proofs.Noted.{patched-as-noted}
use Rattle.ns_table.proofs.patches.put_change.Goals as goal

pub returns-clause-words : goal.returns-clause-words
returns-clause-words c = λ old.
    let serial = c.serial-serial.result in
    patch-is c.args.tree.now c.args.controllers.now c.args.disks.now c.args.change.now old serial c.put_touched.new.p c.put_turned.new.p c.put_port.new.p c.put_subsystem.new.p
    c.put_touched.ensures.value (c.put_turned.ensures.value c.args.controllers.now c.args.disks.now) (c.put_port.ensures.value c.args.controllers.now c.args.disks.now) (c.put_subsystem.ensures.value c.args.controllers.now c.args.disks.now)
    ∙ ap (λ (k : ℕ). words_at (shape_before c.args.tree.now c.args.controllers.now c.args.disks.now (stamps_after k c.args.change.now old)) (told_places c.args.tree.now c.args.change.now)) c.serial-serial.ensures

pub returns-clause-noted : goal.returns-clause-noted
returns-clause-noted c = λ old places is.
    patched-as-noted c.args.tree.now c.args.controllers.now c.args.disks.now c.args.change.now old c.args.stamps.now c.put_subsystem.new.p places c.requires is (returns-clause-words c (stamps_by old))
