use Rattle.std.proofs.Common.{◌∙◌, refl}
use Rattle.disk_extents.proofs.Copies.{one-block}
use Rattle.disk_extents.proofs.extents.copy_block.Goals as goal

pub returns : goal.returns
returns c =
    let len = c.read.auto.to ∙ c.requires.size in
    c.write.ensures ∙ one-block c.args.from.now c.args.to.now c.args.lba c.args.at c.read.new.to c.requires.there len c.requires.shift (c.read.ensures ∙ rw c.read.auto.to refl)
