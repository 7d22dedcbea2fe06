use Rattle.std.specs.Cmp.{nat_cmp_total}
use Rattle.std.specs.FinMap.{nat_cmp-IsAntisymmetric}
use Rattle.configfs_rows.proofs.Seen.{seen_remove}
use Rattle.configfs_rows.proofs.ports.Groups.remove.Goals as goal

pub returns : goal.returns
returns c = rw (← c.self.view_is) (seen_remove nat_cmp_total nat_cmp-IsAntisymmetric
    c.self.inside.rows c.remove.new.self _ c.remove.ensures.updates)
