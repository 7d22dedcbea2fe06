use Rattle.std.specs.Cmp.Lexicographic.{nat_list_cmp_total}
use Rattle.std.specs.FinMap.{nat_cmp-IsAntisymmetric, slice_cmp-IsAntisymmetric}
use Rattle.configfs_rows.proofs.Seen.{seen_remove}
use Rattle.configfs_rows.proofs.names.Names.remove.Goals as goal

pub returns : goal.returns
returns c = rw (← c.self.view_is) (seen_remove nat_list_cmp_total
    (slice_cmp-IsAntisymmetric nat_cmp-IsAntisymmetric) c.self.inside.names c.remove.new.self _
    c.remove.ensures.updates)
