use Rattle.std.specs.Cmp.{nat_cmp_total}
use Rattle.configfs_rows.proofs.Seen.{seen_len}
use Rattle.configfs_rows.proofs.ports.Groups.len.Goals as goal

pub returns : goal.returns
returns c = rw (← c.self.view_is, seen_len nat_cmp_total c.self.inside.rows c.len.ensures.ordered)
    c.len.ensures.len
