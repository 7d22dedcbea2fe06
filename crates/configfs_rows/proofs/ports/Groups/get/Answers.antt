use Rattle.std.specs.Cmp.{nat_cmp_total}
use Rattle.configfs_rows.proofs.Seen.{seen_get}
use Rattle.configfs_rows.proofs.ports.Groups.get.Goals as goal

pub returns : goal.returns
returns c = rw (← c.self.view_is, seen_get nat_cmp_total, c.copied.ensures) c.get.ensures.value
