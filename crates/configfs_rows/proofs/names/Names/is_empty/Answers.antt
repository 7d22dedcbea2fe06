use Rattle.std.proofs.Common.{ap, ◌==◌}
use Rattle.std.specs.Cmp.Lexicographic.{nat_list_cmp_total}
use Rattle.configfs_rows.proofs.Seen.{seen_len}
use Rattle.configfs_rows.proofs.names.Names.is_empty.Goals as goal

pub returns : goal.returns
returns c = rw (
  ← c.self.view_is,
  seen_len nat_list_cmp_total c.self.inside.names
      c.len.ensures.ordered,
) (ap (λ n. n == 0) c.len.ensures.len)
