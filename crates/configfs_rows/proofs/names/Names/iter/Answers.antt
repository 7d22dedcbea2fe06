use Rattle.std.specs.Cmp.Lexicographic.{nat_list_cmp_total}
use Rattle.configfs_rows.proofs.Seen.{seen_keys}
use Rattle.configfs_rows.proofs.names.Names.iter.Goals as goal

pub returns : goal.returns
returns c = rw (
  ← c.self.view_is,
  seen_keys nat_list_cmp_total c.self.inside.names
      c.keys.ensures.ordered,
) c.keys.ensures.rest
