use Rattle.std.proofs.Common.{◌∙◌}
use Rattle.ns_table.proofs.Holders.{held-shown}
use Rattle.ns_table.proofs.patches.shows_disk.Goals as goal

pub returns : goal.returns
returns c = c.is_held_shown.ensures ∙ held-shown c.args.tree.now c.args.disk c.certify.ensures
