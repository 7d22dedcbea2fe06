use Rattle.std.proofs.Common.{sym}
use Rattle.ns_table.proofs.Patched.{disk-small}
use Rattle.ns_table.proofs.patches.disk_number_at.Goals as goal

pub returns-clause-small : goal.returns-clause-small
returns-clause-small c = disk-small c.args.tree.now c.args.sub c.args.nsid c.in_ok-namespace.namespace.now c.certify.ensures c.subsystem_positions.ensures (sym c.in_ok-namespace.ensures)
