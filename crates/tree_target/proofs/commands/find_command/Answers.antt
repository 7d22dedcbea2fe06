use Rattle.std.proofs.Common.{sym}
use Rattle.tree_target.specs.Model.{is_command}
use Rattle.tree_target.proofs.Taking.{none_found, read_found}
use Rattle.tree_target.proofs.commands.find_command.Goals as goal

pub returns-in-None : goal.returns-in-None
returns-in-None c = sym (none_found (is_command c.args.queue c.args.number) c.args.held.now
    (sym c.in-None.ensures))

pub returns-in-Some : goal.returns-in-Some
returns-in-Some c = read_found (is_command c.args.queue c.args.number) c.args.held.now c.in-Some.at
    _ (sym c.in-Some.ensures)
