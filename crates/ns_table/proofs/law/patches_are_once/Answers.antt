use Rattle.ns_table.proofs.Once.{patch_once}
use Rattle.ns_table.proofs.law.patches_are_once.Goals as goal

pub returns : goal.returns
returns c = patch_once
