use Rattle.ns_table.proofs.Whole.{patch_whole}
use Rattle.ns_table.proofs.law.patches_are_whole.Goals as goal

pub returns : goal.returns
returns c = patch_whole
