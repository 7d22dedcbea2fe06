use Rattle.std.proofs.Common.{length}
use Rattle.configfs_tree.proofs.configuration.+paths_differ.Given as goal

abbrev pub decreases-paths_differ : goal.decreases-paths_differ
decreases-paths_differ l = length l.lines.now
