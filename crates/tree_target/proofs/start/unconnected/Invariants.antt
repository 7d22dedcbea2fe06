use Rattle.std.proofs.Common.{◌≡◌, map, take}
use Rattle.tree_target.specs.Loads.{code_unconnected}
use Rattle.tree_target.proofs.start.unconnected.Given as goal

abbrev pub invariant-loop-port : goal.invariant-loop-port
invariant-loop-port l = l.bindings.items ≡ map code_unconnected (take l.port-index l.ports)
