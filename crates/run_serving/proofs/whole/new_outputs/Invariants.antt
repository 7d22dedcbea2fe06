use Rattle.std.proofs.Common.{take}
use Rattle.run_serving.specs.Fresh.{AreFresh}
use Rattle.run_serving.proofs.whole.new_outputs.Given as goal

abbrev pub invariant-loop-file : goal.invariant-loop-file
invariant-loop-file l = AreFresh (take l.file-index l.files) l.outputs.items
