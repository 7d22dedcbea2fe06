use Rattle.std.proofs.Common.{◌≡◌}
use Rattle.gen_files.specs.Commands.{pattern}
use Rattle.gen_files.proofs.commands.pattern.Given as goal

abbrev pub invariant-loop-j : goal.invariant-loop-j
invariant-loop-j l = l.bytes.items ≡ pattern l.k l.j
