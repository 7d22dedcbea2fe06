use Rattle.std.proofs.Common.{◌≡◌, ◌<◌, ◌^◌}
use Rattle.gen_files.specs.Commands.{draws}
use Rattle.gen_files.proofs.commands.draw_after.Given as goal

abbrev pub invariant-loop-n : goal.invariant-loop-n
invariant-loop-n l = (l.x ≡ draws l.seed l._n) × (l.x < 2 ^ 31)
