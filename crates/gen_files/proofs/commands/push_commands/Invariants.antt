use Rattle.std.proofs.Common.{◌≡◌, ◌<◌, ◌^◌, ◌*◌, ◌-◌, ◌+◌, ◌++◌}
use Rattle.gen_files.specs.Commands.{commands, draws}
use Rattle.gen_files.proofs.commands.push_commands.Given as goal

abbrev pub invariant-loop-k : goal.invariant-loop-k
invariant-loop-k l = (l.to.items ≡ l.fn.to.items ++ commands l.rounds l.qid l.k)
    × (l.drawn ≡ draws l.rounds ((l.qid - 1) * (4 * l.rounds) + l.k)) × (l.drawn < 2 ^ 31)
