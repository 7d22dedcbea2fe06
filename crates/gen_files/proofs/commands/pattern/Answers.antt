use Rattle.gen_files.proofs.Lists.{more_pattern}
use Rattle.gen_files.proofs.commands.pattern.Goals as goal

pub loop-j-preserved : goal.loop-j-preserved
loop-j-preserved c = more_pattern c.args.k c.loop-j.j _ _ c.loop-j.invariant
    c.in_ok-push.ensures.items
