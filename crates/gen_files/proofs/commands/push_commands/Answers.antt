use Rattle.std.proofs.Common.{◌≡◌, ◌*◌, ◌+◌, ◌-◌, ap, ◌∙◌}
use Rattle.gen_files.specs.Commands.{draws, next_draw}
use Rattle.gen_files.proofs.Lists.{more_commands, draws_more, draws_next}
use Rattle.gen_files.proofs.commands.push_commands.Goals as goal

pub loop-k-preserved : goal.loop-k-preserved
loop-k-preserved c =
    let from = (c.args.qid - 1) * (4 * c.args.rounds) in
    let drawn : c.next_draw-drawn.result ≡ draws c.args.rounds (from + c.loop-k.k + 1) =
    c.next_draw-drawn.ensures.value ∙ ap next_draw c.loop-k.invariant.1
    ∙ draws_more c.args.rounds (from + c.loop-k.k) in (
      more_commands c.args.rounds c.args.qid c.loop-k.k c.next_draw-drawn.result _ _ _
          c.loop-k.invariant.0 c.in_ok-push_command.ensures drawn,
      drawn ∙ draws_next c.args.rounds from c.loop-k.k,
      c.next_draw-drawn.ensures.small,
    )
