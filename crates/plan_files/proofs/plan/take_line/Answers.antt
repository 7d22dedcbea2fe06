use Rattle.std.proofs.Common.{sym, ◌∙◌}
use Rattle.plan_files.proofs.Saying.{item_was}
use Rattle.plan_files.proofs.plan.take_line.Goals as goal

pub take_item-requires-clause-fits : goal.take_item-requires-clause-fits
take_item-requires-clause-fits c =
    (item_was c.args.line.now c.in-Some.item (sym c.in_ok-line_item.ensures ∙ c.in-Some.is)).1
