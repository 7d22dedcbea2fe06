use Rattle.std.specs.Prelude.{◌++◌}
use Rattle.std.specs.Fmt.{decimal}
use Rattle.run_outcomes.proofs.Puts.{takes_front, takes_both}
use Rattle.run_check.proofs.report.put_number.Goals as goal

pub returns-in-Ok-clause-content : goal.returns-in-Ok-clause-content
returns-in-Ok-clause-content g c = takes_both _ _ _ c.args.before.now (decimal c.args.number
    ++ c.args.after.now) _ c.in-Ok.ensures.content (rw (
      c.as_bytes-number.ensures.value,
      c.format.ensures.text,
    ) at c.put_pair.ensures.content)

pub returns-in-Err-clause-content : goal.returns-in-Err-clause-content
returns-in-Err-clause-content g c = takes_front _ _ c.args.before.now (decimal c.args.number
    ++ c.args.after.now) _ c.in-Err.ensures.content
