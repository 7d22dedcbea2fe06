use Rattle.table_steps_tests.proofs.WideTarget as wide
use Rattle.table_steps_tests.proofs.wide_tests.SevenWorkU64WideMeaning.apply.Goals as goal

pub returns-then-slot-lt3 : goal.returns-then-slot-lt3
returns-then-slot-lt3 c = wide.writes_all c.args.slot c.args.value c.if-slot-lt3.true
