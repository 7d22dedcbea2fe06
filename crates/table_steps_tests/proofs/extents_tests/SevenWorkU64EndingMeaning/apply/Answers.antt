use Rattle.table_steps_tests.proofs.Three as three
use Rattle.table_steps_tests.proofs.extents_tests.SevenWorkU64EndingMeaning.apply.Goals as goal

pub returns-then-slot-lt2 : goal.returns-then-slot-lt2
returns-then-slot-lt2 c = three.writes c.args.slot c.args.value c.if-slot-lt2.true
