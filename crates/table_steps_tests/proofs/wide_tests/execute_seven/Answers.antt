use Rattle.table_steps_tests.proofs.WideTarget.{among_three}
use Rattle.table_steps_tests.proofs.wide_tests.execute_seven.Goals as goal

-- src/wide_tests.rt:198:5
pub execute-requires-clause-touches : goal.execute-requires-clause-touches
execute-requires-clause-touches g c = λ n inside touches. among_three n touches
