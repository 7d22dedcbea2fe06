use Rattle.run_check.proofs.report.put_not_legal.Goals as goal

pub returns-clause-content : goal.returns-clause-content
returns-clause-content g c = rw c.field_end.ensures at c.put_number.ensures.content
