use Rattle.run_check.proofs.journal_file.read_journal_file.Goals as goal

pub returns-in-Err-clause-refused : goal.returns-in-Err-clause-refused
returns-in-Err-clause-refused g c = rw c.in-Some.is c.in-Err.ensures.refused
