use Rattle.run_outcomes.specs.Texts.{line_of}
use Rattle.run_outcomes.proofs.report.put_line.Goals as goal

pub returns-in-ReadFault-clause-content : goal.returns-in-ReadFault-clause-content
unfolding line_of
returns-in-ReadFault-clause-content g c = rw c.in-ReadFault.is c.put_name.ensures.content
