use Rattle.sqe_cqe.proofs.Anas.{names_again}
use Rattle.sqe_cqe.proofs.rows.ana_text_again.Goals as goal

pub returns : goal.returns
returns c = names_again c.args._value.now c.args._a
