use Rattle.sqe_cqe.proofs.Connects.{data-again}
use Rattle.sqe_cqe.proofs.law.connect_data_again.Goals as goal

pub returns : goal.returns
returns c = data-again
