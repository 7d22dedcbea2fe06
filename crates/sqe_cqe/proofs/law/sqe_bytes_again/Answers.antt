use Rattle.sqe_cqe.proofs.Again.{sqe-gapless, sqe-again}
use Rattle.sqe_cqe.proofs.law.sqe_bytes_again.Goals as goal

pub returns : goal.returns
returns c = record { gapless = sqe-gapless; again = sqe-again }
