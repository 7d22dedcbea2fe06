use Rattle.sqe_cqe.proofs.Again.{cqe-gapless, cqe-again}
use Rattle.sqe_cqe.proofs.law.cqe_bytes_again.Goals as goal

pub returns : goal.returns
returns c = record { gapless = cqe-gapless; again = cqe-again }
