use Rattle.std.proofs.Common.{refl}
use Rattle.sqe_cqe.specs.Cqe.{cqe_bytes}
use Rattle.run_records.specs.Records.{call_bytes}
use Rattle.run_records.proofs.records.head_fields_fill.Goals as goal

pub returns : goal.returns
unfolding call_bytes cqe_bytes
returns c = λ h. (
  (refl, (refl, (refl, (refl, (refl, (refl, (refl, (refl, (refl, (refl, (refl, refl))))))))))),
  refl,
)
