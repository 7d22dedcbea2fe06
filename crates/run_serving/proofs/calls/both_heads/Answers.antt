use Rattle.std.proofs.Common.{refl}
use Rattle.sqe_cqe.specs.Cqe.{cqe_bytes}
use Rattle.run_records.specs.Records.{call_bytes}
use Rattle.run_serving.proofs.calls.both_heads.Goals as goal

pub returns : goal.returns
unfolding call_bytes cqe_bytes
returns c =
    rw (
      c.copy_from_slice-2.ensures.after,
      c.write_head-2.ensures,
      c.copy_from_slice.ensures.after,
      c.write_head.ensures,
    ) refl
