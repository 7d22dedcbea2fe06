use Rattle.std.proofs.Common.{refl}
use Rattle.sqe_cqe.specs.Sqe.{sqe_of}
use Rattle.sqe_cqe.proofs.sqe.read_sqe.Goals as goal

pub returns-clause-value : goal.returns-clause-value
unfolding sqe_of
returns-clause-value c =
    rw (
      c.byte_at.ensures,
      c.byte_at-2.ensures,
      c.half_at.ensures,
      c.word_at.ensures,
      c.word_at-2.ensures,
      c.word_at-3.ensures,
      c.long_at.ensures,
      c.long_at-2.ensures,
      c.word_at-4.ensures,
      c.byte_at-3.ensures,
      c.byte_at-4.ensures,
      c.byte_at-5.ensures,
      c.byte_at-6.ensures,
      c.word_at-5.ensures,
      c.word_at-6.ensures,
      c.word_at-7.ensures,
      c.word_at-8.ensures,
      c.word_at-9.ensures,
      c.word_at-10.ensures,
    ) refl
