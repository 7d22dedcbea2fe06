-- What was read of a plan, by the walk over its files.
use Rattle.std.proofs.Common.{suc, List, [], ◌∷◌, arith}
use Rattle.std.specs.Prelude.{All, IsUtf8}
use Rattle.std.specs.List.{AllByRecursion}
use Rattle.plan_files.specs.declared.items.QueueLine.{QueueLine}

-- ---- names
pub all_texts : (queues : List QueueLine)
    → All (λ (q : QueueLine). IsUtf8 q.capsules × IsUtf8 q.responses) queues
    → AllByRecursion (λ (q : QueueLine). IsUtf8 q.responses) queues
all_texts [] all = tt
all_texts (q ∷ queues) all = (
  (all 0 q (omega arith)).1,
  all_texts queues (λ k d lt. all (suc k) d (omega (arith, lt))),
)
