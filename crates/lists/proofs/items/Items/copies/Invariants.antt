use Rattle.std.proofs.Common.{◌≡◌, replicate}
use Rattle.lists.proofs.items.Items.copies.Given as goal

abbrev pub invariant-loop-k : goal.invariant-loop-k
invariant-loop-k g l = l.all ≡ replicate l._k l.value
