use Rattle.std.proofs.Common.{◌≡◌, ◌++◌, take}
use Rattle.lists.proofs.items.Items.concat.Given as goal

abbrev pub invariant-loop-x : goal.invariant-loop-x
invariant-loop-x g l = l.all ≡ take l.x-index l.self

abbrev pub invariant-loop-y : goal.invariant-loop-y
invariant-loop-y g l = l.all ≡ l.self ++ take l.y-index l.other
