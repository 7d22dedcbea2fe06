use Rattle.std.proofs.Common.{◌≡◌}
use Rattle.ns_table.specs.Positions.{place_at}
use Rattle.ns_table.specs.Words.{each_below, opened_shape, word_for}
use Rattle.ns_table.proofs.opening.opened_words.Given as goal

abbrev pub invariant-loop-at : goal.invariant-loop-at
invariant-loop-at l = l.words.items ≡ each_below (λ w. word_for (opened_shape l.tree l.controllers l.disks) (place_at w)) l.at
