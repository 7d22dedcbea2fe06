use Rattle.std.proofs.Common.{length}
use Rattle.link_rules.proofs.words.+attr_among.Given as goal

abbrev pub decreases-attr_among : goal.decreases-attr_among
decreases-attr_among l = length l.attrs.now
