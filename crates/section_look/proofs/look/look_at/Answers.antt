use Rattle.section_look.proofs.AsTrees.{as_tree}
use Rattle.section_look.specs.Read.{section_words, section_serial}
use Rattle.section_look.proofs.look.look_at.Goals as goal

pub returns-clause-tree : goal.returns-clause-tree
returns-clause-tree g c = as_tree (section_words g.M.Means.means c.args.seat.now.base.me.0) (section_serial c.args.seat.now.base.me.0)
