use Rattle.std.proofs.lemmas.List.{take_rest}
use Rattle.link_rules.proofs.Parts.{split_first, split_last}
use Rattle.link_rules.proofs.paths.cut_part.Goals as goal

pub returns-in-Some : goal.returns-in-Some
returns-in-Some c = let is = c.in-Some.ensures in rw take_rest
    (split_first c.in-Some.end c.args.path.now is.2 is.0 is.1)

pub returns-in-None : goal.returns-in-None
returns-in-None c = split_last c.args.path.now c.in-None.ensures
