use Rattle.gen_files.proofs.Names.{base_is_text}
use Rattle.gen_files.proofs.seed.is_base.Goals as goal

pub returns-then-rounds-le-MAX_ROUNDS-clause-text :
    goal.returns-then-rounds-le-MAX_ROUNDS-clause-text
returns-then-rounds-le-MAX_ROUNDS-clause-text c = base_is_text c.args.rounds c.args.name.now
