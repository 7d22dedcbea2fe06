use Rattle.target_words.proofs.Opening.{opened, slots_stand}
use Rattle.target_words.proofs.law.starts_are_opened.Goals as goal

pub returns-clause-words : goal.returns-clause-words
returns-clause-words c = opened

pub returns-clause-slots : goal.returns-clause-slots
returns-clause-slots c = λ t n x e. slots_stand t.blocks n x e
