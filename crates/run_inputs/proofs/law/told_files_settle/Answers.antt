use Rattle.run_inputs.proofs.Settling.{all_settle}
use Rattle.run_inputs.proofs.law.told_files_settle.Goals as goal

pub returns : goal.returns
returns c = λ before after name r told h t quiet. all_settle before after name r told h t quiet
