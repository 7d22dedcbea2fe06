use Rattle.run_verdicts.proofs.Transcribing.{right}
use Rattle.run_verdicts.proofs.law.transcripts_are_right.Goals as goal

pub returns : goal.returns
returns c = right
