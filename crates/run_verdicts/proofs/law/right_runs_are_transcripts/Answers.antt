use Rattle.run_verdicts.proofs.Righting.{transcript}
use Rattle.run_verdicts.proofs.law.right_runs_are_transcripts.Goals as goal

pub returns : goal.returns
returns c = transcript
