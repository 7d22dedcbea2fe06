use Rattle.fabrics_connect.proofs.Laws.{connects_just_this_qid}
use Rattle.fabrics_connect.proofs.law.connects_just_this_qid.Goals as goal

pub returns : goal.returns
returns c = connects_just_this_qid
