use Rattle.notice_laws.proofs.Ranging.{edits_name_in_range}
use Rattle.notice_laws.proofs.law.edits_name_in_range.Goals as goal

pub returns : goal.returns
returns c = edits_name_in_range
