use Rattle.ns_table.proofs.Follows.{words_follow}
use Rattle.ns_table.proofs.law.words_follow_settings.Goals as goal

pub returns : goal.returns
returns c = words_follow
