use Rattle.notice_laws.proofs.Marking.{notices_are_the_fold, list_is_the_fold}
use Rattle.notice_laws.proofs.law.notices_are_the_fold.Goals as goal

pub returns-clause-notices : goal.returns-clause-notices
returns-clause-notices c = notices_are_the_fold

pub returns-clause-list : goal.returns-clause-list
returns-clause-list c = list_is_the_fold
