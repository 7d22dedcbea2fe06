use Rattle.history_notices.proofs.Leading.{polls_by_fold, requests_by_fold, bits_by_fold}
use Rattle.history_notices.proofs.law.notices_are_by_history.Goals as goal

pub returns-clause-polls : goal.returns-clause-polls
returns-clause-polls c = polls_by_fold

pub returns-clause-requests : goal.returns-clause-requests
returns-clause-requests c = requests_by_fold

pub returns-clause-bits : goal.returns-clause-bits
returns-clause-bits c = bits_by_fold
