use Rattle.history_notices.proofs.Leading.{changed_list_by_fold, ana_log_by_fold, reads_clear}
use Rattle.history_notices.proofs.law.logs_are_by_history.Goals as goal

pub returns-clause-list : goal.returns-clause-list
returns-clause-list c = changed_list_by_fold

pub returns-clause-ana : goal.returns-clause-ana
returns-clause-ana c = ana_log_by_fold

pub returns-clause-clears : goal.returns-clause-clears
returns-clause-clears c = reads_clear
