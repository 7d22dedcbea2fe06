use Rattle.log_pages.proofs.Lists.{list_is_stamps}
use Rattle.log_pages.proofs.law.changed_list_is_by_history.Goals as goal

pub returns : goal.returns
returns c = list_is_stamps
