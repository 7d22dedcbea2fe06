use Rattle.look_pages.proofs.Ranges.{are_those_of_range, page_has_its_size}
use Rattle.look_pages.proofs.law.listed_nsids.Goals as goal

pub returns : goal.returns
returns c = record { those = are_those_of_range; size = page_has_its_size }
