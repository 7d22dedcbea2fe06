use Rattle.ns_table.proofs.Noted.{nothing_is_stamped, places_from_the_start, noted_is_published, places_stay, serials_from_the_start, serials_stay}
use Rattle.ns_table.proofs.law.kept_stamps_are_published.Goals as goal

pub returns-clause-start : goal.returns-clause-start
returns-clause-start c = nothing_is_stamped

pub returns-clause-start_places : goal.returns-clause-start_places
returns-clause-start_places c = places_from_the_start

pub returns-clause-noted : goal.returns-clause-noted
returns-clause-noted c = noted_is_published

pub returns-clause-places : goal.returns-clause-places
returns-clause-places c = places_stay

pub returns-clause-start_serials : goal.returns-clause-start_serials
returns-clause-start_serials c = serials_from_the_start

pub returns-clause-serials : goal.returns-clause-serials
returns-clause-serials c = serials_stay
