use Rattle.async_events.proofs.Folds.{shows_fold, catch_up_shows, caught_up_is_kept, stamps_stay, stamps_list}
use Rattle.async_events.proofs.law.events_are_the_fold.Goals as goal

pub returns : goal.returns
returns c = record { fold = shows_fold; catching = catch_up_shows; kept = caught_up_is_kept; stay = stamps_stay; list = stamps_list }
