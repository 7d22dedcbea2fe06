-- The list of active namespaces.
use Rattle.std.specs.Prelude.{ℕ, List, take}
use Rattle.sqe_cqe.specs.Answers.{View}
use Rattle.look_pages.specs.declared.walk.TheConstants.{PAGE, MOST_LISTED}
use Rattle.look_pages.specs.declared.list.Choice.TheVariants.{Enabled}
use Rattle.look_pages.specs.Chosen.{chosen_nsids}
use Rattle.look_pages.specs.Pages.{words, filled}

-- the enabled NSIDs above this one, rising, at most 1,024 of them, four bytes each, and zeros
unfoldable pub active_list_page : View → ℕ → List ℕ
active_list_page v above = filled PAGE (words (take MOST_LISTED (chosen_nsids (Enabled above) v)))
