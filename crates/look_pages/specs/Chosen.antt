-- Which NSIDs a page lists.
use Rattle.std.specs.Prelude.{ℕ, ◌+◌, ◌==◌, nat_lt, ◌&&◌, Bool, true, false, List, length}
use Rattle.sqe_cqe.specs.declared.rows.Seen.{Seen}
use Rattle.sqe_cqe.specs.declared.rows.Seen.TheVariants.{NotConfigured, Off, On}
use Rattle.sqe_cqe.specs.Answers.{View}
use Rattle.look_pages.specs.declared.list.Choice.{Choice}
use Rattle.look_pages.specs.declared.list.Choice.TheVariants.{Changed, Enabled, InGroup}
use Rattle.look_pages.specs.Pages.{those}

abbrev pub is_on : Seen → Bool
is_on NotConfigured = false
is_on Off = false
is_on (On row) = true

abbrev pub is_in : Seen → ℕ → Bool
is_in NotConfigured group = false
is_in Off group = false
is_in (On row) group = row.group == group

-- changed after a serial; enabled and above an NSID; enabled in a group
abbrev pub is_chosen : Choice → View → ℕ → Bool
is_chosen (Changed after) v n = nat_lt after (v.ns_stamp n)
is_chosen (Enabled above) v n = nat_lt above n && is_on (v.ns n)
is_chosen (InGroup group) v n = is_in (v.ns n) group

-- those of 1 to the highest NSID that the target offers
unfoldable pub chosen_nsids : Choice → View → List ℕ
chosen_nsids choice v = those (is_chosen choice v) v.offers.nsids
