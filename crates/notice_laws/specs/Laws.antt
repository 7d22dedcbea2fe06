-- What the laws say.
use Rattle.std.specs.Prelude.{◌≡◌, ◌≤◌, ◌<◌, ◌+◌, ◌^◌, ◌-◌, ℕ, false, List, length, None, nat_lt}
use Rattle.sqe_cqe.specs.declared.rows.TheConstants.{MAX_NSID}
use Rattle.configfs_tree.specs.declared.configuration.Configuration.{Configuration}
use Rattle.configfs_tree.specs.declared.edits.Change.{Change}
use Rattle.configfs_tree.specs.Outcome.{Accepts}
use Rattle.configfs_tree.specs.Standing.{IsStanding}
use Rattle.link_rules.specs.declared.edits.Edit.{Edit}
use Rattle.link_rules.specs.Table.{edit_outcome}
use Rattle.async_events.specs.declared.events.Events.{Events}
use Rattle.async_events.specs.Notices.{Published, notices_after, listed_after}
use Rattle.async_events.specs.Stamps.{stamped as seen_stamped, shown}
use Rattle.change_stamps.specs.Stamps.{Stamps, no_stamps, raised, stamps_after}
use Rattle.notice_laws.specs.Marks.{mark_of, marks_of, seen_by, after_changes, AreSound, IsInRange, AreInRange}

-- a change stamps what its mark stamps
abbrev pub StampsAreMarks : Type 0
StampsAreMarks = (s : Stamps) (c : Change) (sub port : ℕ) → AreSound s → IsInRange c
    → s.serial < 2 ^ 32 - 1
    → seen_by sub port (stamps_after c s) ≡ seen_stamped (seen_by sub port s) (mark_of sub port c)

-- a change of the controllers alone is a mark that changes nothing but the serial
abbrev pub RaiseIsAMark : Type 0
RaiseIsAMark = (s : Stamps) (sub port : ℕ) → s.serial < 2 ^ 32 - 1
    → seen_by sub port (raised s) ≡ seen_stamped (seen_by sub port s) (Published None false)

abbrev pub StartIsSound : Type 0
StartIsSound = AreSound no_stamps

abbrev pub StampsStaySound : Type 0
StampsStaySound = (s : Stamps) (c : Change) → AreSound s → s.serial < 2 ^ 32 - 1
    → AreSound (stamps_after c s)

-- what a controller shows after changes is the fold over their marks
abbrev pub NoticesAreTheFold : Type 0
NoticesAreTheFold = (s : Stamps) (changes : List Change) (sub port : ℕ) (k : Events) → AreSound s
    → AreInRange changes → s.serial + length changes < 2 ^ 32 → k.seen ≤ s.serial
    → shown MAX_NSID (seen_by sub port (after_changes s changes)) k
    ≡ notices_after (shown MAX_NSID (seen_by sub port s) k) (marks_of sub port changes)

-- and an NSID changed after the serial of the last clearing read exactly where the fold lists it
abbrev pub ListIsTheFold : Type 0
ListIsTheFold = (s : Stamps) (changes : List Change) (sub port n cleared : ℕ) → AreSound s
    → AreInRange changes → s.serial + length changes < 2 ^ 32 → cleared ≤ s.serial
    → nat_lt cleared ((seen_by sub port (after_changes s changes)).ns n)
    ≡ listed_after n (nat_lt cleared ((seen_by sub port s).ns n)) (marks_of sub port changes)

-- what an accepted edit names is in range: a namespace that stands, and positions of the tables
abbrev pub EditsNameInRange : Type 0
EditsNameInRange = (t : Configuration) (e : Edit) (u : Configuration) (c : Change) → IsStanding t
    → edit_outcome t e ≡ Accepts u c → IsInRange c
