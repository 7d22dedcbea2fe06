-- What is shown by stamps is the fold over the history, wherever the code is asked.
use Rattle.std.specs.Prelude.{◌≡◌, ℕ, ◌∷◌, ◌≤◌, nat_lt, not, ◌&&◌, ◌++◌, Bool, true, false, List, [], Option, Some, None}
use Rattle.std.specs.List.{list_any}
use Rattle.async_events.specs.declared.kinds.Log.{Log}
use Rattle.async_events.specs.declared.kinds.Log.TheVariants.{Changed, Ana}
use Rattle.async_events.specs.declared.events.Events.{Events}
use Rattle.async_events.specs.Notices.{Mark, Published, Requests, Reads, Polls, Configures, Passes, Notices, at_connect, taken, after_mark, notices_after, listed_after, is_nsid}
use Rattle.async_events.specs.Stamps.{Stamps, IsStamped, stamped, stamps_after, shown, caught_up, noted, with_notices, begun, read_at, requested, configured}

-- an entry that leaves bits, masks and pending of this controller, but for changes of NSIDs up to a limit
abbrev pub IsQuiet : ℕ → Mark → Type 0
IsQuiet limit (Published None ana) = Unit {0}
IsQuiet limit (Published (Some n) ana) = (1 ≤ n) × (n ≤ limit)
IsQuiet limit (Requests id) = ⊥
IsQuiet limit (Reads log) = ⊥
IsQuiet limit Polls = ⊥
IsQuiet limit (Configures ns ana) = ⊥
IsQuiet limit Passes = Unit {0}

abbrev pub AreQuiet : ℕ → List Mark → Type 0
AreQuiet limit [] = Unit {0}
AreQuiet limit (m ∷ ms) = IsQuiet limit m × AreQuiet limit ms

-- where other entries follow, what is shown by the stamps after them is the fold over them
abbrev pub ShowsFold : Type 0
ShowsFold = (limit : ℕ) (s : Stamps) (k : Events) (ms : List Mark) → k.seen ≤ s.serial → AreQuiet limit ms → shown limit (stamps_after s ms) k ≡ notices_after (shown limit s k) ms

-- catching up changes nothing that is shown
abbrev pub CatchUpShows : Type 0
CatchUpShows = (limit : ℕ) (s : Stamps) (k : Events) → IsStamped s → shown limit s (caught_up limit s k) ≡ shown limit s k

-- right after it, what is kept is what is shown
abbrev pub CaughtUpIsKept : Type 0
CaughtUpIsKept = (limit : ℕ) (s : Stamps) (k : Events) → IsStamped s → k.seen ≡ s.serial → shown limit s k ≡ record { ns = k.ns; ana = k.ana; waiting = k.waiting }

-- every history keeps stamps at or below the serial
abbrev pub StampsStay : Type 0
StampsStay = (s : Stamps) (ms : List Mark) → IsStamped s → IsStamped (stamps_after s ms)

-- an entry that isn't a clearing read of the changed list
abbrev pub KeepsList : Mark → Type 0
KeepsList (Published nsid ana) = Unit {0}
KeepsList (Requests id) = Unit {0}
KeepsList (Reads Changed) = ⊥
KeepsList (Reads Ana) = Unit {0}
KeepsList Polls = Unit {0}
KeepsList (Configures ns ana) = Unit {0}
KeepsList Passes = Unit {0}

abbrev pub AllKeepList : List Mark → Type 0
AllKeepList [] = Unit {0}
AllKeepList (m ∷ ms) = KeepsList m × AllKeepList ms

-- the changed list is what is stamped above the serial of the clearing read
abbrev pub StampsList : Type 0
StampsList = (n cleared : ℕ) (s : Stamps) (ms : List Mark) → cleared ≤ s.serial → AllKeepList ms → nat_lt cleared ((stamps_after s ms).ns n) ≡ listed_after n (nat_lt cleared (s.ns n)) ms

-- at its Connect a controller has no notice
abbrev pub BeginsFresh : Type 0
BeginsFresh = (limit kato : ℕ) (s : Stamps) → IsStamped s → shown limit s (begun s.serial kato) ≡ at_connect

-- a request waits, whether the kinds are caught up or not
abbrev pub RequestWaits : Type 0
RequestWaits = (limit id : ℕ) (s : Stamps) (k : Events) → shown limit s (requested id k) ≡ after_mark (shown limit s k) (Requests id)

-- a read and a poll right after catching up are those of the fold
abbrev pub ReadUnmasks : Type 0
ReadUnmasks = (limit : ℕ) (s : Stamps) (k : Events) (log : Log) → IsStamped s → k.seen ≡ s.serial → shown limit s (read_at log s.serial k) ≡ after_mark (shown limit s k) (Reads log)

abbrev pub PollTakes : Type 0
PollTakes = (limit : ℕ) (s : Stamps) (k : Events) → IsStamped s → k.seen ≡ s.serial → shown limit s (with_notices k (taken (noted k)).0) ≡ after_mark (shown limit s k) Polls

abbrev pub PollGives : Type 0
PollGives = (limit : ℕ) (s : Stamps) (k : Events) → IsStamped s → k.seen ≡ s.serial → (taken (noted k)).1 ≡ (taken (shown limit s k)).1

abbrev pub BitsSet : Type 0
BitsSet = (limit : ℕ) (s : Stamps) (k : Events) (ns ana : Bool) → IsStamped s → k.seen ≡ s.serial → shown limit s (configured ns ana k) ≡ after_mark (shown limit s k) (Configures ns ana)

-- an entry that changes this NSID
abbrev pub changes : ℕ → Mark → Bool
changes n (Published nsid ana) = is_nsid nsid n
changes n (Requests id) = false
changes n (Reads log) = false
changes n Polls = false
changes n (Configures ns ana) = false
changes n Passes = false

-- after a clearing read of the changed list no NSID is listed
abbrev pub ReadEmpties : Type 0
ReadEmpties = (n : ℕ) (listed : Bool) (ms : List Mark)
    → listed_after n listed (ms ++ Reads Changed ∷ []) ≡ false

-- and from there on those are listed that some entry changes
abbrev pub ListsWhatChanged : Type 0
ListsWhatChanged = (n : ℕ) (ms : List Mark) → AllKeepList ms
    → listed_after n false ms ≡ list_any (changes n) ms
