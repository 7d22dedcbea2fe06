-- Notices by the serials of last changes, which the code compares in place of the history.
use Rattle.std.specs.Prelude.{◌≡◌, ℕ, zero, suc, ◌+◌, ◌≤◌, ◌==◌, nat_lt, not, ◌&&◌, ◌||◌, Bool, true, false, if◌then◌else◌, List, [], ◌∷◌, ◌++◌, Option, Some, None, is_some, length}
use Rattle.async_events.specs.declared.kinds.Kind.{Kind}
use Rattle.async_events.specs.declared.kinds.Log.{Log}
use Rattle.async_events.specs.declared.kinds.Log.TheVariants.{Changed, Ana}
use Rattle.sqe_cqe.specs.Answers.{View}
use Rattle.async_events.specs.declared.events.Events.{Events}
use Rattle.async_events.specs.declared.waits.TheConstants.{MOST_WAITING}
use Rattle.async_events.specs.Notices.{Mark, Published, Requests, Reads, Polls, Configures, Passes, Notices, raise, is_nsid, fresh, after_read}

-- how many changes were published, and the serial of the last change: of each NSID of a subsystem,
-- and of the ANA groups of a port or subsystem
pub record Stamps : Type 0 where
  pub serial : ℕ
  pub ns : ℕ → ℕ
  pub ana : ℕ

-- no stamp is above the serial
pub record IsStamped (s : Stamps) : Type 0 where
  pub ns : (n : ℕ) → s.ns n ≤ s.serial
  pub ana : s.ana ≤ s.serial

-- the stamps after an entry: a published change raises the serial and stamps what changed
abbrev pub stamped : Stamps → Mark → Stamps
stamped s (Published nsid ana) = record {
  serial = suc s.serial;
  ns = λ n. if is_nsid nsid n then suc s.serial else s.ns n;
  ana = if ana then suc s.serial else s.ana;
}
stamped s (Requests id) = s
stamped s (Reads log) = s
stamped s Polls = s
stamped s (Configures ns ana) = s
stamped s Passes = s

abbrev pub stamps_after : Stamps → List Mark → Stamps
stamps_after s [] = s
stamps_after s (m ∷ ms) = stamps_after (stamped s m) ms

-- whether p holds of one of 1 to n
abbrev pub some_to : (ℕ → Bool) → ℕ → Bool
some_to p zero = false
some_to p (suc n) = some_to p n || p (suc n)

-- whether an NSID up to the limit changed after a serial
abbrev pub any_after : ℕ → ℕ → Stamps → Bool
any_after limit seen s = some_to (λ n. nat_lt seen (s.ns n)) limit

-- the kinds brought up to these stamps at once
unfoldable pub caught_up : ℕ → Stamps → Events → Events
caught_up limit s k = record k {
  seen = s.serial;
  ns = raise (any_after limit k.seen s) k.ns;
  ana = raise (nat_lt k.seen s.ana) k.ana;
}

-- the notices that this shows where these are the stamps
unfoldable pub shown : ℕ → Stamps → Events → Notices
shown limit s k = record {
  ns = raise (any_after limit k.seen s) k.ns;
  ana = raise (nat_lt k.seen s.ana) k.ana;
  waiting = k.waiting;
}

-- the stamps that a queue sees
abbrev pub stamps_of : View → Stamps
stamps_of v = record { serial = v.serial; ns = v.ns_stamp; ana = v.ana_stamp }

-- the same, caught up with all that a queue sees
abbrev pub caught_up_with : View → Events → Events
caught_up_with v k = caught_up v.offers.nsids (stamps_of v) k

-- what is kept, as notices
abbrev pub noted : Events → Notices
noted k = record { ns = k.ns; ana = k.ana; waiting = k.waiting }

abbrev pub with_notices : Events → Notices → Events
with_notices k n = record k { ns = n.ns; ana = n.ana; waiting = n.waiting }

-- of a controller that connects at this serial, with this keep alive time
abbrev pub begun : ℕ → ℕ → Events
begun since kato = record {
  seen = since;
  cleared = since;
  kato = kato;
  ns = fresh;
  ana = fresh;
  waiting = [];
}

-- the serial of the last read that emptied the changed list, or of the Connect
abbrev pub cleared_of : Events → ℕ
cleared_of k = k.cleared

-- no more event requests may wait
abbrev pub is_full : Events → Bool
is_full k = length k.waiting == MOST_WAITING

-- one event request more waits
unfoldable pub requested : ℕ → Events → Events
requested id k = record k { waiting = id ∷ k.waiting }

-- the bits of both kinds are set
abbrev pub configured : Bool → Bool → Events → Events
configured ns ana k = record k { ns = record k.ns { on = ns }; ana = record k.ana { on = ana } }

-- a log was read, and the read clears
abbrev pub cleared_at : Log → ℕ → ℕ → ℕ
cleared_at Changed serial old = serial
cleared_at Ana serial old = old

unfoldable pub read_at : Log → ℕ → Events → Events
read_at log serial k =
    record (with_notices k (after_read log (noted k))) { cleared = cleared_at log serial k.cleared }
