-- Notices of one controller, by the history of the target.
--
-- The history is read as marks: what each of its entries is to this controller. The rules: a namespace
-- change of its subsystem is a change of the kind namespace, and an ANA change of its port or its
-- subsystem one of the kind ANA. At a change, a kind whose bit is on and which isn't masked becomes
-- masked and pending. A read of a kind's log with RAE 0 unmasks it and leaves what is pending. A poll,
-- where a request waits and a kind is pending, takes namespace before ANA, clears its pending, and
-- completes the request that was submitted last. New bits replace the old ones alone.
use Rattle.std.specs.Prelude.{ℕ, zero, suc, ◌+◌, ◌==◌, not, ◌&&◌, ◌||◌, Bool, true, false, if◌then◌else◌, List, [], ◌∷◌, ◌++◌, Option, Some, None, is_some}
use Rattle.async_events.specs.declared.events.TheConstants.{NAMESPACE_NOTICE, ANA_NOTICE}
use Rattle.async_events.specs.declared.kinds.Kind.{Kind}
use Rattle.async_events.specs.declared.kinds.Log.{Log}
use Rattle.async_events.specs.declared.kinds.Log.TheVariants.{Changed, Ana}

-- what an entry of the history is to this controller
pub data Mark : Type 0 where
  -- a change was published: of this NSID of its subsystem, where it is a namespace change there, and
  -- whether it is an ANA change of its port or subsystem
  Published : Option ℕ → Bool → Mark
  -- its own event request waits
  Requests : ℕ → Mark
  -- its own log was read, and the read clears
  Reads : Log → Mark
  -- its own poll
  Polls : Mark
  -- its own bits were set, of namespace and ANA
  Configures : Bool → Bool → Mark
  -- anything else
  Passes : Mark

-- the notices of a controller
pub record Notices : Type 0 where
  pub ns : Kind
  pub ana : Kind
  -- the waiting event requests, the last submitted first
  pub waiting : List ℕ

abbrev pub fresh : Kind
fresh = record { on = true; masked = false; pending = false }

abbrev pub at_connect : Notices
at_connect = record { ns = fresh; ana = fresh; waiting = [] }

-- at a change, a kind that is on and isn't masked becomes masked and pending
abbrev pub raise : Bool → Kind → Kind
raise changed k = if changed && (k.on && not k.masked) then record k { masked = true; pending = true } else k

abbrev pub unmask : Kind → Kind
unmask k = record k { masked = false }

abbrev pub settle : Kind → Kind
settle k = record k { pending = false }

-- the event that a poll gives, with what is left: the command identifier of the last request, and the
-- result that tells of the notice
abbrev pub take_first : Notices → List ℕ → Notices × Option (ℕ × ℕ)
take_first n [] = (n, None)
take_first n (id ∷ ids) =
    if n.ns.pending then (record n { ns = settle n.ns; waiting = ids }, Some (id, NAMESPACE_NOTICE))
    else if n.ana.pending then (record n { ana = settle n.ana; waiting = ids }, Some (id, ANA_NOTICE))
    else (n, None)

abbrev pub taken : Notices → Notices × Option (ℕ × ℕ)
taken n = take_first n n.waiting

abbrev pub after_read : Log → Notices → Notices
after_read Changed n = record n { ns = unmask n.ns }
after_read Ana n = record n { ana = unmask n.ana }

-- an entry of the history
abbrev pub after_mark : Notices → Mark → Notices
after_mark n (Published nsid ana) = record n { ns = raise (is_some nsid) n.ns; ana = raise ana n.ana }
after_mark n (Requests id) = record n { waiting = id ∷ n.waiting }
after_mark n (Reads log) = after_read log n
after_mark n Polls = (taken n).0
after_mark n (Configures ns ana) = record n { ns = record n.ns { on = ns }; ana = record n.ana { on = ana } }
after_mark n Passes = n

-- the entries one after another
abbrev pub notices_after : Notices → List Mark → Notices
notices_after n [] = n
notices_after n (m ∷ ms) = notices_after (after_mark n m) ms

-- whether an NSID is in the changed list after an entry, by whether it was in it before
abbrev pub is_nsid : Option ℕ → ℕ → Bool
is_nsid None n = false
is_nsid (Some k) n = k == n

abbrev pub listed_after_read : Log → Bool → Bool
listed_after_read Changed listed = false
listed_after_read Ana listed = listed

abbrev pub listed_step : ℕ → Bool → Mark → Bool
listed_step n listed (Published nsid ana) = is_nsid nsid n || listed
listed_step n listed (Requests id) = listed
listed_step n listed (Reads log) = listed_after_read log listed
listed_step n listed Polls = listed
listed_step n listed (Configures ns ana) = listed
listed_step n listed Passes = listed

abbrev pub listed_after : ℕ → Bool → List Mark → Bool
listed_after n listed [] = listed
listed_after n listed (m ∷ ms) = listed_after n (listed_step n listed m) ms
