-- The laws of merging.
use Rattle.std.proofs.Common.{◌≡◌, ℕ, zero, suc, ◌+◌, ◌≤◌, ◌<◌, ◌⊎◌, inl, inr, nat_lt, nat_eq, not, ◌&&◌, ◌||◌, Bool, true, false, List, [], ◌∷◌, ◌++◌, Option, Some, None, is_some, cond, refl, sym, ◌∙◌, ap, subst, arith}
use Rattle.std.proofs.lemmas.Grind.{common_steps}
use Rattle.std.proofs.lemmas.Bool.{lt-ltb, le-ltb, ltb-true, ltb-false}
use Rattle.std.specs.List.{list_any}
use Rattle.async_events.specs.declared.kinds.Kind.{Kind}
use Rattle.async_events.specs.declared.kinds.Log.{Log}
use Rattle.async_events.specs.declared.kinds.Log.TheVariants.{Changed, Ana}
use Rattle.async_events.specs.declared.events.Events.{Events}
use Rattle.async_events.specs.Notices.{Mark, Published, Requests, Reads, Polls, Configures, Passes, Notices, raise, is_nsid, after_mark, taken, after_read, notices_after, listed_after, listed_step}
use Rattle.async_events.specs.Stamps.{Stamps, IsStamped, stamped, stamps_after, shown, caught_up, some_to, any_after, noted, with_notices, begun, read_at, requested, configured}
use Rattle.async_events.specs.Laws.{IsQuiet, AreQuiet, ShowsFold, CatchUpShows, CaughtUpIsKept, StampsStay, KeepsList, AllKeepList, StampsList, BeginsFresh, RequestWaits, ReadUnmasks, PollTakes, PollGives, BitsSet, changes, ReadEmpties, ListsWhatChanged}

-- a change after a change raises no more
raise-fields : (b on masked pending : Bool) → raise true (raise b (record { on = on; masked = masked; pending = pending })) ≡ raise true (record { on = on; masked = masked; pending = pending })
raise-fields false on masked pending = refl
raise-fields true true true pending = refl
raise-fields true true false pending = refl
raise-fields true false masked pending = refl

pub raise-true : (b : Bool) (k : Kind) → raise true (raise b k) ≡ raise true k
raise-true b k = raise-fields b k.on k.masked k.pending

-- a kind that is off or masked isn't raised, whatever changed
idle-fields : (b on masked pending : Bool) → (on && not masked) ≡ false → raise b (record { on = on; masked = masked; pending = pending }) ≡ record { on = on; masked = masked; pending = pending }
idle-fields false on masked pending idle = refl
idle-fields true true true pending idle = refl
idle-fields true true false pending idle = cc
idle-fields true false masked pending idle = refl

pub raise_idle : (b : Bool) (k : Kind) → (k.on && not k.masked) ≡ false → raise b k ≡ k
raise_idle b k idle = idle-fields b k.on k.masked k.pending idle

-- none of them holds
pub some_to-none : (p : ℕ → Bool) (limit : ℕ) → ((n : ℕ) → p n ≡ false) → some_to p limit ≡ false
some_to-none p zero none = refl
some_to-none p (suc limit) none = rw (some_to-none p limit none) (none (suc limit))

or-true : (b : Bool) → (b || true) ≡ true
or-true true = refl
or-true false = refl

or-left : (a b : Bool) → a ≡ true → (a || b) ≡ true
or-left true b e = refl
or-left false b e = cc

last_or_below : (n limit : ℕ) → n ≤ suc limit → (n ≡ suc limit) ⊎ (n ≤ limit)
last_or_below n limit h = grind arith

-- one of them holds
pub some_to-one : (p : ℕ → Bool) (limit n : ℕ) → 1 ≤ n → n ≤ limit → p n ≡ true → some_to p limit ≡ true
some_to-one p zero n low high holds = absurd (omega arith)
some_to-one p (suc limit) n low high holds =
    elim (last_or_below n limit high) [
      | inl e ↦ let h : p (suc limit) ≡ true = subst (λ (x : ℕ). p x ≡ true) e holds in rw h (or-true (some_to p limit))
      | inr le ↦ or-left (some_to p limit) (p (suc limit)) (some_to-one p limit n low le holds)
    ]

eqb-self : (n : ℕ) → nat_eq n n ≡ true
eqb-self n = grind arith

-- the kind namespace at a change
ns_step : (limit seen : ℕ) (s : Stamps) (nsid : Option ℕ) (ana : Bool) (k : Kind) → seen ≤ s.serial → IsQuiet limit (Published nsid ana) →
    raise (any_after limit seen (stamped s (Published nsid ana))) k ≡ raise (is_some nsid) (raise (any_after limit seen s) k)
ns_step limit seen s None ana k low quiet = refl
ns_step limit seen s (Some n) ana k low quiet =
    let here : nat_lt seen ((stamped s (Published (Some n) ana)).ns n) ≡ true = rw (eqb-self n) (lt-ltb seen (suc s.serial) (omega arith)) in
    let any : any_after limit seen (stamped s (Published (Some n) ana)) ≡ true = some_to-one (λ j. nat_lt seen ((stamped s (Published (Some n) ana)).ns j)) limit n quiet.0 quiet.1 here in
    ap (λ b. raise b k) any ∙ sym (raise-true (any_after limit seen s) k)

ana_step : (seen : ℕ) (s : Stamps) (nsid : Option ℕ) (ana : Bool) (k : Kind) → seen ≤ s.serial →
    raise (nat_lt seen (stamped s (Published nsid ana)).ana) k ≡ raise ana (raise (nat_lt seen s.ana) k)
ana_step seen s nsid false k low = refl
ana_step seen s nsid true k low =
    ap (λ b. raise b k) (lt-ltb seen (suc s.serial) (omega arith)) ∙ sym (raise-true (nat_lt seen s.ana) k)

-- one entry of another
shown_step : (limit : ℕ) (s : Stamps) (k : Events) (m : Mark) → k.seen ≤ s.serial → IsQuiet limit m → shown limit (stamped s m) k ≡ after_mark (shown limit s k) m
unfolding shown
shown_step limit s k (Published nsid ana) low quiet =
    let x = ns_step limit k.seen s nsid ana k.ns low quiet in
    let y = ana_step k.seen s nsid ana k.ana low in
    ap (λ (v : Kind). record { ns = v; ana = raise (nat_lt k.seen (stamped s (Published nsid ana)).ana) k.ana; waiting = k.waiting }) x
    ∙ ap (λ (v : Kind). record { ns = raise (is_some nsid) (raise (any_after limit k.seen s) k.ns); ana = v; waiting = k.waiting }) y
shown_step limit s k (Requests id) low quiet = absurd quiet
shown_step limit s k (Reads log) low quiet = absurd quiet
shown_step limit s k Polls low quiet = absurd quiet
shown_step limit s k (Configures ns ana) low quiet = absurd quiet
shown_step limit s k Passes low quiet = refl

serial_grows : (s : Stamps) (m : Mark) → s.serial ≤ (stamped s m).serial
serial_grows s (Published nsid ana) = omega arith
serial_grows s (Requests id) = omega arith
serial_grows s (Reads log) = omega arith
serial_grows s Polls = omega arith
serial_grows s (Configures ns ana) = omega arith
serial_grows s Passes = omega arith

pub shows_fold : ShowsFold
shows_fold limit s k [] seen quiet = refl
shows_fold limit s k (m ∷ ms) seen quiet =
    let low : k.seen ≤ (stamped s m).serial = omega (arith, serial_grows s m) in
    shows_fold limit (stamped s m) k ms low quiet.1 ∙ ap (λ n. notices_after n ms) (shown_step limit s k m seen quiet.0)

none_above : (limit : ℕ) (s : Stamps) → IsStamped s → any_after limit s.serial s ≡ false
none_above limit s ok = some_to-none (λ n. nat_lt s.serial (s.ns n)) limit (λ n. le-ltb s.serial (s.ns n) (ok.ns n))

ana_not_above : (s : Stamps) → IsStamped s → nat_lt s.serial s.ana ≡ false
ana_not_above s ok = le-ltb s.serial s.ana ok.ana

pub catch_up_shows : CatchUpShows
unfolding shown caught_up
catch_up_shows limit s k ok = rw (none_above limit s ok, ana_not_above s ok) refl

pub caught_up_is_kept : CaughtUpIsKept
unfolding shown
caught_up_is_kept limit s k ok e = rw (e, none_above limit s ok, ana_not_above s ok) refl

stamp_ns : (s : Stamps) (nsid : Option ℕ) (ana : Bool) → IsStamped s → (n : ℕ) → (stamped s (Published nsid ana)).ns n ≤ suc s.serial
stamp_ns s None ana ok n = omega (arith, ok.ns n)
stamp_ns s (Some k) ana ok n =
    elim (nat_eq k n) as (λ b. (cond b (suc s.serial) (s.ns n)) ≤ suc s.serial) [ true ↦ omega arith | false ↦ omega (arith, ok.ns n) ]

stamp_ana : (s : Stamps) (nsid : Option ℕ) (ana : Bool) → IsStamped s → (stamped s (Published nsid ana)).ana ≤ suc s.serial
stamp_ana s nsid true ok = omega arith
stamp_ana s nsid false ok = omega (arith, ok.ana)

stamp_step : (s : Stamps) (m : Mark) → IsStamped s → IsStamped (stamped s m)
stamp_step s (Published nsid ana) ok = record { ns = stamp_ns s nsid ana ok; ana = stamp_ana s nsid ana ok }
stamp_step s (Requests id) ok = ok
stamp_step s (Reads log) ok = ok
stamp_step s Polls ok = ok
stamp_step s (Configures ns ana) ok = ok
stamp_step s Passes ok = ok

pub stamps_stay : StampsStay
stamps_stay s [] ok = ok
stamps_stay s (m ∷ ms) ok = stamps_stay (stamped s m) ms (stamp_step s m ok)

list_published : (n cleared : ℕ) (s : Stamps) (nsid : Option ℕ) (ana : Bool) → cleared ≤ s.serial →
    nat_lt cleared ((stamped s (Published nsid ana)).ns n) ≡ (is_nsid nsid n || nat_lt cleared (s.ns n))
list_published n cleared s None ana low = refl
list_published n cleared s (Some k) ana low =
    elim (nat_eq k n) as (λ b. nat_lt cleared (cond b (suc s.serial) (s.ns n)) ≡ (b || nat_lt cleared (s.ns n))) [ true ↦ lt-ltb cleared (suc s.serial) (omega arith) | false ↦ refl ]

list_step : (n cleared : ℕ) (s : Stamps) (m : Mark) → cleared ≤ s.serial → KeepsList m →
    nat_lt cleared ((stamped s m).ns n) ≡ listed_step n (nat_lt cleared (s.ns n)) m
list_step n cleared s (Published nsid ana) low keeps = list_published n cleared s nsid ana low
list_step n cleared s (Requests id) low keeps = refl
list_step n cleared s (Reads Changed) low keeps = absurd keeps
list_step n cleared s (Reads Ana) low keeps = refl
list_step n cleared s Polls low keeps = refl
list_step n cleared s (Configures ns ana) low keeps = refl
list_step n cleared s Passes low keeps = refl

pub stamps_list : StampsList
stamps_list n cleared s [] low keep = refl
stamps_list n cleared s (m ∷ ms) low keep =
    let up : cleared ≤ (stamped s m).serial = omega (arith, serial_grows s m) in
    stamps_list n cleared (stamped s m) ms up keep.1 ∙ ap (λ b. listed_after n b ms) (list_step n cleared s m low keep.0)

pub begins_fresh : BeginsFresh
begins_fresh limit kato s ok = caught_up_is_kept limit s (begun s.serial kato) ok refl

pub request_waits : RequestWaits
unfolding shown requested
request_waits limit id s k = refl

pub read_unmasks : ReadUnmasks
unfolding read_at
read_unmasks limit s k Changed ok e = caught_up_is_kept limit s (read_at Changed s.serial k) ok e ∙ ap (λ (n : Notices). after_mark n (Reads Changed)) (sym (caught_up_is_kept limit s k ok e))
read_unmasks limit s k Ana ok e = caught_up_is_kept limit s (read_at Ana s.serial k) ok e ∙ ap (λ (n : Notices). after_mark n (Reads Ana)) (sym (caught_up_is_kept limit s k ok e))

pub poll_takes : PollTakes
poll_takes limit s k ok e = caught_up_is_kept limit s (with_notices k (taken (noted k)).0) ok e ∙ ap (λ (n : Notices). after_mark n Polls) (sym (caught_up_is_kept limit s k ok e))

pub poll_gives : PollGives
poll_gives limit s k ok e = ap (λ (n : Notices). (taken n).1) (sym (caught_up_is_kept limit s k ok e))

pub bits_set : BitsSet
bits_set limit s k ns ana ok e = caught_up_is_kept limit s (configured ns ana k) ok e ∙ ap (λ (n : Notices). after_mark n (Configures ns ana)) (sym (caught_up_is_kept limit s k ok e))

-- after a read of the changed list nothing is listed
pub read_empties : ReadEmpties
read_empties n listed [] = refl
read_empties n listed (m ∷ ms) = read_empties n (listed_step n listed m) ms

or-turned : (a b c : Bool) → ((a || b) || c) ≡ (b || (a || c))
or-turned true true c = refl
or-turned true false c = refl
or-turned false true c = refl
or-turned false false c = refl

or-false : (b c : Bool) → (b || c) ≡ (b || (false || c))
or-false b c = refl

step-changes : (n : ℕ) (listed rest : Bool) (m : Mark) → KeepsList m → (listed_step n listed m || rest) ≡ (listed || (changes n m || rest))
step-changes n listed rest (Published nsid ana) keeps = or-turned (is_nsid nsid n) listed rest
step-changes n listed rest (Requests id) keeps = refl
step-changes n listed rest (Reads Changed) keeps = absurd keeps
step-changes n listed rest (Reads Ana) keeps = refl
step-changes n listed rest Polls keeps = refl
step-changes n listed rest (Configures ns ana) keeps = refl
step-changes n listed rest Passes keeps = refl

or-none : (b : Bool) → b ≡ (b || false)
or-none true = refl
or-none false = refl

lists-from : (n : ℕ) (listed : Bool) (ms : List Mark) → AllKeepList ms → listed_after n listed ms ≡ (listed || list_any (changes n) ms)
lists-from n listed [] keep = or-none listed
lists-from n listed (m ∷ ms) keep =
    lists-from n (listed_step n listed m) ms keep.1 ∙ step-changes n listed (list_any (changes n) ms) m keep.0

pub lists_what_changed : ListsWhatChanged
lists_what_changed n ms keep = lists-from n false ms keep
