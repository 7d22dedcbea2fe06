-- What a command of an admin queue, and a poll of it, leave of its controller's events is what the
-- rules of notices make of it.
use Rattle.std.proofs.Common.{◌≡◌, ◌≤◌, ◌==◌, ◌&&◌, ℕ, nat_lt, Bool, true, false, cond, refl, sym, ap, subst, ◌∙◌, arith}
use Rattle.std.proofs.lemmas.Bool.{eqb-true, le-ltb}
use Rattle.sqe_cqe.specs.declared.sqe.Sqe.{Sqe}
use Rattle.sqe_cqe.specs.declared.codes.TheConstants.{SUCCESS, DATA_SGL_LENGTH_INVALID}
use Rattle.sqe_cqe.specs.Answers.{View}
use Rattle.admin_identify.specs.Identify.{identify_status}
use Rattle.async_events.specs.declared.events.Events.{Events}
use Rattle.async_events.specs.declared.events.TheConstants.{REQUEST_LIMIT}
use Rattle.async_events.specs.declared.kinds.Log.{Log}
use Rattle.async_events.specs.declared.kinds.Log.TheVariants.{Changed, Ana}
use Rattle.async_events.specs.declared.feature.TheConstants.{SET_FEATURES, ASYNC_EVENTS, KEEP_ALIVE_TIMER}
use Rattle.async_events.specs.Features.{feature_id, bit, feature_answer, feature_after}
use Rattle.async_events.specs.Notices.{Mark, Requests, Reads, Polls, Configures, Passes, Notices, taken, after_mark, listed_step}
use Rattle.async_events.specs.Stamps.{IsStamped, shown, caught_up, caught_up_with, stamps_of, noted, with_notices, read_at, requested, configured, is_full}
use Rattle.async_events.proofs.Folds.{catch_up_shows, request_waits, read_unmasks, poll_takes, poll_gives, bits_set}
use Rattle.log_pages.specs.Logs.{log_of, log_status, log_events, retains}
use Rattle.admin_commands.specs.declared.admit.AdminReply.{AdminReply}
use Rattle.admin_commands.specs.declared.admit.AdminReply.TheVariants.{Completes, Waits}
use Rattle.admin_commands.specs.declared.checks.TheConstants.{GET_LOG_PAGE, IDENTIFY, ABORT, EVENT_REQUEST, KEEP_ALIVE}
use Rattle.admin_commands.specs.Admin.{status_before, without_data, requested_by, featured, reply_by, admin_reply, after_log, after_request, events_by, events_after, polled, event_of}
use Rattle.history_notices.specs.Own.{succeeded}

-- by what a command replies
abbrev pub mark_with : Sqe → AdminReply → Mark
mark_with e Waits = Requests e.cid
mark_with e (Completes status result) = cond (status == SUCCESS) (succeeded e) Passes

-- the notices that a view's serials show of what is kept
abbrev pub shown_by : View → Events → Notices
shown_by v k = shown v.offers.nsids (stamps_of v) k

-- what is kept goes on as a mark says
pub record Follows (v : View) (k j : Events) (m : Mark) : Type 0 where
  pub seen : j.seen ≤ v.serial
  pub cleared : j.cleared ≤ v.serial
  pub shows : shown_by v j ≡ after_mark (shown_by v k) m
  pub lists : (n : ℕ) → nat_lt j.cleared (v.ns_stamp n)
      ≡ listed_step n (nat_lt k.cleared (v.ns_stamp n)) m

in_reach : (n : ℕ) → n ≤ n
in_reach n = omega arith

either_same : (b : Bool) → cond b Passes Passes ≡ Passes
either_same true = refl
either_same false = refl

differs : (n a b : ℕ) → (n == a) ≡ true → (a == b) ≡ false → (n == b) ≡ false
differs n a b is apart = ap (λ (m : ℕ). m == b) (eqb-true n a is) ∙ apart

module _ (v : View) (k : Events) (ok : IsStamped (stamps_of v)) (seen : k.seen ≤ v.serial)
    (cleared : k.cleared ≤ v.serial) where
  abbrev now : Events
  now = caught_up_with v k

  now_seen : now.seen ≡ v.serial
  unfolding caught_up
  now_seen = refl

  now_cleared : now.cleared ≡ k.cleared
  unfolding caught_up
  now_cleared = refl

  now_low : now.cleared ≤ v.serial
  now_low = let e = now_cleared in omega (arith, e, cleared)

  now_shows : shown_by v now ≡ shown_by v k
  now_shows = catch_up_shows v.offers.nsids (stamps_of v) k ok

  stays : Follows v k k Passes
  stays = record { seen = seen; cleared = cleared; shows = refl; lists = λ n. refl }

  catches : Follows v k now Passes
  catches = record {
    seen = let e = now_seen in omega (arith, e);
    cleared = now_low;
    shows = now_shows;
    lists = λ n. ap (λ (c : ℕ). nat_lt c (v.ns_stamp n)) now_cleared;
  }

  requests : (id : ℕ) → Follows v k (requested id k) (Requests id)
  unfolding requested
  requests id = record {
    seen = seen;
    cleared = cleared;
    shows = request_waits v.offers.nsids id (stamps_of v) k;
    lists = λ n. refl;
  }

  -- right after catching up
  follows : (j : Events) (m : Mark) → j.seen ≤ v.serial → j.cleared ≤ v.serial
      → shown_by v j ≡ after_mark (shown_by v now) m
      → ((n : ℕ) → nat_lt j.cleared (v.ns_stamp n)
      ≡ listed_step n (nat_lt now.cleared (v.ns_stamp n)) m) → Follows v k j m
  follows j m s c shows lists = record {
    seen = s;
    cleared = c;
    shows = shows ∙ ap (λ (x : Notices). after_mark x m) now_shows;
    lists = λ n. lists n ∙ ap (λ (x : ℕ). listed_step n (nat_lt x (v.ns_stamp n)) m) now_cleared;
  }

  reads : (log : Log) → Follows v k (read_at log v.serial now) (Reads log)
  unfolding read_at caught_up
  reads Changed = follows (read_at Changed v.serial now) (Reads Changed) (in_reach v.serial)
      (in_reach v.serial)
      (read_unmasks v.offers.nsids (stamps_of v) now Changed ok now_seen)
      (λ n. le-ltb v.serial (v.ns_stamp n) (ok.ns n))
  reads Ana = follows (read_at Ana v.serial now) (Reads Ana) (in_reach v.serial) now_low
      (read_unmasks v.offers.nsids (stamps_of v) now Ana ok now_seen) (λ n. refl)

  configures : (ns ana : Bool) → Follows v k (configured ns ana now) (Configures ns ana)
  unfolding caught_up
  configures ns ana = follows (configured ns ana now) (Configures ns ana) (in_reach v.serial)
      now_low (bits_set v.offers.nsids (stamps_of v) now ns ana ok now_seen) (λ n. refl)

  times : (word : ℕ) → Follows v k (record now { kato = word }) Passes
  unfolding shown caught_up
  times word = follows (record now { kato = word }) Passes (in_reach v.serial) now_low refl
      (λ n. refl)

  pub polls : Follows v k (polled v k) Polls
  unfolding polled caught_up
  polls = follows (with_notices now (taken (noted now)).0) Polls (in_reach v.serial) now_low
      (poll_takes v.offers.nsids (stamps_of v) now ok now_seen) (λ n. refl)

  pub event_is : event_of v k ≡ (taken (shown_by v k)).1
  unfolding event_of
  event_is = poll_gives v.offers.nsids (stamps_of v) now ok now_seen
      ∙ ap (λ (n : Notices). (taken n).1) now_shows

  -- ---- a command
  module _ (e : Sqe) where
    -- a command that is no log read and sets no feature
    passing : (status : ℕ) → (e.opcode == GET_LOG_PAGE) ≡ false
        → (e.opcode == SET_FEATURES) ≡ false
        → cond (status == SUCCESS) (succeeded e) Passes ≡ Passes
    passing status read set = rw (read, set) (either_same (status == SUCCESS))

    left : (status : ℕ) → (e.opcode == GET_LOG_PAGE) ≡ false → (e.opcode == SET_FEATURES) ≡ false
        → Follows v k k (cond (status == SUCCESS) (succeeded e) Passes)
    left status read set = subst (λ (m : Mark). Follows v k k m) (sym (passing status read set))
        stays

    by_log : (s r : Bool) → Follows v k (cond s (cond r k (read_at (log_of e) v.serial now)) k)
        (cond s (cond r Passes (Reads (log_of e))) Passes)
    by_log true true = stays
    by_log true false = reads (log_of e)
    by_log false r = stays

    logged : (e.opcode == GET_LOG_PAGE) ≡ true
        → Follows v k (after_log v k e) (mark_with e (Completes (log_status e) 0))
    unfolding log_events
    logged is = rw (is) (by_log (log_status e == SUCCESS) (retains e))

    by_feature : (s u y z : Bool) → Follows v k (cond (s && u)
        (cond y (configured (bit 8 e.cdw11) (bit 11 e.cdw11) now)
        (cond z (record now { kato = e.cdw11 }) now)) now)
        (cond u (cond (s && y) (Configures (bit 8 e.cdw11) (bit 11 e.cdw11)) Passes) Passes)
    by_feature true true true z = configures (bit 8 e.cdw11) (bit 11 e.cdw11)
    by_feature true true false true = times e.cdw11
    by_feature true true false false = catches
    by_feature true false y z = catches
    by_feature false true y z = catches
    by_feature false false y z = catches

    featuring : (e.opcode == GET_LOG_PAGE) ≡ false
        → Follows v k (feature_after now e) (mark_with e (featured v k e))
    unfolding feature_after
    featuring is = rw (is) (by_feature (e.opcode == SET_FEATURES)
        ((feature_answer now e).0 == SUCCESS) (feature_id e == ASYNC_EVENTS)
        (feature_id e == KEEP_ALIVE_TIMER))

    by_request : (z f : Bool) → (e.opcode == GET_LOG_PAGE) ≡ false
        → (e.opcode == SET_FEATURES) ≡ false
        → Follows v k (cond z (cond f k (requested e.cid k)) k)
        (mark_with e (cond z (cond f (Completes REQUEST_LIMIT 0) Waits)
        (Completes DATA_SGL_LENGTH_INVALID 0)))
    by_request true true read set = left REQUEST_LIMIT read set
    by_request true false read set = requests e.cid
    by_request false f read set = left DATA_SGL_LENGTH_INVALID read set

    by_none : (z : Bool) (status result : ℕ) → (e.opcode == GET_LOG_PAGE) ≡ false
        → (e.opcode == SET_FEATURES) ≡ false
        → Follows v k k (mark_with e (cond z (Completes status result)
        (Completes DATA_SGL_LENGTH_INVALID 0)))
    by_none true status result read set = left status read set
    by_none false status result read set = left DATA_SGL_LENGTH_INVALID read set

    by_opcode : (l i a q t : Bool) → (e.opcode == GET_LOG_PAGE) ≡ l → (e.opcode == IDENTIFY) ≡ i
        → (e.opcode == ABORT) ≡ a → (e.opcode == EVENT_REQUEST) ≡ q → (e.opcode == KEEP_ALIVE) ≡ t
        → Follows v k (cond l (after_log v k e) (cond i k (cond a k (cond q (after_request k e)
        (cond t k (feature_after now e))))))
        (mark_with e (cond l (Completes (log_status e) 0) (cond i (Completes (identify_status v e) 0)
        (cond a (without_data e (Completes SUCCESS 1)) (cond q (without_data e (requested_by k))
        (cond t (without_data e (Completes SUCCESS 0)) (featured v k e)))))))
    by_opcode true i a q t il ii ia iq it = logged il
    by_opcode false true a q t il ii ia iq it =
        left (identify_status v e) il (differs e.opcode IDENTIFY SET_FEATURES ii refl)
    by_opcode false false true q t il ii ia iq it =
        by_none (e.sgl_len == 0) SUCCESS 1 il (differs e.opcode ABORT SET_FEATURES ia refl)
    by_opcode false false false true t il ii ia iq it =
        by_request (e.sgl_len == 0) (is_full k) il
        (differs e.opcode EVENT_REQUEST SET_FEATURES iq refl)
    by_opcode false false false false true il ii ia iq it =
        by_none (e.sgl_len == 0) SUCCESS 0 il (differs e.opcode KEEP_ALIVE SET_FEATURES it refl)
    by_opcode false false false false false il ii ia iq it = featuring il

    by_status : (b : Bool) → (status_before v e == SUCCESS) ≡ b
        → Follows v k (cond b (events_by v k e) k)
        (mark_with e (cond b (reply_by v k e) (Completes (status_before v e) 0)))
    by_status true is = by_opcode (e.opcode == GET_LOG_PAGE) (e.opcode == IDENTIFY)
        (e.opcode == ABORT) (e.opcode == EVENT_REQUEST) (e.opcode == KEEP_ALIVE) refl refl refl
        refl refl
    by_status false is = rw (is) stays

    pub commands : Follows v k (events_after v k e) (mark_with e (admin_reply v k e))
    unfolding events_after admin_reply
    commands = by_status (status_before v e == SUCCESS) refl
