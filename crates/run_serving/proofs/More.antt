-- One more entry of a queue's list.
use Rattle.std.proofs.Common.{◌≡◌, ℕ, ◌+◌, List, [], ◌∷◌, ◌++◌, length, refl, sym, ap, ◌∙◌, append_assoc, arith}
use Rattle.std.proofs.lemmas.List.{append-nil}
use Rattle.std.specs.List.{sum_by}
use Rattle.std.proofs.lemmas.List.Sums.{sum_by-append}
use Rattle.mem_bdev.specs.Texts.{Text, appended}
use Rattle.sqe_cqe.specs.declared.sqe.Sqe.{Sqe}
use Rattle.run_records.specs.Records.{record_bytes}
use Rattle.run_records.specs.declared.records.Kind.{Kind}
use Rattle.run_records.specs.declared.records.Kind.TheVariants as kinds
use Rattle.tree_target.specs.declared.calls.Reply.{Reply}
use Rattle.tree_target.specs.Model.{Call, Submit, Execute, Poll, Control, AnEdit, DrainEnd}
use Rattle.run_transcript.specs.Runs.{Placed}
use Rattle.run_transcript.specs.Printing.{kind_of, number_of, taken_after, head_of, entry_bytes, responses, responses_from}
use Rattle.run_transcript.specs.Sums.{submit_count, execute_count, refusal_count, event_count, waiting_count, payload_count}
use Rattle.run_transcript.specs.Turns.{Progress, after_call, after_entry, progress_from, progress_of, nothing_done}
use Rattle.run_serving.specs.declared.output.Output.{Output}
use Rattle.run_serving.specs.Tallies.{submits_by, executes_by, refusals_by, events_by}
use Rattle.run_serving.specs.Prints.{Prints, Adds, Counts}

-- what a record's kind and the call count is the same
pub record Counted (call : Call) (kind : Kind) (payload : ℕ) : Type 0 where
  pub kind_is : kind_of call ≡ kind
  pub payload_is : payload_count call ≡ payload
  pub submits : submit_count call ≡ submits_by kind
  pub executes : execute_count call ≡ executes_by kind
  pub refusals : (r : Reply) → refusal_count call r ≡ refusals_by kind r
  pub events : (r : Reply) → event_count call r ≡ events_by kind r

pub counted_submit : (queue number : ℕ) (e : Sqe) → Counted (Submit queue number e) kinds.Submit 0
counted_submit queue number e = record {
  kind_is = refl;
  payload_is = refl;
  submits = refl;
  executes = refl;
  refusals = λ r. refl;
  events = λ r. refl;
}

pub counted_execute : (queue number : ℕ) (payload : List ℕ)
    → Counted (Execute queue number payload) kinds.Execute (length payload)
counted_execute queue number payload = record {
  kind_is = refl;
  payload_is = refl;
  submits = refl;
  executes = refl;
  refusals = λ r. refl;
  events = λ r. refl;
}

pub counted_poll : (queue : ℕ) → Counted (Poll queue) kinds.Poll 0
counted_poll queue = record {
  kind_is = refl;
  payload_is = refl;
  submits = refl;
  executes = refl;
  refusals = λ r. refl;
  events = λ r. refl;
}

pub counted_control : (queue number : ℕ) (e : Sqe) (payload : List ℕ)
    → Counted (Control queue number e payload) kinds.Control 0
counted_control queue number e payload = record {
  kind_is = refl;
  payload_is = refl;
  submits = refl;
  executes = refl;
  refusals = λ r. refl;
  events = λ r. refl;
}

taken-after : (p : Progress) (call : Call) (reply : Reply)
    → (after_call p call reply).taken ≡ taken_after p.taken call
taken-after p (Submit queue number e) reply = refl
taken-after p (Execute queue number payload) reply = refl
taken-after p (Poll queue) reply = refl
taken-after p (Control queue number e payload) reply = refl
taken-after p (AnEdit line e) reply = refl
taken-after p (DrainEnd line sub nsid) reply = refl

responses-push : (p : Progress) (list : List Placed) (x : Placed)
    → responses_from p.taken (list ++ x ∷ []) ≡ responses_from p.taken list
    ++ entry_bytes (progress_from p list).taken x
responses-push p [] x = append-nil (entry_bytes p.taken x)
responses-push p (y ∷ list) x =
    let n = taken-after p y.entry.call y.entry.reply in
    let q : Progress = after_entry p y.entry in
    let e : responses_from (taken_after p.taken y.entry.call) (list ++ x ∷ [])
    ≡ responses_from (taken_after p.taken y.entry.call) list
    ++ entry_bytes (progress_from q list).taken x =
    (rw n at (responses-push q list x)) in
    ap (λ (r : List ℕ). entry_bytes p.taken y ++ r) e
    ∙ sym (append_assoc (entry_bytes p.taken y)
    (responses_from (taken_after p.taken y.entry.call) list)
    (entry_bytes (progress_from q list).taken x))

sum-more : (f : Placed → ℕ) (n k : ℕ) (list : List Placed) (p : Placed) → n ≡ sum_by f list
    → k ≡ f p → n + k ≡ sum_by f (list ++ p ∷ [])
sum-more f n k list p a b = omega (arith, sum_by-append f list (p ∷ []), a, b)

-- the record of an entry by its parts
entry-is : (taken : ℕ) (p : Placed) (kind : Kind) (number : ℕ)
    → kind_of p.entry.call ≡ kind → number_of taken p.entry.call ≡ number
    → entry_bytes taken p ≡ record_bytes (head_of p.place kind number p.entry.reply
    (length p.entry.bytes)) p.entry.bytes
unfolding entry_bytes
entry-is taken p kind number k n = rw (k, n) refl

-- an output after one more record prints one more entry
pub prints_more : (old new : Output) (kind : Kind) (number payload : ℕ) (list : List Placed)
    (p : Placed) → Adds old new p.place kind number p.entry.reply payload p.entry.bytes
    → Counted p.entry.call kind payload → number_of (progress_of list).taken p.entry.call ≡ number
    → Prints old list → Prints new (list ++ p ∷ [])
prints_more old new kind number payload list p a c n prints =
    record {
      records =
          ap (λ (x : Text). x.bytes) a.records
          ∙ (rw prints.records (ap (λ (x : List ℕ). responses list ++ x)
          (sym (entry-is (progress_of list).taken p kind number c.kind_is n))))
          ∙ sym (responses-push nothing_done list p);
      submitted = a.counts.submitted ∙ sum-more (λ x. submit_count x.entry.call) old.submitted
          (submits_by kind) list p prints.submitted (sym c.submits);
      executed = a.counts.executed ∙ sum-more (λ x. execute_count x.entry.call) old.executed
          (executes_by kind) list p prints.executed (sym c.executes);
      refused = a.counts.refused ∙ sum-more (λ x. refusal_count x.entry.call x.entry.reply)
          old.refused (refusals_by kind p.entry.reply) list p prints.refused
          (sym (c.refusals p.entry.reply));
      events = a.counts.events ∙ sum-more (λ x. event_count x.entry.call x.entry.reply)
          old.events (events_by kind p.entry.reply) list p prints.events
          (sym (c.events p.entry.reply));
      waiting = a.counts.waiting ∙ sum-more (λ x. waiting_count x.entry.reply)
          old.waiting (waiting_count p.entry.reply) list p prints.waiting refl;
      taken = a.counts.taken ∙ sum-more (λ x. payload_count x.entry.call) old.taken payload list p
          prints.taken (sym c.payload_is);
      given = a.counts.given ∙ sum-more (λ x. length x.entry.bytes) old.given
          (length p.entry.bytes) list p prints.given refl;
    }

-- a record was appended, and then the call was counted
pub counts_more : (old mid new : Output) (place : ℕ) (kind : Kind) (number : ℕ) (reply : Reply)
    (payload len : ℕ) (bytes : List ℕ)
    → new.records ≡ appended old.records (record_bytes (head_of place kind number reply
    (length bytes)) bytes)
    → mid.calls ≡ old.calls → mid.submitted ≡ old.submitted → mid.executed ≡ old.executed
    → mid.refused ≡ old.refused → mid.events ≡ old.events → mid.waiting ≡ old.waiting
    → mid.taken ≡ old.taken → mid.given ≡ old.given
    → len ≡ length bytes → Counts mid new kind reply payload len
    → Adds old new place kind number reply payload bytes
counts_more old mid new place kind number reply payload len bytes records a s e r v w t g is c =
    record {
      records = records;
      counts = record {
        calls = omega (arith, c.calls, a);
        submitted = omega (arith, c.submitted, s);
        executed = omega (arith, c.executed, e);
        refused = omega (arith, c.refused, r);
        events = omega (arith, c.events, v);
        waiting = omega (arith, c.waiting, w);
        taken = omega (arith, c.taken, t);
        given = omega (arith, c.given, g, is);
      };
    }
