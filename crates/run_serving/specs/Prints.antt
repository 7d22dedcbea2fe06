-- What an output holds of a queue's list.
use Rattle.std.specs.Prelude.{◌≡◌, ℕ, ◌+◌, List, length}
use Rattle.mem_bdev.specs.Texts.{appended}
use Rattle.run_records.specs.Records.{record_bytes}
use Rattle.run_records.specs.declared.records.Kind.{Kind}
use Rattle.tree_target.specs.declared.calls.Reply.{Reply}
use Rattle.run_transcript.specs.Runs.{Placed}
use Rattle.run_transcript.specs.Printing.{responses, head_of}
use Rattle.run_transcript.specs.Sums.{waiting_count, submits_in, executes_in, refusals_in, events_in, waiting_in, bytes_taken, bytes_given}
use Rattle.run_serving.specs.Tallies.{submits_by, executes_by, refusals_by, events_by}
use Rattle.run_serving.specs.declared.output.Output.{Output}

-- ---- of a list
-- its records are the list's, and its counts the list's
pub record Prints (o : Output) (list : List Placed) : Type 0 where
  pub records : o.records.bytes ≡ responses list
  pub submitted : o.submitted ≡ submits_in list
  pub executed : o.executed ≡ executes_in list
  pub refused : o.refused ≡ refusals_in list
  pub events : o.events ≡ events_in list
  pub waiting : o.waiting ≡ waiting_in list
  pub taken : o.taken ≡ bytes_taken list
  pub given : o.given ≡ bytes_given list

-- ---- of one call
-- one call more is counted, which took so many bytes of data and gave so many
pub record Counts (old new : Output) (kind : Kind) (reply : Reply) (payload len : ℕ) : Type 0
  where
    pub calls : new.calls ≡ old.calls + 1
    pub submitted : new.submitted ≡ old.submitted + submits_by kind
    pub executed : new.executed ≡ old.executed + executes_by kind
    pub refused : new.refused ≡ old.refused + refusals_by kind reply
    pub events : new.events ≡ old.events + events_by kind reply
    pub waiting : new.waiting ≡ old.waiting + waiting_count reply
    pub taken : new.taken ≡ old.taken + payload
    pub given : new.given ≡ old.given + len

-- one record more stands behind the others, and its call is counted
pub record Adds (old new : Output) (place : ℕ) (kind : Kind) (number : ℕ) (reply : Reply)
    (payload : ℕ) (bytes : List ℕ) : Type 0 where
  pub records : new.records ≡ appended old.records
      (record_bytes (head_of place kind number reply (length bytes)) bytes)
  pub counts : Counts old new kind reply payload (length bytes)
