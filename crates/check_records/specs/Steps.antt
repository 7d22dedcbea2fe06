-- One record made again on the target.
use Rattle.std.specs.Prelude.{◌≡◌, ℕ, Bool, true, false, IsTrue, List, Option, Some, None}
use Rattle.tree_target.specs.Model.{Call, Entry, Target}
use Rattle.tree_target.specs.Kept.{Kept}
use Rattle.tree_target.specs.Steps.{is_lawful, entry_of, target_after}
use Rattle.tree_target.specs.Stands.{StandsFor}
use Rattle.tree_target.specs.declared.calls.Reply.{Reply}
use Rattle.tree_target.specs.declared.calls.Reply.TheVariants as replies
use Rattle.sqe_cqe.specs.declared.cqe.Cqe.{Cqe}
use Rattle.run_records.specs.declared.records.Head.{Head}
use Rattle.run_records.specs.declared.records.Answer.{Answer}
use Rattle.run_records.specs.declared.records.Answer.TheVariants as answers
use Rattle.run_transcript.specs.Printing.{no_completion}
use Rattle.run_verdicts.specs.declared.verdict.Field.{Field}
use Rattle.run_verdicts.specs.declared.verdict.Field.TheVariants as field
use Rattle.run_verdicts.specs.Faults.{Differs, is_drain_end}

-- what is told agrees with what the target makes of its caller's next call, and the new target
-- stands for what that leaves
pub record Goes (next : Option Call) (t : Target) (e : Entry) (new : Kept) : Type 0 where
  pub owed : next ≡ Some e.call
  pub lawful : IsTrue (is_lawful t e.call)
  pub is : e ≡ entry_of t e.call
  pub stands : StandsFor new (target_after t e.call)

-- it is the next call, and lawful, and told otherwise in this field first
pub record Departs (next : Option Call) (t : Target) (e : Entry) (f : Field) : Type 0 where
  pub owed : next ≡ Some e.call
  pub lawful : IsTrue (is_lawful t e.call)
  pub differs : Differs e (entry_of t e.call) f

-- it is the next call, the end of a drain, and not lawful
pub record Drains (next : Option Call) (t : Target) (e : Entry) : Type 0 where
  pub owed : next ≡ Some e.call
  pub drain : is_drain_end e.call ≡ true
  pub unlawful : is_lawful t e.call ≡ false

-- what was found of a record
abbrev pub Steps : Option Call → Target → Entry → Option Field → Kept → Type 0
Steps next t e None new = Goes next t e new
Steps next t e (Some field.Place) new = ⊥
Steps next t e (Some field.Order) new = next ≡ Some e.call → ⊥
Steps next t e (Some field.Answer) new = Departs next t e field.Answer
Steps next t e (Some field.Completion) new = Departs next t e field.Completion
Steps next t e (Some field.Bytes) new = Departs next t e field.Bytes
Steps next t e (Some field.Errno) new = Departs next t e field.Errno
Steps next t e (Some field.Drain) new = Drains next t e

-- what is told of a call against what it replied and gave
abbrev pub Compares : Reply → List ℕ → Reply → List ℕ → Option Field → Type 0
Compares told_reply told_bytes reply bytes None = (told_reply ≡ reply) × (told_bytes ≡ bytes)
Compares told_reply told_bytes reply bytes (Some f) = (call : Call) → Differs
    (record { call = call; reply = told_reply; bytes = told_bytes })
    (record { call = call; reply = reply; bytes = bytes }) f

-- a record has no completion but where something was answered
abbrev pub IsBlankBy : Answer → Cqe → Type 0
IsBlankBy answers.Answered cqe = Unit {0}
IsBlankBy answers.Held cqe = cqe ≡ no_completion
IsBlankBy answers.Waiting cqe = cqe ≡ no_completion
IsBlankBy answers.NoEvent cqe = cqe ≡ no_completion

abbrev pub IsBlankUnlessAnswered : Head → Type 0
IsBlankUnlessAnswered h = IsBlankBy h.answer h.cqe

-- a reply that a record can tell
abbrev pub is_queue_reply : Reply → Bool
is_queue_reply replies.Held = true
is_queue_reply (replies.Answered cqe) = true
is_queue_reply replies.Waiting = true
is_queue_reply replies.NoEvent = true
is_queue_reply replies.Accepted = false
is_queue_reply (replies.Errno errno) = false
is_queue_reply replies.Ended = false
