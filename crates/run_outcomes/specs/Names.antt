-- The files that a run of a plan writes, by their names.
use Rattle.std.specs.Prelude.{◌≡◌, ◌≢◌, ℕ, ◌+◌, List, [], ◌∷◌, Option, Some, None}
use Rattle.std.specs.List.{AllByRecursion}
use Rattle.plan_files.specs.declared.items.Plan.{Plan}
use Rattle.plan_files.specs.declared.items.QueueLine.{QueueLine}
use Rattle.plan_files.specs.Plans.{IsPlan}
use Rattle.run_outcomes.specs.declared.numbers.TheConstants.{JOURNAL}
use Rattle.run_outcomes.specs.Numbers.{responses_no}
use Rattle.run_outcomes.specs.Written.{ToWrite, AreApart}

-- the journal with this text, where a plan has one
abbrev pub journal_to_write : Option (List ℕ) → List ℕ → List ToWrite
journal_to_write None text = []
journal_to_write (Some name) text = (record { file = JOURNAL; name = name; bytes = text }) ∷ []

-- the responses of the queues from this number on, with these texts, and then the rest
abbrev pub responses_to_write : ℕ → List QueueLine → List (List ℕ) → List ToWrite → List ToWrite
responses_to_write queue [] texts rest = rest
responses_to_write queue (q ∷ queues) [] rest = rest
responses_to_write queue (q ∷ queues) (text ∷ texts) rest = (record {
  file = responses_no queue;
  name = q.responses;
  bytes = text;
}) ∷ responses_to_write (queue + 1) queues texts rest

-- the files that a run writes, in order: the responses of each queue, and then the journal
abbrev pub to_write : Plan → List (List ℕ) → List ℕ → List ToWrite
to_write plan texts journal = responses_to_write 1 plan.queues texts
    (journal_to_write plan.journal journal)

-- a plan has no two of its files under one name
abbrev pub PlansHaveApartNames : Type 0
PlansHaveApartNames = (bytes : List ℕ) (plan : Plan) (texts : List (List ℕ)) (journal : List ℕ)
    → IsPlan bytes plan → AreApart (to_write plan texts journal)
