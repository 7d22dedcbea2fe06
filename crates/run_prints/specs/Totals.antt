-- The numbers of a run's summary that are counted queue by queue.
use Rattle.std.specs.Prelude.{◌≡◌, ◌≤◌, ℕ, ◌+◌, List, take}
use Rattle.std.specs.List.{sum_by}
use Rattle.run_serving.specs.declared.output.Output.{Output}
use Rattle.run_serving.specs.declared.whole.Served.{Served}
use Rattle.run_transcript.specs.Printing.{summary_of}
use Rattle.run_prints.specs.declared.totals.Totals.{Totals}

-- each number is at most so much
pub record AreBelow (t : Totals) (n : ℕ) : Type 0 where
  pub submitted : t.submitted ≤ n
  pub executed : t.executed ≤ n
  pub refused : t.refused ≤ n
  pub events : t.events ≤ n
  pub waiting : t.waiting ≤ n
  pub taken : t.taken ≤ n
  pub given : t.given ≤ n

-- the numbers with those of one queue more
pub record Adds (old : Totals) (o : Output) (new : Totals) : Type 0 where
  pub submitted : new.submitted ≡ old.submitted + o.submitted
  pub executed : new.executed ≡ old.executed + o.executed
  pub refused : new.refused ≡ old.refused + o.refused
  pub events : new.events ≡ old.events + o.events
  pub waiting : new.waiting ≡ old.waiting + o.waiting
  pub taken : new.taken ≡ old.taken + o.taken
  pub given : new.given ≡ old.given + o.given

-- the numbers of these queues together
pub record AreTotals (os : List Output) (t : Totals) : Type 0 where
  pub submitted : t.submitted ≡ sum_by (λ o. o.submitted) os
  pub executed : t.executed ≡ sum_by (λ o. o.executed) os
  pub refused : t.refused ≡ sum_by (λ o. o.refused) os
  pub events : t.events ≡ sum_by (λ o. o.events) os
  pub waiting : t.waiting ≡ sum_by (λ o. o.waiting) os
  pub taken : t.taken ≡ sum_by (λ o. o.taken) os
  pub given : t.given ≡ sum_by (λ o. o.given) os

-- the summary of what a run gave, where so many members of a configuration were passed over
pub record SummaryOf (o : Served) (passed_over : ℕ) (text : List ℕ) : Type 0 where
  pub totals : Totals
  pub are : AreTotals o.outputs.items totals
  pub is : text ≡ summary_of o.places o.accepted o.refused o.drains totals.submitted
      totals.executed totals.refused totals.events totals.waiting totals.taken totals.given
      passed_over
