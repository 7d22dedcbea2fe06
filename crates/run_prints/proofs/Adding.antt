-- The numbers of some queues, and of one more.
use Rattle.std.proofs.Common.{◌≡◌, ◌<◌, ◌≤◌, ℕ, ◌+◌, ◌*◌, List, length, take, get_or, ap, sym, subst, ◌∙◌, arith}
use Rattle.std.proofs.lemmas.List.Sums.{sum_by_more}
use Rattle.std.specs.List.{sum_by}
use Rattle.run_serving.specs.declared.output.Output.{Output}
use Rattle.run_prints.specs.declared.totals.Totals.{Totals}
use Rattle.run_prints.specs.Totals.{Adds, AreBelow, AreTotals}

sum_next : (f : Output → ℕ) (os : List Output) (i : ℕ) (o : Output) → i < length os
    → o ≡ get_or os i o → sum_by f (take (i + 1) os) ≡ sum_by f (take i os) + f o
sum_next f os i o lt is = sum_by_more f os i o lt
    ∙ ap (λ x. sum_by f (take i os) + f x) (sym is)

pub adds : (os : List Output) (i : ℕ) (o : Output) (t u : Totals) → i < length os
    → o ≡ get_or os i o → AreTotals (take i os) t → Adds t o u → AreTotals (take (i + 1) os) u
adds os i o t u lt is a x = record {
  submitted = omega (arith, sum_next (λ z. z.submitted) os i o lt is, a.submitted, x.submitted);
  executed = omega (arith, sum_next (λ z. z.executed) os i o lt is, a.executed, x.executed);
  refused = omega (arith, sum_next (λ z. z.refused) os i o lt is, a.refused, x.refused);
  events = omega (arith, sum_next (λ z. z.events) os i o lt is, a.events, x.events);
  waiting = omega (arith, sum_next (λ z. z.waiting) os i o lt is, a.waiting, x.waiting);
  taken = omega (arith, sum_next (λ z. z.taken) os i o lt is, a.taken, x.taken);
  given = omega (arith, sum_next (λ z. z.given) os i o lt is, a.given, x.given);
}

pub below : (t : Totals) (i : ℕ) → AreBelow t (i * 18446744073709551616 + 18446744073709551616)
    → AreBelow t ((i + 1) * 18446744073709551616)
below t i b = subst (λ n. AreBelow t n) next b where
  next : i * 18446744073709551616 + 18446744073709551616 ≡ (i + 1) * 18446744073709551616
  next = omega arith
