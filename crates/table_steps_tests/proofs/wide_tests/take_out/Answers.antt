use Rattle.std.proofs.Common.{rules, ◌≡◌, ◌∷◌, true, Some, ap, sym, ◌∙◌}
use Rattle.atomic_table.specs.Table.{rest}
use Rattle.table_steps_tests.proofs.wide_tests.take_out.Goals as goal

pub slot_out-requires-clause-hand : goal.slot_out-requires-clause-hand
slot_out-requires-clause-hand g c = let got : c.take_turn.result ≡ true = search rules in let t = c.take_turn.ensures.took got in (
  t.value,
  t.holds ∙ ap (λ l. (c.args.slot, Some t.value) ∷ l) (sym (ap rest t.holds)),
)
