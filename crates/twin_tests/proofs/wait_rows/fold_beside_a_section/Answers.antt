use Rattle.std.proofs.Common.{Option, ◌≢◌, ℕ, sym, refl, ap, subst}
use Rattle.atomic_table.specs.Table.{Me}
use Rattle.ref_state.specs.declared.kinds.Tag.{Tag}
use Rattle.table_rule.specs.declared.rule.Told.{Told}
use Rattle.table_rule.specs.Plays.{drawn, MayGet}
use Rattle.twin_tables.specs.Twins.{twin_means}
use Rattle.twin_tests.proofs.wait_rows.fold_beside_a_section.Goals as goal

pub get-hold-requires-clause-shown : goal.get-hold-requires-clause-shown
get-hold-requires-clause-shown g c = let tag : Tag = record { kind = 0; caller = 1; number = 0 } in
    let at = ap (λ (z : Told). z.view.section) c.place.ensures.drew.told in let e = drawn c.place.result.0 c.place.result.1 tag in
    subst (λ (z : Me (Option ℕ) Told). MayGet twin_means z.0 0) (sym c.row-shown.ensures.view) record {
      entry = e;
      placed = at;
      shown = subst (λ (n : ℕ). n ≢ 0) (c.row-shown.ensures.row e at) c.if-shown-eq0.false;
      none = refl;
      held = λ bare. absurd (cc);
    }
