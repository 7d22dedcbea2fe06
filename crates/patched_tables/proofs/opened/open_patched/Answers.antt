use Rattle.std.proofs.Common.{Option, ◌<◌, ◌∙◌, ℕ, drop, lit<, sym, ap, subst}
use Rattle.atomic_table.specs.Table.{Me}
use Rattle.table_rule.specs.declared.rule.Told.{Told}
use Rattle.ref_state.specs.State.{total}
use Rattle.table_rule.specs.declared.rule.Plan.{Plan}
use Rattle.table_rule.specs.Shown.{claims_of, head_or}
use Rattle.patched_tables.proofs.opened.open_patched.Goals as goal

pub returns-clause-reader : goal.returns-clause-reader
returns-clause-reader g c = let o = c.in_ok-table.ensures.others 0 c.first_seat-reader.result c.first_seat-reader.ensures in let s = c.first_seat-reader.result in
    record {
      own = o.0;
      number_is = s.number_is ∙ ap (λ (z : Me (Option ℕ) Told). z.0.view.number) o.1;
      left_is = s.left_is ∙ (ap (λ (z : Me (Option ℕ) Told). z.0.view.left) o.1 ∙ ap (λ (k : Plan). head_or (drop 1 k.quotas)) c.in_ok-table.ensures.key ∙ ap (λ qs. head_or (drop 1 qs)) c.in_ok-quotas.ensures);
      rests = record {
        out = ap (λ (z : Me (Option ℕ) Told). z.0.view.section) o.1;
        free = ap (λ (z : Me (Option ℕ) Told). z.0.view.loaded) o.1;
        none = ap (λ (z : Me (Option ℕ) Told). z.0.view.holds) o.1;
        claim = subst (λ cs. 0 < total (claims_of 1) cs) (sym (ap (λ (z : Me (Option ℕ) Told). z.0.claims) o.1)) (lit< tt);
      };
    }
