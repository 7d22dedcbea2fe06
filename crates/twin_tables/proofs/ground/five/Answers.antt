use Rattle.std.proofs.Common.{Option, ◌<◌, ◌∙◌, ℕ, drop, lit<, sym, ap, subst}
use Rattle.atomic_table.specs.Table.{Me}
use Rattle.table_rule.specs.declared.rule.Told.{Told}
use Rattle.ref_state.specs.State.{total}
use Rattle.table_rule.specs.declared.rule.Plan.{Plan}
use Rattle.table_rule.specs.Shown.{claims_of, head_or}
use Rattle.twin_tables.proofs.ground.five.Goals as goal

pub returns-clause-one : goal.returns-clause-one
returns-clause-one c = let o = c.in_ok-table.ensures.others 0 c.first_four-queues.result.one c.first_four-queues.ensures.one in let s = c.first_four-queues.result.one in
    record {
      own = o.0;
      number_is = s.number_is ∙ ap (λ (z : Me (Option ℕ) Told). z.0.view.number) o.1;
      left_is = s.left_is ∙ (ap (λ (z : Me (Option ℕ) Told). z.0.view.left) o.1 ∙ ap (λ (k : Plan). head_or (drop 1 k.quotas)) c.in_ok-table.ensures.key ∙ ap (λ qs. head_or (drop 1 qs)) c.in_ok-quotas.ensures);
      rests = record {
        out = ap (λ (z : Me (Option ℕ) Told). z.0.view.section) o.1;
        free = ap (λ (z : Me (Option ℕ) Told). z.0.view.loaded) o.1;
        none = ap (λ (z : Me (Option ℕ) Told). z.0.view.holds) o.1;
        claim = subst (λ cs. 0 < total (claims_of 1) cs) (sym (ap (λ (z : Me (Option ℕ) Told). z.0.claims) o.1)) (lit< tt);
      };
    }

pub returns-clause-two : goal.returns-clause-two
returns-clause-two c = let o = c.in_ok-table.ensures.others 1 c.first_four-queues.result.two c.first_four-queues.ensures.two in let s = c.first_four-queues.result.two in
    record {
      own = o.0;
      number_is = s.number_is ∙ ap (λ (z : Me (Option ℕ) Told). z.0.view.number) o.1;
      left_is = s.left_is ∙ (ap (λ (z : Me (Option ℕ) Told). z.0.view.left) o.1 ∙ ap (λ (k : Plan). head_or (drop 2 k.quotas)) c.in_ok-table.ensures.key ∙ ap (λ qs. head_or (drop 2 qs)) c.in_ok-quotas.ensures);
      rests = record {
        out = ap (λ (z : Me (Option ℕ) Told). z.0.view.section) o.1;
        free = ap (λ (z : Me (Option ℕ) Told). z.0.view.loaded) o.1;
        none = ap (λ (z : Me (Option ℕ) Told). z.0.view.holds) o.1;
        claim = subst (λ cs. 0 < total (claims_of 2) cs) (sym (ap (λ (z : Me (Option ℕ) Told). z.0.claims) o.1)) (lit< tt);
      };
    }

pub returns-clause-three : goal.returns-clause-three
returns-clause-three c = let o = c.in_ok-table.ensures.others 2 c.first_four-queues.result.three c.first_four-queues.ensures.three in let s = c.first_four-queues.result.three in
    record {
      own = o.0;
      number_is = s.number_is ∙ ap (λ (z : Me (Option ℕ) Told). z.0.view.number) o.1;
      left_is = s.left_is ∙ (ap (λ (z : Me (Option ℕ) Told). z.0.view.left) o.1 ∙ ap (λ (k : Plan). head_or (drop 3 k.quotas)) c.in_ok-table.ensures.key ∙ ap (λ qs. head_or (drop 3 qs)) c.in_ok-quotas.ensures);
      rests = record {
        out = ap (λ (z : Me (Option ℕ) Told). z.0.view.section) o.1;
        free = ap (λ (z : Me (Option ℕ) Told). z.0.view.loaded) o.1;
        none = ap (λ (z : Me (Option ℕ) Told). z.0.view.holds) o.1;
        claim = subst (λ cs. 0 < total (claims_of 3) cs) (sym (ap (λ (z : Me (Option ℕ) Told). z.0.claims) o.1)) (lit< tt);
      };
    }

pub returns-clause-four : goal.returns-clause-four
returns-clause-four c = let o = c.in_ok-table.ensures.others 3 c.first_four-queues.result.four c.first_four-queues.ensures.four in let s = c.first_four-queues.result.four in
    record {
      own = o.0;
      number_is = s.number_is ∙ ap (λ (z : Me (Option ℕ) Told). z.0.view.number) o.1;
      left_is = s.left_is ∙ (ap (λ (z : Me (Option ℕ) Told). z.0.view.left) o.1 ∙ ap (λ (k : Plan). head_or (drop 4 k.quotas)) c.in_ok-table.ensures.key ∙ ap (λ qs. head_or (drop 4 qs)) c.in_ok-quotas.ensures);
      rests = record {
        out = ap (λ (z : Me (Option ℕ) Told). z.0.view.section) o.1;
        free = ap (λ (z : Me (Option ℕ) Told). z.0.view.loaded) o.1;
        none = ap (λ (z : Me (Option ℕ) Told). z.0.view.holds) o.1;
        claim = subst (λ cs. 0 < total (claims_of 4) cs) (sym (ap (λ (z : Me (Option ℕ) Told). z.0.claims) o.1)) (lit< tt);
      };
    }
