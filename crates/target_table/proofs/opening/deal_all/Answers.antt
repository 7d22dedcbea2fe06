use Rattle.std.proofs.Common.{arith, ⊎_elim, ◌++◌, ◌∷◌, drop, length-append, ◌≡◌, ◌<◌, ◌≤◌, ◌+◌, ℕ, [], List, length, sym, ap, ◌∙◌, subst, slice_index_or, Option, refl}
use mathlib.Core.Option.{some, some-ne-none}
use lib.ListN.{get_elem?}
use Rattle.atomic_table.specs.Table.{Me}
use Rattle.table_rule.specs.declared.rule.Told.{Told}
use Rattle.table_rule.proofs.Laying.{drop_head, drop_next}
use Rattle.ref_state.proofs.Lists.{at_end}
use Rattle.table_rule.specs.Shown.{first, dealing, dealt_seat, opened_seat}
use Rattle.target_table.proofs.opening.deal_all.Goals as goal

pub loop-number-init : goal.loop-number-init
loop-number-init g c = let few = c.requires.few.0 in record {
  own = c.requires.own;
  told = c.requires.start;
  above = omega arith;
  below = omega arith;
  count = let h : length c.new-others.result.items ≡ 0 = ap length c.new-others.ensures.items in
      omega arith;
  seats = λ j s e. absurd (some-ne-none s (sym (ap (λ l. get_elem? l j)
      (sym c.new-others.ensures.items) ∙ e)));
}

pub deal-other-requires-clause-own : goal.deal-other-requires-clause-own
deal-other-requires-clause-own g c = c.loop-number.invariant.own

pub deal-other-requires-clause-number : goal.deal-other-requires-clause-number
deal-other-requires-clause-number g c = let few = c.requires.few.1 in
    let near = c.loop-number-test.true in (
      sym (ap (λ (z : Me
          (Option g.row.S.Denot) Told). z.0.dealt) c.loop-number.invariant.told),
      omega arith,
    )

pub deal-other-requires-clause-quota : goal.deal-other-requires-clause-quota
deal-other-requires-clause-quota g c = let near = c.loop-number-test.true in
    let same = c.requires.quotas in
    ap (λ (z : Me
    (Option g.row.S.Denot) Told). get_elem? z.0.undealt 0) c.loop-number.invariant.told
    ∙ (drop_head c.loop-number.number c.args.table.now.table.shared.key.quotas
    (subst (λ (l : List ℕ). c.loop-number.number < length l) same near)
    ∙ ap (λ (l : List ℕ). some (slice_index_or l c.loop-number.number 0)) (sym same))

pub loop-number-preserved : goal.loop-number-preserved
loop-number-preserved g c = let inv = c.loop-number.invariant in let e = c.deal-other.ensures in
    let near = c.loop-number-test.true in let key = c.args.table.now.table.shared.key in
    let k : ℕ = c.loop-number.number in let items = c.in_ok-push.ensures.items in record {
      own = e.own.0 ∙ inv.own;
      told = e.view ∙ (ap (λ (z : Me (Option g.row.S.Denot) Told). (dealing z.0, z.1)) inv.told
          ∙ ap (λ (l : List ℕ). (
            record (first g.M.Means.means key) { dealt = k + 1; undealt = l },
            [],
          )) (drop_next k key.quotas));
      above = omega arith;
      below = omega arith;
      count = let a = ap length items in let b = length-append c.loop-number.others.items
          (c.deal-other.result ∷ []) in let h = inv.count in omega arith;
      seats = λ j s at_j. ⊎_elim
          (λ t. inv.seats j s t)
          (λ t. let count = inv.count in let h : j ≡ length c.loop-number.others.items = t.0 in
          let is : k ≡ j + 1 = omega arith in (
            ap (λ x. x.base.table_id) (sym t.1) ∙ (e.own.1 ∙ inv.own),
            ap (λ x. x.base.me) (sym t.1) ∙ (e.new ∙ (ap
                (λ (z : Me (Option g.row.S.Denot) Told). (dealt_seat z.0, [])) inv.told
                ∙ ap (λ (i : ℕ). (opened_seat key i, [])) is)),
          ))
          (at_end c.loop-number.others.items c.deal-other.result j s
          (ap (λ l. get_elem? l j) (sym items) ∙ at_j));
    }
