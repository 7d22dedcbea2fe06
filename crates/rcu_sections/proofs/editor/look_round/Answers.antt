use Rattle.std.proofs.Common.{Option, ◌<◌, ◌+◌, ◌∙◌, sym, ap, arith, add_assoc}
use Rattle.std.proofs.lemmas.List.{length-set}
use Rattle.atomic_table.specs.Table.{Me}
use Rattle.table_rule.specs.declared.rule.Told.{Told}
use Rattle.table_rule.specs.Counted.{Counted}
use Rattle.rcu_sections.proofs.Looking.{round_next}
use Rattle.rcu_sections.proofs.editor.look_round.Goals as goal

pub loop-other-preserved : goal.loop-other-preserved
loop-other-preserved g c = let v = c.loop-other.invariant in let x = c.look_section.new.seat in let y = c.loop-other.seat in
    let e = c.look_section.ensures.view in let near : c.loop-other.other < c.args.seats = c.loop-other-test.true in record {
      own = c.look_section.ensures.own ∙ v.own;
      number = x.number_is ∙ (ap (λ (z : Me (Option g.row.S.Denot) Told). z.0.view.number) e ∙ (sym y.number_is ∙ v.number));
      below = omega arith;
      long = length-set c.loop-other.words c.loop-other.other c.look_section.result ∙ v.long;
      told = round_next c.loop-other.other c.look_section.result c.loop-other.words c.args.seat.now.base.me y.base.me x.base.me (let few = c.requires.seats.1 in let long = v.long in omega arith) v.told e;
      ticks = c.look_section.ensures.ticks ∙ (ap (λ (z : Counted). record z { row = z.row + 1 }) v.ticks ∙ λ i. record c.args.steps.now { row = add_assoc c.args.steps.now.row c.loop-other.other 1 i });
    }
