use Rattle.std.proofs.Common.{Option, ◌≡◌, ◌+◌, ◌∷◌, [], ◌∙◌, refl, ap, sym, subst}
use Rattle.atomic_table.specs.Table.{Me}
use Rattle.ref_state.specs.declared.kinds.Take.TheVariants as take_of
use Rattle.ref_state.specs.Steps.{hold_of, is_on, Some_where}
use Rattle.table_rule.specs.declared.rule.Told.{Told}
use Rattle.table_rule.specs.Counted.{Counted}
use Rattle.table_rule.specs.Shown.{cutting, part_of}
use Rattle.percpu_ref.specs.Holds.{the_hold, words_found}
use Rattle.percpu_ref.proofs.Holding as holding
use Rattle.percpu_ref.proofs.references.get.Goals as goal

pub split-part-requires-clause-may : goal.split-part-requires-clause-may
split-part-requires-clause-may g c = let x = c.count_up.ensures.counted in let v = c.args.section.now.seat.now.base.me.0 in
    subst (λ (z : Me (Option g.row.S.Denot) Told). Some_where (is_on c.args.disk) z.0.view.holds) (sym x.2)
    (holding.some_on c.args.disk c.requires.shown.entry v (words_found c.args.disk x.0 x.1 v.found) c.requires.shown.placed c.requires.free)

pub invariant_of-result-clause-one : goal.invariant_of-result-clause-one
invariant_of-result-clause-one g c = let x = c.count_up.ensures.counted in let v = c.args.section.now.seat.now.base.me.0 in
    let is = ap (λ (z : Me (Option g.row.S.Denot) Told). z.0.view.holds) c.split-part.ensures.new
    ∙ (ap (λ (z : Me (Option g.row.S.Denot) Told). (part_of (take_of.Hold c.args.disk) z.0).view.holds) x.2
    ∙ holding.part_holds c.args.disk c.requires.shown.entry v (words_found c.args.disk x.0 x.1 v.found) c.requires.shown.placed c.requires.free) in
    subst (λ hs. hs ≡ the_hold hs ∷ []) (sym is) refl

pub invariant_of-result-clause-disk_is : goal.invariant_of-result-clause-disk_is
invariant_of-result-clause-disk_is g c = let x = c.count_up.ensures.counted in let v = c.args.section.now.seat.now.base.me.0 in
    let is = ap (λ (z : Me (Option g.row.S.Denot) Told). z.0.view.holds) c.split-part.ensures.new
    ∙ (ap (λ (z : Me (Option g.row.S.Denot) Told). (part_of (take_of.Hold c.args.disk) z.0).view.holds) x.2
    ∙ holding.part_holds c.args.disk c.requires.shown.entry v (words_found c.args.disk x.0 x.1 v.found) c.requires.shown.placed c.requires.free) in
    sym (ap (λ hs. (the_hold hs).disk) is)

pub invariant_of-result-clause-alone : goal.invariant_of-result-clause-alone
invariant_of-result-clause-alone g c = let x = c.count_up.ensures.counted in (
  c.split-part.result.left_is ∙ ap (λ (z : Me (Option g.row.S.Denot) Told). z.0.view.left) c.split-part.ensures.new,
  ap (λ (z : Me (Option g.row.S.Denot) Told). z.0.view.entries) c.split-part.ensures.new,
  ap (λ (z : Me (Option g.row.S.Denot) Told). z.0.claims) c.split-part.ensures.new ∙ holding.no_claims c.count_up.new.seat.base.me.0.claims,
)

pub returns-clause-hold : goal.returns-clause-hold
returns-clause-hold g c = let x = c.count_up.ensures.counted in let v = c.args.section.now.seat.now.base.me.0 in
    ap (λ (z : Me (Option g.row.S.Denot) Told). z.0.view.holds) c.split-part.ensures.new
    ∙ (ap (λ (z : Me (Option g.row.S.Denot) Told). (part_of (take_of.Hold c.args.disk) z.0).view.holds) x.2
    ∙ (holding.part_holds c.args.disk c.requires.shown.entry v (words_found c.args.disk x.0 x.1 v.found) c.requires.shown.placed c.requires.free
    ∙ sym (ap (hold_of c.args.disk) c.requires.shown.placed)))

pub returns-clause-gets : goal.returns-clause-gets
returns-clause-gets g c = let x = c.count_up.ensures.counted in let v = c.args.section.now.seat.now.base.me.0 in record {
  mode = x.0;
  before = x.1;
  told = ap (λ (z : Me (Option g.row.S.Denot) Told). z.0) c.split-part.ensures.view
      ∙ (ap (λ (z : Me (Option g.row.S.Denot) Told). cutting (take_of.Hold c.args.disk) z.0) x.2
      ∙ holding.left_over c.args.disk c.requires.shown.entry v (words_found c.args.disk x.0 x.1 v.found) c.requires.shown.placed c.requires.free);
  ticks = c.split-part.ensures.ticks ∙ ap (λ (z : Counted). record z { clock = z.clock + 1 }) x.3;
}
