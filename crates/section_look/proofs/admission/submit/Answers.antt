use Rattle.std.proofs.Common.{Option, sym, ap, ◌∙◌, subst}
use Rattle.atomic_table.specs.Table.{Me}
use Rattle.table_rule.specs.declared.rule.Told.{Told}
use Rattle.target_table.specs.declared.table.Seat.{Seat}
use Rattle.section_look.specs.Submits.{Submits, admit_of}
use Rattle.section_look.proofs.admission.submit.Goals as goal

pub returns-clause-submits : goal.returns-clause-submits
returns-clause-submits g c = let m = g.M.Means.means in let mid = c.submit_in-at.new.section.seat.now.base.me.0 in
    let back = c.seat-1.given.1 (sym (c.submit_in-at.ensures.same ∙ c.enter-section.ensures.same)) in
    let entered = ap (λ (z : Me (Option g.row.S.Denot) Told). z.0) c.enter-section.ensures.view in
    let left = ap (λ (z : Me (Option g.row.S.Denot) Told). z.0) c.leave.ensures.view in (
      mid,
      subst (λ (v : Told). Submits m c.args.call c.args.b.now c.args.e.now v mid c.submit_in-at.result.0 c.submit_in-at.result.1 (admit_of c.submit_in-at.result.2)) entered c.submit_in-at.ensures.submits,
      ap (λ (s : Seat g.row.S.Denot). s.base.me.0) back ∙ left,
    )
