use Rattle.std.proofs.Common.{ap, ◌∙◌}
use Rattle.fabrics_connect.specs.declared.answer.Control.{Control}
use Rattle.fabrics_connect.proofs.Kept.{left_by, attached_kept}
use Rattle.fabrics_connect.proofs.actions.control.Goals as goal

pub returns-clause-refused : goal.returns-clause-refused
returns-clause-refused c = λ h.
    let a = c.check-answer.result in
    let told = c.act.ensures.told in
    let left = left_by c.args.t.now c.args.controllers.now c.args.b.now c.args.e.now a
    (λ done. h (ap (λ (x : Control). x.cqe.status) told ∙ done)) in (
      c.act.ensures.tree ∙ left.tree,
      c.act.ensures.controllers ∙ left.controllers,
      c.act.ensures.binding ∙ left.binding,
      ap (λ (x : Control). x.published) told ∙ left.published,
      ap (λ (x : Control). x.made) told ∙ left.made,
    )

pub returns-clause-attached : goal.returns-clause-attached
returns-clause-attached c =
    rw (c.act.ensures.tree, c.act.ensures.controllers)
    (attached_kept c.args.t.now c.args.controllers.now c.args.b.now c.check-answer.result
    c.requires.attached)
