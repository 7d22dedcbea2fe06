use Rattle.std.proofs.Common.{◌∷◌, ◌∙◌, List, sym, ap, subst}
use Rattle.table_rule.specs.declared.rule.Told.{Told}
use Rattle.twin_tables.proofs.Keepers as keepers
use Rattle.rcu_sections.specs.Grace.{Look}
use Rattle.percpu_ref.specs.Lives.{IsKilled}
use Rattle.percpu_ref.specs.declared.lives.Killed.{Killed}
use Rattle.twin_tables.specs.Keeping.{LeavesOthers}
use Rattle.twin_tables.proofs.edits.fold_until.Goals as goal

pub returns-in-Ok-clause-others : goal.returns-in-Ok-clause-others
returns-in-Ok-clause-others g c = let v = c.loop-tries.invariant in let d = c.args.killed.disk in let f = c.in-Ok.ensures.folded.1 in
    keepers.others_then d c.args.editor.now.seat.base.me.0 c.loop-tries.editor.seat.base.me.0 c.fold.new.editor.seat.base.me.0 v.others
    (subst (λ k. LeavesOthers k c.loop-tries.editor.seat.base.me.0 c.fold.new.editor.seat.base.me.0) v.disk (keepers.others_folds c.loop-tries.killed.disk c.loop-tries.editor.seat.base.me.0 c.fold.new.editor.seat.base.me.0 f))

pub loop-tries-preserved : goal.loop-tries-preserved
loop-tries-preserved g c = let v = c.loop-tries.invariant in let d = c.args.killed.disk in let r = c.in-Err.ensures.reading.1 in let k = c.in-Err.ensures.killed in
    let ls : List Look = (c.in-Err.field-0-1.seat, c.in-Err.field-0-1.count) ∷ r.looks in let x = c.fold.new.editor.seat in let y = c.loop-tries.editor.seat in record {
      own = c.fold.ensures.own.0 ∙ v.own;
      seats = c.fold.ensures.kept.1 ∙ v.seats;
      disks = c.fold.ensures.kept.2 ∙ v.disks;
      left = x.left_is ∙ (ap (λ (z : Told). z.view.left) r.told ∙ (sym y.left_is ∙ v.left));
      edits = keepers.edits_after 0 ls y.base.me.0 x.base.me.0 r.told v.edits;
      disk = ap (λ (z : Killed). z.disk) k.0 ∙ v.disk;
      killed = subst (λ (z : Killed). IsKilled z.disk z.words x.base.me.0) (sym k.0) k.1;
      others = keepers.others_then d c.args.editor.now.seat.base.me.0 y.base.me.0 x.base.me.0 v.others (keepers.others_looks d ls y.base.me.0 x.base.me.0 r.told);
    }
