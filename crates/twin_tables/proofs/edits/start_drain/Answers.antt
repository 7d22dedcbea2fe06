use Rattle.std.proofs.Common.{Option, ℕ, refl, ap, subst}
use Rattle.atomic_table.specs.Table.{Me}
use Rattle.table_rule.specs.declared.rule.Told.{Told}
use Rattle.table_rule.specs.Plays.{with_life, killed}
use Rattle.rcu_sections.specs.Grace.{round}
use Rattle.twin_tables.specs.Keeping.{LeavesOthers}
use Rattle.twin_tables.proofs.Keepers as keepers
use Rattle.twin_tables.proofs.edits.start_drain.Goals as goal

pub returns-clause-others : goal.returns-clause-others
returns-clause-others g c = let d = c.args.disk in
    let u = c.args.editor.now.seat.base.me.0 in let a = c.kill-killed.new.editor.seat.base.me.0 in let b = c.fold_until.new.editor.seat.base.me.0 in
    let k : Told = record u { notes = with_life d (killed u.seats d u.notes) u.notes } in
    let first = keepers.others_then d u k a (keepers.others_life d (killed u.seats d u.notes) u k u.found refl) (keepers.others_looks d (round c.args.editor.now.seats c.kill-killed.result.words) k a (ap (λ (z : Me (Option ℕ) Told). z.0) c.kill-killed.ensures.told)) in
    let second : LeavesOthers d a b = subst (λ n. LeavesOthers n a b) c.kill-killed.ensures.disk c.fold_until.ensures.others in
    keepers.others_then d u a b first second
