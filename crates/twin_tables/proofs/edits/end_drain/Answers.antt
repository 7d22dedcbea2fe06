use Rattle.std.proofs.Common.{Option, ℕ, sym, ap, subst}
use Rattle.atomic_table.specs.Table.{Me}
use Rattle.ref_state.specs.declared.kinds.Tag.{Tag}
use Rattle.table_rule.specs.declared.rule.Told.{Told}
use Rattle.twin_tables.specs.Keeping.{Edits}
use Rattle.twin_tables.proofs.Keepers as keepers
use Rattle.twin_tables.proofs.edits.end_drain.Goals as goal

pub returns-clause-edits : goal.returns-clause-edits
returns-clause-edits g c = let tag : Tag = record { kind = 7; caller = 0; number = c.args.folded.disk } in let x = c.place_done-place.ensures.ended in
    let done = keepers.edits_done 0 c.args.folded.disk c.place_done-place.result x.0 tag c.poll_until.new.editor.seat.base.me.0 c.place_done-place.new.editor.seat.base.me.0 x.1 c.poll_until.ensures.edits in
    subst (λ (z : Me (Option ℕ) Told). Edits 0 z.0) (sym c.revive.ensures.view) record { claim = done.claim; confs = done.confs; before = done.before; shown = done.shown }

pub returns-clause-others : goal.returns-clause-others
returns-clause-others g c = let d = c.args.folded.disk in let tag : Tag = record { kind = 7; caller = 0; number = d } in let x = c.place_done-place.ensures.ended in
    let b = c.args.editor.now.seat.base.me.0 in let e = c.poll_until.new.editor.seat.base.me.0 in
    let f = c.place_done-place.new.editor.seat.base.me.0 in let w = c.revive.new.editor.seat.base.me.0 in
    let done = keepers.others_done d c.place_done-place.result x.0 tag e f x.1 in
    let revived = keepers.others_revived d f w (ap (λ (z : Me (Option ℕ) Told). z.0) c.revive.ensures.view) in
    keepers.others_then d b f w (keepers.others_then d b e f c.poll_until.ensures.others done) revived
