use Rattle.std.proofs.Common.{arith, ap, ◌∙◌}
use Rattle.ref_state.specs.Steps.{at_mark}
use Rattle.table_seats.proofs.Showing as publishing
use Rattle.table_seats.proofs.Submitting.{Mine}
use Rattle.table_seats.proofs.publishing.look_all.Goals as goal

pub returns-then-open-ne0-clause-edits : goal.returns-then-open-ne0-clause-edits
returns-then-open-ne0-clause-edits g c =
    let zeroth = publishing.looks 0 c.look_section-zeroth.result c.args.editor.now.base.me.0 c.look_section-zeroth.new.seat.base.me.0 _ c.requires.edits (ap (λ (z : Mine). z.0) c.look_section-zeroth.ensures.view) in
    let first = publishing.looks 1 c.look_section-first.result c.look_section-zeroth.new.seat.base.me.0 c.look_section-first.new.seat.base.me.0 _ zeroth (ap (λ (z : Mine). z.0) c.look_section-first.ensures.view) in
    publishing.looks 2 c.look_section-second.result c.look_section-first.new.seat.base.me.0 c.look_section-second.new.seat.base.me.0 _ first (ap (λ (z : Mine). z.0) c.look_section-second.ensures.view)

pub returns-clause-edits : goal.returns-clause-edits
returns-clause-edits g c =
    let zeroth = publishing.looks 0 c.look_section-zeroth.result c.args.editor.now.base.me.0 c.look_section-zeroth.new.seat.base.me.0 _ c.requires.edits (ap (λ (z : Mine). z.0) c.look_section-zeroth.ensures.view) in
    let first = publishing.looks 1 c.look_section-first.result c.look_section-zeroth.new.seat.base.me.0 c.look_section-first.new.seat.base.me.0 _ zeroth (ap (λ (z : Mine). z.0) c.look_section-first.ensures.view) in
    publishing.looks 2 c.look_section-second.result c.look_section-first.new.seat.base.me.0 c.look_section-second.new.seat.base.me.0 _ first (ap (λ (z : Mine). z.0) c.look_section-second.ensures.view)

pub returns-clause-passed : goal.returns-clause-passed
returns-clause-passed g c = λ done. let even = c.if-open-ne0.false in let e = c.requires.edits in let v = c.args.editor.now.base.me.0 in
    let x = c.look_section-zeroth.result in let y = c.look_section-first.result in let z = c.look_section-second.result in
    let l = c.look_section-zeroth.ensures.view in let m = c.look_section-first.ensures.view in let n = c.look_section-second.ensures.view in
    publishing.all_even v.notes c.look_section-second.new.seat.base.me.0 c.look_section-second.new.seat.base.me.0.seats x y z
    (ap (λ (w : Mine). w.0.notes.marks) n ∙ (ap (λ (w : Mine). at_mark 2 z w.0.notes.marks) m ∙ ap (λ (w : Mine). at_mark 2 z (at_mark 1 y w.0.notes.marks)) l)) e.marks
    (ap (λ (w : Mine). w.0.seats) n ∙ (ap (λ (w : Mine). w.0.seats) m ∙ (ap (λ (w : Mine). w.0.seats) l ∙ e.seats)))
    (omega arith) (omega arith) (omega arith)
