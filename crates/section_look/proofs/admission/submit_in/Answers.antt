use Rattle.std.proofs.Common.{List, sym, ap, subst}
use Rattle.atomic_table.specs.Seated.{TableId}
use Rattle.ref_state.specs.declared.kinds.Tag.{Tag}
use Rattle.ref_state.specs.declared.state.Entry.{Entry}
use Rattle.table_rule.specs.declared.rule.Told.{Told}
use Rattle.section_look.specs.Read.{entry_of}
use Rattle.section_look.specs.Submits.{HasHold, admit_of}
use Rattle.section_look.proofs.Submitting as submitting
use Rattle.section_look.proofs.admission.submit_in.Goals as goal

pub admit-answer-requires-clause-words : goal.admit-answer-requires-clause-words
admit-answer-requires-clause-words g c = let m = g.M.Means.means in let v = c.args.section.now.seat.now in
    submitting.same_words m c.args.call c.place-at.result.0 c.place-at.result.1 v.number v.base.me.0 c.place-at.new.section.seat.now.base.me.0 c.place-at.ensures.drew v.number_is c.requires.plain

pub returns-clause-submits : goal.returns-clause-submits
returns-clause-submits g c = let m = g.M.Means.means in let v = c.args.section.now.seat.now in
    submitting.submitted m c.args.call c.place-at.result.0 c.place-at.result.1 v.number v.base.me.0 c.place-at.new.section.seat.now.base.me.0 c.place-at.ensures.drew v.number_is c.requires.plain
    c.args.table.now.table.shared.key.disks c.args.b.now c.args.e.now c.requires.admits (admit_of c.admit-answer.result) c.admit-answer.ensures.value
    c.admit-answer.new.section.seat.now.base.me.0 c.admit-answer.ensures.told

pub returns-clause-hold : goal.returns-clause-hold
returns-clause-hold g c = let m = g.M.Means.means in let v = c.args.section.now.seat.now in let b = c.place-at.new.section.seat.now.base in
    let at = submitting.section_is m c.args.call c.place-at.result.0 c.place-at.result.1 v.number v.base.me.0 b.me.0 c.place-at.ensures.drew v.number_is c.requires.plain in
    let known = ap (λ (k : Told). k.known) c.admit-answer.ensures.told.told in
    subst (λ (t : TableId). HasHold t c.admit-answer.new.section.seat.now.base.me.0.known c.place-at.result.0 c.args.call c.admit-answer.result) c.place-at.ensures.own.0
    (subst (λ (k : List Tag). HasHold b.table_id k c.place-at.result.0 c.args.call c.admit-answer.result) (sym known)
    (subst (λ (y : Entry). HasHold b.table_id b.me.0.known y.place y.call c.admit-answer.result) (ap entry_of at) c.admit-answer.ensures.hold))
