use Rattle.link_rules.specs.Table.{may_grow}
use Rattle.edit_words.proofs.Answered.{answer-fits, edit-turns, noted-places}
use Rattle.edit_words.proofs.edits.edit.Goals as goal

pub put_answer-requires : goal.put_answer-requires
put_answer-requires g c =
    answer-fits c.args.tree.now c.apply-answer.new.t c.args.e.now (may_grow c.args.e.now) c.apply-answer.result c.certify.ensures c.apply-answer.ensures.gives

pub returns-clause-turned : goal.returns-clause-turned
returns-clause-turned g c =
    edit-turns c.args.tree.now c.apply-answer.new.t c.args.e.now c.args.controllers.now c.args.disks.now c.args.stamps.now c.note.new.stamps c.apply-answer.result _ c.put_answer.new.to c.certify.ensures c.certify-2.ensures
    c.requires.places c.apply-answer.ensures.gives c.note.ensures c.requires.rows (c.put_answer.ensures.words c.args.stamps.now c.requires.places c.note.ensures)

pub returns-clause-places : goal.returns-clause-places
returns-clause-places g c =
    noted-places c.apply-answer.result c.args.stamps.now c.note.new.stamps c.requires.places
    (answer-fits c.args.tree.now c.apply-answer.new.t c.args.e.now (may_grow c.args.e.now) c.apply-answer.result c.certify.ensures c.apply-answer.ensures.gives) c.note.ensures
