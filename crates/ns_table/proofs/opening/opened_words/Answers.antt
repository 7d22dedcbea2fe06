use Rattle.std.proofs.Common.{◌∙◌, sym, arith}
use Rattle.ns_table.specs.Words.{opened_shape}
use Rattle.ns_table.proofs.Placed.{each-none, next-word, whole}
use Rattle.ns_table.proofs.opening.opened_words.Goals as goal

pub loop-at-init : goal.loop-at-init
loop-at-init c = c.in_ok-words.ensures.items ∙ sym (each-none _)

pub loop-at-preserved : goal.loop-at-preserved
loop-at-preserved c = next-word _ c.loop-at.at c.word_at.result c.loop-at.words.items c.push.new.self.items c.loop-at.invariant c.word_at.ensures c.in_ok-push.ensures.items

pub returns : goal.returns
returns c = whole (opened_shape c.args.tree.now c.args.controllers.now c.args.disks.now) c.loop-at.at c.loop-at.words.items (omega arith) c.loop-at.invariant
