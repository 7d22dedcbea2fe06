use Rattle.std.proofs.Common.{arith, ◌<◌}
use Rattle.table_rule.proofs.Laying.{no_rows, lay_row}
use Rattle.target_table.proofs.opening.lay_rows.Goals as goal

pub loop-word-init : goal.loop-word-init
loop-word-init c = no_rows c.args.about.now c.args.about.now.disks c.args.rows.now
    c.args.words.items c.requires.biases

pub loop-word-preserved : goal.loop-word-preserved
loop-word-preserved c = lay_row c.args.about.now c.requires.few c.args.about.now.disks
    c.loop-word.word c.args.rows.now c.loop-word.words.items (let a = c.loop-word-test.true in
    let b = c.requires.rows in omega arith) c.loop-word.invariant
