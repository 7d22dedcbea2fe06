use Rattle.table_rule.proofs.Laying.{lay_bias}
use Rattle.target_table.proofs.opening.lay_biases.Goals as goal

pub loop-disk-init : goal.loop-disk-init
loop-disk-init c = c.requires.zeros

pub loop-disk-preserved : goal.loop-disk-preserved
loop-disk-preserved c = lay_bias c.args.about.now c.requires.few c.loop-disk.disk
    c.loop-disk.words.items c.loop-disk-test.true c.loop-disk.invariant
