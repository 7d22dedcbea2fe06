use Rattle.table_rule.proofs.Laying.{all_laid}
use Rattle.target_table.proofs.opening.lay_words.Goals as goal

pub returns : goal.returns
returns c = all_laid c.args.about.now c.args.rows.now c.lay_rows.result.items c.requires.rows
    c.lay_rows.ensures
