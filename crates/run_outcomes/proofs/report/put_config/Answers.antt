use Rattle.std.specs.Prelude.{◌++◌, codes}
use Rattle.std.specs.Fmt.{decimal}
use Rattle.configfs_tree.specs.Errnos.{name_of}
use Rattle.run_outcomes.proofs.Puts.{takes_front, takes_both}
use Rattle.run_outcomes.proofs.report.put_config.Goals as goal

pub returns-in-Ok-clause-content : goal.returns-in-Ok-clause-content
returns-in-Ok-clause-content g c = takes_both _ _ _ (codes "config edit " ++ decimal c.args.edit)
    ((codes " " ++ name_of c.args.errno) ++ codes "\n") _ (rw (
      c.as_bytes-number.ensures.value,
      c.format.ensures.text,
    ) at c.in-Ok.ensures.content) (rw (
      c.as_bytes.ensures.value,
      c.name.ensures,
    ) at c.put_word.ensures.content)

pub returns-in-Err-clause-content : goal.returns-in-Err-clause-content
returns-in-Err-clause-content g c = takes_front _ _ (codes "config edit " ++ decimal c.args.edit)
    ((codes " " ++ name_of c.args.errno) ++ codes "\n") _ (rw (
      c.as_bytes-number.ensures.value,
      c.format.ensures.text,
    ) at c.in-Err.ensures.content)
