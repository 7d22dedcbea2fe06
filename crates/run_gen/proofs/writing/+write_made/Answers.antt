use Rattle.std.proofs.lemmas.List.{take_rest}
use Rattle.run_outcomes.proofs.Writes.{writes_then, stops_more}
use Rattle.run_gen.proofs.Files.{first_and_rest}
use Rattle.run_gen.proofs.writing.+write_made.Goals as goal

pub returns-in-Ok-clause-writes : goal.returns-in-Ok-clause-writes
returns-in-Ok-clause-writes g t c =
    let is = first_and_rest c.args.made.now c.first-item.result _ c.in-len1-up.len_at_least
    c.first-item.is in
    rw is (writes_then _ _ _ _ _ _ (rw is at c.requires.apart) c.write_file.ensures.tells
    c.write_file.ensures.later (rw c.deref.ensures.value at c.in-Ok.ensures.writes)
    (rw (take_rest c.args.made.now 1) at c.write_made.ensures.writes))

pub returns-in-Err-clause-writes : goal.returns-in-Err-clause-writes
returns-in-Err-clause-writes g t c =
    let is = first_and_rest c.args.made.now c.first-item.result _ c.in-len1-up.len_at_least
    c.first-item.is in
    rw is (stops_more _ _ _ _ _ (rw c.deref.ensures.value at c.in-Err.ensures.writes))
