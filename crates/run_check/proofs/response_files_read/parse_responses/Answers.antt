use Rattle.run_check.proofs.Parsed.{all_blank}
use Rattle.run_check.proofs.response_files_read.parse_responses.Goals as goal

pub returns-in-Ok-clause-read : goal.returns-in-Ok-clause-read
returns-in-Ok-clause-read c = record {
  whole = rw c.deref.ensures.value at c.in-Ok.ensures.whole;
  blank = all_blank c.args.bytes.items c.in-Ok.records.items
      (rw c.deref.ensures.value at c.in-Ok.ensures.spelled).all;
}
