use Rattle.std.proofs.Common.{refl}
use Rattle.run_gen.proofs.Ending.{no_files, ended_by}
use Rattle.run_gen.proofs.whole.generate.Goals as goal

pub returns-in-Err-clause-refused : goal.returns-in-Err-clause-refused
returns-in-Err-clause-refused g c = no_files _ _ c.args.seed.now _ refl c.report_fault.ensures

pub returns-clause-refused : goal.returns-clause-refused
returns-clause-refused g c =
    let said = rw (
      c.name_or.ensures,
      c.deref-in-Err-generate_made.ensures.value,
      c.file.ensures,
      c.name-in-Err-generate_made.ensures,
    ) at c.report_fault-in-Err-generate_made.ensures in
    ended_by c.args.seed.now c.in-Ok.made.items _ _ _ _ c.in-Ok.ensures.value
    c.in-Err-generate_made.ensures.refused refl said
