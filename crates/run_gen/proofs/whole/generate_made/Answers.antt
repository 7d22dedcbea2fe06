use Rattle.run_gen.proofs.Ending.{ends_by, generates_by}
use Rattle.run_gen.proofs.Files.{in_hand_apart}
use Rattle.run_gen.proofs.whole.generate_made.Goals as goal

pub write_out-requires-clause-apart : goal.write_out-requires-clause-apart
write_out-requires-clause-apart g c = in_hand_apart c.args.seed.now c.args.made.now c.requires.made

pub returns-in-Ok-write_out-clause-fine : goal.returns-in-Ok-write_out-clause-fine
returns-in-Ok-write_out-clause-fine g c =
    generates_by c.args.seed.now c.args.made.now _ _ _ _ _ c.requires.made c.in-Ok.ensures.summed
    c.in-Ok-write_out.ensures.tells c.in-Ok-write_out.ensures.written
    (rw c.as_str.ensures.value at c.in-Ok-write_out.ensures.put)

pub returns-in-Ok-clause-refused : goal.returns-in-Ok-clause-refused
returns-in-Ok-clause-refused g c = ends_by c.args.seed.now c.args.made.now _ _ _ _ c.requires.made
    c.in-Ok.ensures.summed c.in-Err-write_out.ensures.tells
    (rw c.as_str.ensures.value at c.in-Err-write_out.ensures.refused)
