use Rattle.std.proofs.Common.{◌≡◌, length, ap, arith, refl}
use Rattle.std.proofs.lemmas.List.{take_at, take_min, length-take}
use Rattle.run_outside.proofs.faults.keep_call.Goals as goal

pub returns : goal.returns
returns c =
    let long : length c.copy_from_slice.new.self ≡ c.min-len.result =
    omega (
      arith,
      ap length c.copy_from_slice.ensures.after,
      length-take c.min-len.result c.args.name.now,
      c.min-len.ensures,
    ) in
    record {
      is = rw (
        take_at c.copy_from_slice.new.self _ c.min-len.result long,
        c.copy_from_slice.ensures.after,
        c.min-len.ensures,
        take_min,
      ) refl;
    }
