use Rattle.std.proofs.Common.{refl, arith}
use Rattle.std.proofs.lemmas.Option.{slice_get_read}
use Rattle.ns_table.proofs.opening.opened_slots.Goals as goal

pub split-requires : goal.split-requires
split-requires c = record {
  shape = c.requires c.loop-disk.disk-index c.disk-item.result
      (slice_get_read c.args.disks.now _ c.loop-disk.disk-index c.disk-item.result refl (omega arith) c.disk-item.is);
}
