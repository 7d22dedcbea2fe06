use Rattle.std.proofs.Common.{◌≡◌}
use Rattle.patched_tables.specs.Keeping.{Keeps, Rests}
use Rattle.patched_tables.specs.Patching.{patch_at}
use Rattle.section_look_tests.proofs.section_tests.take_turns.Given as goal

abbrev pub invariant-loop-turn : goal.invariant-loop-turn
invariant-loop-turn g l = record {
  editor : l.editor.seat.base.table_id ≡ l.table.table.shared.table_id;
  reader : l.reader.base.table_id ≡ l.table.table.shared.table_id;
  keeps : Keeps g.I.Patches.opened g.I.Patches.patches (patch_at g.I.Patches.patches l.number) l.editor.seat.base.me.0;
  rests : Rests l.reader.number l.reader.base.me.0;
}
