-- A row from its words, as they were loaded.
use Rattle.std.specs.Prelude.{◌++◌}
use Rattle.std.specs.Int.{to_le_bytes, w64}
use Rattle.sqe_cqe.specs.declared.rows.NsRow.{NsRow}
use Rattle.section_look.specs.declared.loading.RowWords.{RowWords}

abbrev pub row_from : RowWords → NsRow
row_from w = record {
  disk = w.disk;
  shift = w.shift;
  blocks = w.blocks;
  group = w.group;
  uuid = to_le_bytes w64 w.uuid.0 ++ to_le_bytes w64 w.uuid.1;
  nguid = to_le_bytes w64 w.nguid.0 ++ to_le_bytes w64 w.nguid.1;
}
