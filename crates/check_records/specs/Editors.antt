-- Where the journal's lines stand that were made again.
use Rattle.std.specs.Prelude.{ℕ, List, Option, Some, None, slice_get}
use Rattle.tree_target.specs.Edits.{disables}
use Rattle.tree_target.specs.Model.{Call, DrainEnd}
use Rattle.run_transcript.specs.declared.scripts.ScriptEdit.{ScriptEdit}
use Rattle.run_transcript.specs.Turns.{Disabled, Editing, disabled_on}
use Rattle.check_records.specs.declared.editor_steps.EditCursor.{EditCursor}
use Rattle.check_records.specs.declared.editor_steps.Drain.{Drain}

abbrev pub disabled_by : Option ScriptEdit → Option Disabled
disabled_by None = None
disabled_by (Some s) = disabled_on s.line (disables s.edit)

abbrev pub disabled_in : List ScriptEdit → Option ℕ → Option Disabled
disabled_in script None = None
disabled_in script (Some i) = disabled_by (slice_get script i)

-- what the last edit disabled, until its drain has ended
abbrev pub disabled_at : List ScriptEdit → EditCursor → Option Disabled
disabled_at script at = disabled_in script at.open

abbrev pub editing_at : List ScriptEdit → EditCursor → Editing
editing_at script at = record { made = at.made; disabled = disabled_at script at }

-- the end of an open drain, else what comes next
abbrev pub end_or : Option Drain → Option Call → Option Call
end_or None next = next
end_or (Some d) next = Some (DrainEnd d.line d.space.sub d.space.nsid)

abbrev pub disabled_of : Drain → Disabled
disabled_of d = record { line = d.line; space = d.space }
