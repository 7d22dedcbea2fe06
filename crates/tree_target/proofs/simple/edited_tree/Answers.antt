use Rattle.std.proofs.Common.{ap, sym, ◌∙◌}
use Rattle.tree_target.specs.SimpleEdits.{simple_edits}
use Rattle.tree_target.proofs.SimpleEdits.{edits_fit, loads_edited, same_loaded, not_refused}
use Rattle.tree_target.proofs.simple.edited_tree.Goals as goal

pub apply_edits-requires : goal.apply_edits-requires
apply_edits-requires c = edits_fit c.args.disk.now.path c.in_ok-edits.edits
    (c.in_ok-edits.ensures ∙ ap simple_edits c.as_bytes.ensures) c.requires

pub returns-in-Ok : goal.returns-in-Ok
returns-in-Ok c = same_loaded _ _ (sym c.in-Ok.ensures
    ∙ loads_edited c.args.disk.now c.from_ref.result.now c.in_ok-empty.empty c.in_ok-edits.edits
    c.from_ref.ensures.value c.in_ok-empty.ensures
    (c.in_ok-edits.ensures ∙ ap simple_edits c.as_bytes.ensures) c.requires)

pub unreachable-requires : goal.unreachable-requires
unreachable-requires c = not_refused _ c.in-Err-Refused.field-0-0 c.in-Err-Refused.field-0-1
    (sym (loads_edited c.args.disk.now c.from_ref.result.now c.in_ok-empty.empty
    c.in_ok-edits.edits c.from_ref.ensures.value c.in_ok-empty.ensures
    (c.in_ok-edits.ensures ∙ ap simple_edits c.as_bytes.ensures) c.requires)
    ∙ rw c.in-Err-Refused.field-0-is at c.in-Err-Refused.ensures)
