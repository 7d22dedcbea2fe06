-- What callers bring to a run, and the call that a tag of the running table names.
use Rattle.std.specs.Prelude.{ℕ, zero, suc, List, Option, Some, None}
use Rattle.sqe_cqe.specs.declared.sqe.Sqe.{Sqe}
use Rattle.ref_state.specs.declared.kinds.Tag.{Tag}
use Rattle.tree_target.specs.declared.edits.Space.{Space}
use Rattle.tree_target.specs.Edits.{Edit, disables}
use Rattle.tree_target.specs.Model.{Call, Submit, Execute, Poll, Control, AnEdit, DrainEnd}

pub record Inputs : Type 0 where
  -- the entry and the data of a capsule: by the number of its queue, from 1, and by its own number
  -- in that queue's file, from 0
  pub entry : ℕ → ℕ → Sqe
  pub payload : ℕ → ℕ → List ℕ
  -- the edit of a line of the script, from 1
  pub edit : ℕ → Edit

-- the end of the drain that the edit of a line begins
abbrev pub end_of : ℕ → Option Space → Option Call
end_of line None = None
end_of line (Some s) = Some (DrainEnd line s.sub s.nsid)

-- by the number of the kind: a bare call is none of the target, 1 a submit, 2 its Execute, 3 a
-- poll, 4 a fabrics command, 6 an edit, and 7 the end of the drain that this line's edit begins. A
-- command that is passed through (5) isn't made yet
abbrev pub call_by : Inputs → ℕ → ℕ → ℕ → Option Call
call_by i zero caller number = None
call_by i (suc zero) caller number = Some (Submit caller number (i.entry caller number))
call_by i (suc (suc zero)) caller number = Some (Execute caller number (i.payload caller number))
call_by i (suc (suc (suc zero))) caller number = Some (Poll caller)
call_by i (suc (suc (suc (suc zero)))) caller number =
    Some (Control caller number (i.entry caller number) (i.payload caller number))
call_by i (suc (suc (suc (suc (suc zero))))) caller number = None
call_by i (suc (suc (suc (suc (suc (suc zero)))))) caller number =
    Some (AnEdit number (i.edit number))
call_by i (suc (suc (suc (suc (suc (suc (suc zero))))))) caller number =
    end_of number (disables (i.edit number))
call_by i (suc (suc (suc (suc (suc (suc (suc (suc kind)))))))) caller number = None

abbrev pub call_of : Inputs → Tag → Option Call
call_of i tag = call_by i tag.kind tag.caller tag.number
