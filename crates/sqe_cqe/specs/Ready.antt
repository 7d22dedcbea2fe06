-- Controllers: which are ready, and the one of a simple plan.
use Rattle.std.specs.Prelude.{ℕ, zero, suc, ◌-◌, ◌%◌, ◌==◌, ◌&&◌, Bool, false, List, [], ◌∷◌, ◌++◌, length, replicate, codes, Option, Some, None, slice_get}
use Rattle.sqe_cqe.specs.declared.controllers.Ctrl.{Ctrl}
use Rattle.sqe_cqe.specs.declared.controllers.ControllerRow.{ControllerRow}

-- EN and RDY are bit 0 of CC and of CSTS
abbrev pub is_ready_row : ControllerRow → Bool
is_ready_row row = (row.cc % 2 == 1) && (row.csts % 2 == 1)

abbrev pub is_ready_at : Option ControllerRow → Bool
is_ready_at None = false
is_ready_at (Some row) = is_ready_row row

-- whether the controller with this number is there and ready; numbers are from 1, in the order of the rows
abbrev pub ready_in : List ControllerRow → ℕ → Bool
ready_in rows zero = false
ready_in rows (suc n) = is_ready_at (slice_get rows n)

-- a text in a field of so many bytes, filled up with one byte
unfoldable pub filled : ℕ → ℕ → List ℕ → List ℕ
filled size fill text = text ++ replicate (size - length text) fill

-- the controller of a simple plan: number 1, at the first positions, with the serial number and the model of a new
-- subsystem
unfoldable pub simple_ctrl : Ctrl
simple_ctrl = record {
  bound = record { ctrl = 1; qid = 0; sub = 0; port = 0 };
  since = 0;
  subnqn = filled 256 0 (codes "nqn.2014-08.org.nvmexpress:simple");
  serial = filled 20 32 (codes "00000000000000000001");
  model_name = filled 40 32 (codes "Linux");
}

-- it is enabled and ready, its QID 1 is connected, and its host's name is the empty one
unfoldable pub simple_rows : List ControllerRow
simple_rows = (record { ctrl = simple_ctrl; host = filled 256 0 []; cc = 0x00460001; csts = 1; qids = 1 }) ∷ []
