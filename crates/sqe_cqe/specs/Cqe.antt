-- Completions by their table of fields.
use Rattle.std.specs.Prelude.{ℕ, List, [], ◌∷◌}
use Rattle.sqe_cqe.specs.Fields.{Field, row, field, spelled_fields}
use Rattle.sqe_cqe.specs.declared.cqe.Cqe.{Cqe}

-- result, SQ head pointer, SQ identifier, command identifier, status field
abbrev pub cqe_fields : Cqe → List Field
cqe_fields c =
    row 0 8 c.result
    ∷ row 8 2 c.sq_head
    ∷ row 10 2 c.sq_id
    ∷ row 12 2 c.cid
    ∷ row 14 2 c.status
    ∷ []

-- the 16 bytes of a completion
unfoldable pub cqe_bytes : Cqe → List ℕ
cqe_bytes c = spelled_fields (cqe_fields c)

-- the completion in 16 bytes
unfoldable pub cqe_of : List ℕ → Cqe
cqe_of bytes = record {
  result = field 0 8 bytes;
  sq_head = field 8 2 bytes;
  sq_id = field 10 2 bytes;
  cid = field 12 2 bytes;
  status = field 14 2 bytes;
}
