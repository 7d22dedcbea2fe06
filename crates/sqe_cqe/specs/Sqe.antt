-- Submission entries by their table of fields.
use Rattle.std.specs.Prelude.{ℕ, List, [], ◌∷◌, slice_index, ◌%◌, ◌==◌, if◌then◌else◌}
use Rattle.sqe_cqe.specs.Fields.{Field, row, field, spelled_fields}
use Rattle.sqe_cqe.specs.declared.sqe.Sqe.{Sqe}
use Rattle.sqe_cqe.specs.declared.way.Direction.{Direction}
use Rattle.sqe_cqe.specs.declared.way.Direction.TheVariants.{Nothing, ToController, ToHost, Both}

-- the table of a submission entry: opcode, flags, command identifier, NSID, dwords 2 and 3, metadata pointer, SGL address,
-- SGL length, the other bytes of the SGL descriptor one by one, command dwords 10 to 15
abbrev pub sqe_fields : Sqe → List Field
sqe_fields e =
    row 0 1 e.opcode
    ∷ row 1 1 e.flags
    ∷ row 2 2 e.cid
    ∷ row 4 4 e.nsid
    ∷ row 8 4 e.cdw2
    ∷ row 12 4 e.cdw3
    ∷ row 16 8 e.mptr
    ∷ row 24 8 e.sgl_addr
    ∷ row 32 4 e.sgl_len
    ∷ row 36 1 (slice_index e.sgl_rest 0)
    ∷ row 37 1 (slice_index e.sgl_rest 1)
    ∷ row 38 1 (slice_index e.sgl_rest 2)
    ∷ row 39 1 (slice_index e.sgl_rest 3)
    ∷ row 40 4 e.cdw10
    ∷ row 44 4 e.cdw11
    ∷ row 48 4 e.cdw12
    ∷ row 52 4 e.cdw13
    ∷ row 56 4 e.cdw14
    ∷ row 60 4 e.cdw15
    ∷ []

-- the 64 bytes of an entry
unfoldable pub sqe_bytes : Sqe → List ℕ
sqe_bytes e = spelled_fields (sqe_fields e)

-- the entry in 64 bytes
unfoldable pub sqe_of : List ℕ → Sqe
sqe_of bytes = record {
  opcode = field 0 1 bytes;
  flags = field 1 1 bytes;
  cid = field 2 2 bytes;
  nsid = field 4 4 bytes;
  cdw2 = field 8 4 bytes;
  cdw3 = field 12 4 bytes;
  mptr = field 16 8 bytes;
  sgl_addr = field 24 8 bytes;
  sgl_len = field 32 4 bytes;
  sgl_rest = field 36 1 bytes ∷ field 37 1 bytes ∷ field 38 1 bytes ∷ field 39 1 bytes ∷ [];
  cdw10 = field 40 4 bytes;
  cdw11 = field 44 4 bytes;
  cdw12 = field 48 4 bytes;
  cdw13 = field 52 4 bytes;
  cdw14 = field 56 4 bytes;
  cdw15 = field 60 4 bytes;
}

-- FCTYPE: the low byte of the NSID
abbrev pub fctype_of : Sqe → ℕ
fctype_of e = e.nsid % 256

-- by two bits: none, to the controller, to the host, both
abbrev pub direction_by : ℕ → Direction
direction_by bits = if bits == 0 then Nothing else (if bits == 1 then ToController else (if bits == 2 then ToHost else Both))

-- the low bits of the opcode, for a fabrics command those of FCTYPE
unfoldable pub direction_of : Sqe → Direction
direction_of e = direction_by ((if e.opcode == 127 then fctype_of e else e.opcode) % 4)

abbrev pub payload_by : Direction → ℕ → ℕ
payload_by ToController len = len
payload_by Nothing len = 0
payload_by ToHost len = 0
payload_by Both len = 0

-- how many bytes of data follow an entry in a capsule
unfoldable pub payload_len : Sqe → ℕ
payload_len e = payload_by (direction_of e) e.sgl_len

abbrev pub host_by : Direction → ℕ → ℕ
host_by ToHost len = len
host_by ToController len = 0
host_by Nothing len = 0
host_by Both len = 0

-- how many bytes of data for the host an entry names
unfoldable pub host_len : Sqe → ℕ
host_len e = host_by (direction_of e) e.sgl_len
