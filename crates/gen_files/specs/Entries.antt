-- The capsules of a generated plan: submission entries, and the data after them.
use Rattle.std.specs.Prelude.{ℕ, ◌-◌, ◌*◌, List, [], ◌∷◌, ◌++◌, length, replicate, codes}
use Rattle.sqe_cqe.specs.Fields.{spelled}
use Rattle.sqe_cqe.specs.Sqe.{sqe_bytes}
use Rattle.sqe_cqe.specs.declared.codes.TheConstants.{SGL, FABRICS, CONNECT, PROPERTY_SET}
use Rattle.sqe_cqe.specs.declared.sqe.Sqe.{Sqe}
use Rattle.gen_files.specs.declared.entries.TheConstants.{EVENT_REQUEST, GET_LOG_PAGE, ENABLING, CHANGED_LIST, LOG_BYTES, CONNECT_BYTES}

-- an entry with this opcode and command identifier, whose data would be told by an SGL; all else is 0
abbrev pub plain_entry : ℕ → ℕ → Sqe
plain_entry opcode cid = record {
  opcode = opcode;
  flags = SGL;
  cid = cid;
  nsid = 0;
  cdw2 = 0;
  cdw3 = 0;
  mptr = 0;
  sgl_addr = 0;
  sgl_len = 0;
  sgl_rest = 0 ∷ 0 ∷ 0 ∷ 0 ∷ [];
  cdw10 = 0;
  cdw11 = 0;
  cdw12 = 0;
  cdw13 = 0;
  cdw14 = 0;
  cdw15 = 0;
}

-- Connect of the queue with this identifier and size, the first capsule of its file: the fabrics type
-- is the low byte of the NSID, the queue's identifier the high half of dword 10
abbrev pub connect_entry : ℕ → ℕ → Sqe
connect_entry qid sqsize = record (plain_entry FABRICS 0) {
  nsid = CONNECT;
  sgl_len = CONNECT_BYTES;
  cdw10 = qid * 65536;
  cdw11 = sqsize;
}

-- Property Set of four bytes at the offset 14h, Controller Configuration
abbrev pub enable_entry : ℕ → Sqe
enable_entry cid = record (plain_entry FABRICS cid) {
  nsid = PROPERTY_SET;
  cdw11 = 20;
  cdw12 = ENABLING;
}

abbrev pub event_entry : ℕ → Sqe
event_entry cid = plain_entry EVENT_REQUEST cid

-- Get Log Page of the changed namespace list, whole
abbrev pub log_entry : ℕ → Sqe
log_entry cid = record (plain_entry GET_LOG_PAGE cid) { sgl_len = LOG_BYTES; cdw10 = CHANGED_LIST }

-- a capsule: its entry, and the data for the controller
abbrev pub capsule_bytes : Sqe → List ℕ → List ℕ
capsule_bytes e payload = sqe_bytes e ++ payload

unfoldable pub zeros : ℕ → List ℕ
zeros size = replicate size 0

-- a text in so many bytes, zeros behind it
abbrev pub padded : ℕ → List ℕ → List ℕ
padded size text = text ++ zeros (size - length text)

-- the subsystem's name and the host's in 256 bytes each, and so many that are free
unfoldable pub connect_names : List ℕ
connect_names = padded 256 (codes "gen") ++ padded 256 (codes "hostnqn") ++ zeros 256

-- the data of a Connect to the controller of this number: a host identifier of zeros, the number at
-- byte 16, the subsystem's name at 256, the host's at 512
unfoldable pub connect_data : ℕ → List ℕ
connect_data cntlid = zeros 16 ++ spelled 2 cntlid ++ zeros 238 ++ connect_names

unfoldable pub connect_bytes : ℕ → ℕ → ℕ → List ℕ
connect_bytes qid sqsize cntlid = capsule_bytes (connect_entry qid sqsize) (connect_data cntlid)
