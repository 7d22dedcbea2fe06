-- Connect: its data by their table of fields. And the fields that fabrics commands have in command dwords 10 to 13.
use Rattle.std.specs.Prelude.{◌≡◌, ◌<◌, ◌++◌, length, ℕ, ◌+◌, ◌*◌, ◌/◌, ◌%◌, ◌==◌, Bool, List, [], ◌∷◌, take, drop}
use Rattle.sqe_cqe.specs.Fields.{Field, row, field, spelled}
use Rattle.sqe_cqe.specs.declared.connect.ConnectData.{ConnectData}
use Rattle.sqe_cqe.specs.declared.sqe.Sqe.{Sqe}

-- `size` bytes from the offset `at`
abbrev pub bytes_in : ℕ → ℕ → List ℕ → List ℕ
bytes_in at size bytes = take size (drop at bytes)

-- the data in 1,024 bytes: host identifier, controller ID, NQN of the subsystem, NQN of the host
unfoldable pub connect_of : List ℕ → ConnectData
connect_of bytes = record {
  host_id = bytes_in 0 16 bytes;
  cntlid = field 16 2 bytes;
  subnqn = bytes_in 256 256 bytes;
  hostnqn = bytes_in 512 256 bytes;
}

-- the parts of Connect data one after another, with the reserved bytes between them
abbrev pub connect_bytes : ConnectData → List ℕ → List ℕ → List ℕ
connect_bytes d reserved rest = d.host_id ++ (spelled 2 d.cntlid ++ (reserved ++ (d.subnqn ++ (d.hostnqn ++ rest))))

-- are read as those parts
abbrev pub ConnectDataAgain : Type 0
ConnectDataAgain = (d : ConnectData) (reserved rest : List ℕ) → length d.host_id ≡ 16 → d.cntlid < 65536
    → length reserved ≡ 238 → length d.subnqn ≡ 256 → length d.hostnqn ≡ 256
    → connect_of (connect_bytes d reserved rest) ≡ d

-- ---- Connect
abbrev pub record_format_of : Sqe → ℕ
record_format_of e = e.cdw10 % 65536

abbrev pub qid_of : Sqe → ℕ
qid_of e = e.cdw10 / 65536

abbrev pub queue_size_of : Sqe → ℕ
queue_size_of e = e.cdw11 % 65536

abbrev pub attributes_of : Sqe → ℕ
attributes_of e = e.cdw11 / 65536 % 256

abbrev pub keep_alive_of : Sqe → ℕ
keep_alive_of e = e.cdw12

-- ---- Property Get and Property Set
abbrev pub is_long_property_of : Sqe → Bool
is_long_property_of e = e.cdw10 % 2 == 1

abbrev pub property_offset_of : Sqe → ℕ
property_offset_of e = e.cdw11

abbrev pub property_value_of : Sqe → ℕ
property_value_of e = e.cdw12 + 0x100000000 * e.cdw13

-- the same by their offsets in the entry: RECFMT, QID, SQSIZE, CATTR, KATO
abbrev pub connect_fields : Sqe → List Field
connect_fields e =
    row 40 2 (record_format_of e)
    ∷ row 42 2 (qid_of e)
    ∷ row 44 2 (queue_size_of e)
    ∷ row 46 1 (attributes_of e)
    ∷ row 48 4 (keep_alive_of e)
    ∷ []

-- offset and value of a property
abbrev pub property_fields : Sqe → List Field
property_fields e = row 44 4 (property_offset_of e) ∷ row 48 8 (property_value_of e) ∷ []
