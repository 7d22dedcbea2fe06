-- Response records by their table of fields. Offsets and sizes are in bytes, offsets counted from 0.
use Rattle.std.specs.Prelude.{◌≡◌, ℕ, ◌+◌, List, [], ◌∷◌, ◌++◌, map}
use Rattle.sqe_cqe.specs.Fields.{Field, row, spelled_fields, IsGapless}
use Rattle.sqe_cqe.specs.Cqe.{cqe_fields, cqe_bytes}
use Rattle.run_records.specs.declared.records.Kind.{Kind}
use Rattle.run_records.specs.declared.records.Kind.TheVariants as kinds
use Rattle.run_records.specs.declared.records.Answer.{Answer}
use Rattle.run_records.specs.declared.records.Answer.TheVariants as answers
use Rattle.run_records.specs.declared.records.Head.{Head}

abbrev pub kind_code : Kind → ℕ
kind_code kinds.Submit = 1
kind_code kinds.Execute = 2
kind_code kinds.Poll = 3
kind_code kinds.Control = 4

abbrev pub answer_code : Answer → ℕ
answer_code answers.Held = 0
answer_code answers.Answered = 1
answer_code answers.Waiting = 2
answer_code answers.NoEvent = 3

-- the fields before the completion: place, kind, answer, zeros, number, length of the data
abbrev pub call_fields : Head → List Field
call_fields h =
    row 0 4 h.place
    ∷ row 4 1 (kind_code h.kind)
    ∷ row 5 1 (answer_code h.answer)
    ∷ row 6 2 0
    ∷ row 8 4 h.number
    ∷ row 12 4 h.len
    ∷ []

-- a table that stands so many bytes further on
abbrev pub moved : ℕ → List Field → List Field
moved by fields = map (λ f. row (by + f.offset) f.size f.value) fields

-- the table of a head: these, and the completion's
abbrev pub head_fields : Head → List Field
head_fields h = call_fields h ++ moved 16 (cqe_fields h.cqe)

unfoldable pub call_bytes : Head → List ℕ
call_bytes h = spelled_fields (call_fields h)

-- the 32 bytes of a head
abbrev pub head_bytes : Head → List ℕ
head_bytes h = call_bytes h ++ cqe_bytes h.cqe

-- a head, and the data after it
abbrev pub record_bytes : Head → List ℕ → List ℕ
record_bytes h payload = head_bytes h ++ payload

-- the table has no gap from 0 to 32, and a head's bytes are its fields one after another
abbrev pub HeadFieldsFill : Type 0
HeadFieldsFill = (h : Head) → IsGapless 0 32 (head_fields h)
    × (head_bytes h ≡ spelled_fields (head_fields h))
