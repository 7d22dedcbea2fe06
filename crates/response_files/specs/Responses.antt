-- Response files: records one after another, and the first that is malformed. Offsets are in bytes,
-- from 0.
use Rattle.std.specs.Prelude.{◌≡◌, ◌≤◌, ◌<◌, ◌≢◌, ◌⊎◌, ℕ, ◌+◌, ◌^◌, ◌==◌, Bool, true, false, ◌&&◌, ◌||◌, List, [], ◌∷◌, ◌++◌, length, take, drop, map, All, ◌↔◌}
use Rattle.std.specs.List.{flat_map, AllByRecursion}
use Rattle.sqe_cqe.specs.Fields.{field}
use Rattle.sqe_cqe.specs.Cqe.{cqe_of}
use Rattle.sqe_cqe.specs.declared.cqe.Cqe.{Cqe}
use Rattle.run_records.specs.Records.{answer_code, kind_code, record_bytes}
use Rattle.run_records.specs.declared.records.Kind.{Kind}
use Rattle.run_records.specs.declared.records.Kind.TheVariants.{Submit, Execute, Poll, Control}
use Rattle.run_records.specs.declared.records.Answer.{Answer}
use Rattle.run_records.specs.declared.records.Answer.TheVariants.{Held, Answered, Waiting, NoEvent}
use Rattle.run_records.specs.declared.records.Head.{Head}
use Rattle.response_files.specs.declared.responses.Record as code

-- ---- what a record may say

-- the answers of each kind of call
abbrev pub may_answer : Kind → Answer → Bool
may_answer Submit Held = true
may_answer Submit Answered = true
may_answer Submit Waiting = true
may_answer Submit NoEvent = false
may_answer Execute Held = false
may_answer Execute Answered = true
may_answer Execute Waiting = false
may_answer Execute NoEvent = false
may_answer Poll Held = false
may_answer Poll Answered = true
may_answer Poll Waiting = false
may_answer Poll NoEvent = true
may_answer Control Held = false
may_answer Control Answered = true
may_answer Control Waiting = false
may_answer Control NoEvent = false

abbrev pub is_answered : Answer → Bool
is_answered Held = false
is_answered Answered = true
is_answered Waiting = false
is_answered NoEvent = false

-- a completion of which each field is 0
unfoldable pub is_blank : Cqe → Bool
is_blank c = c.result == 0 && c.sq_head == 0 && c.sq_id == 0 && c.cid == 0 && c.status == 0

-- a record: its head, and the data behind it
pub record Response : Type 0 where
  pub head : Head
  pub payload : List ℕ

abbrev pub response_bytes : Response → List ℕ
response_bytes r = record_bytes r.head r.payload

-- the numbers of a completion fit their bytes
pub record IsCompletion (c : Cqe) : Type 0 where
  pub result : c.result < 2 ^ 64
  pub sq_head : c.sq_head < 2 ^ 16
  pub sq_id : c.sq_id < 2 ^ 16
  pub cid : c.cid < 2 ^ 16
  pub status : c.status < 2 ^ 16

-- what a head may say: an answer that its call may have, no completion but where something was
-- answered, and numbers that fit their bytes
pub record IsHead (h : Head) : Type 0 where
  pub may : may_answer h.kind h.answer ≡ true
  pub blank : (is_answered h.answer || is_blank h.cqe) ≡ true
  pub place : h.place < 2 ^ 32
  pub number : h.number < 2 ^ 32
  pub len : h.len < 2 ^ 32
  pub cqe : IsCompletion h.cqe

-- a record has as many bytes of data as its head says
pub record IsResponse (r : Response) : Type 0 where
  pub head : IsHead r.head
  pub len : r.head.len ≡ length r.payload

-- ---- a file of records

-- the bytes are these records, one after another
pub record AreResponses (bytes : List ℕ) (rs : List Response) : Type 0 where
  pub spelled : bytes ≡ flat_map response_bytes rs
  pub all : AllByRecursion IsResponse rs

-- two bytes are the codes of a call and of an answer that it may have
abbrev pub IsCoded : ℕ → ℕ → Type 0
IsCoded kind answer =
    (k : Kind) × (a : Answer) × (kind_code k ≡ kind) × (answer_code a ≡ answer)
    × (may_answer k a ≡ true)

-- Why no record begins here: fewer bytes are left than a head has, or than a head and the data that
-- it announces; the bytes between answer and number aren't zeros; kind and answer are no call with an
-- answer that it may have; or there is a completion though nothing was answered.
pub record IsMalformed (bytes : List ℕ) : Type 0 where
  pub why : (length bytes < 32)
      ⊎ ((length bytes < 32 + field 12 4 bytes)
      ⊎ ((field 6 2 bytes ≢ 0)
      ⊎ ((IsCoded (field 4 1 bytes) (field 5 1 bytes) → ⊥)
      ⊎ ((field 5 1 bytes ≢ 1) × (is_blank (cqe_of (take 16 (drop 16 bytes))) ≡ false)))))

-- the print of a record stands at the front of the bytes
pub record BeginWithRecord (bytes : List ℕ) : Type 0 where
  pub response : Response
  pub more : List ℕ
  pub is : IsResponse response
  pub cut : bytes ≡ response_bytes response ++ more

-- bytes are malformed exactly where they don't begin with the print of a record
abbrev pub MalformedIsNoRecord : Type 0
MalformedIsNoRecord = (bytes : List ℕ) → All (λ b. b < 256) bytes
    → IsMalformed bytes ↔ (BeginWithRecord bytes → ⊥)

-- records stand before the offset, and bytes that begin no record stand there
pub record IsMalformedAt (bytes : List ℕ) (offset : ℕ) : Type 0 where
  pub front : List Response
  pub rest : List ℕ
  pub cut : bytes ≡ flat_map response_bytes front ++ rest
  pub all : AllByRecursion IsResponse front
  pub offset_is : offset ≡ length (flat_map response_bytes front)
  pub some : 0 < length rest
  pub malformed : IsMalformed rest

-- ---- records as the code has them

-- what a record of the code stands for, over the bytes of its file
abbrev pub response_in : List ℕ → code.Record → Response
response_in bytes r = record { head = r.head; payload = take r.head.len (drop r.data_at bytes) }

abbrev pub responses_in : List ℕ → List code.Record → List Response
responses_in bytes rs = map (response_in bytes) rs

-- the data of a record lie in the file
abbrev pub IsWholeIn : List ℕ → code.Record → Type 0
IsWholeIn bytes r = r.data_at + r.head.len ≤ length bytes

-- Records stand one after another from one offset to another: each begins where the one before
-- ended, and its data stand right after the 32 bytes of its head.
abbrev pub StandBetween : ℕ → ℕ → List code.Record → Type 0
StandBetween from to [] = to ≡ from
StandBetween from to (r ∷ rs) = (r.data_at ≡ from + 32)
    × StandBetween (r.data_at + r.head.len) to rs
