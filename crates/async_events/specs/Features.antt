-- Set Features and Get Features: status and result, and what is stored.
use Rattle.std.specs.Prelude.{◌≡◌, ◌≢◌, ℕ, ◌+◌, ◌*◌, ◌/◌, ◌%◌, ◌^◌, ◌==◌, not, ◌&&◌, ◌||◌, Bool, if◌then◌else◌}
use Rattle.sqe_cqe.specs.declared.sqe.Sqe.{Sqe}
use Rattle.sqe_cqe.specs.declared.codes.TheConstants.{SUCCESS, INVALID_OPCODE, INVALID_FIELD, DATA_SGL_LENGTH_INVALID}
use Rattle.async_events.specs.declared.events.Events.{Events}
use Rattle.async_events.specs.declared.feature.TheConstants.{SET_FEATURES, GET_FEATURES, NUMBER_OF_QUEUES, ASYNC_EVENTS, KEEP_ALIVE_TIMER, QUEUES}
use Rattle.async_events.specs.Stamps.{configured}

-- the low byte of dword 10 names the feature
abbrev pub feature_id : Sqe → ℕ
feature_id e = e.cdw10 % 256

abbrev pub bit : ℕ → ℕ → Bool
bit k word = (word / 2 ^ k) % 2 == 1

-- the word that has bit 8 for namespace notices, bit 11 for ANA notices and no other
abbrev pub notice_bits : Bool → Bool → ℕ
notice_bits ns ana = (if ns then 256 else 0) + (if ana then 2048 else 0)

-- a half of the number of queues may not be FFFFh; notices have no other bits; a time is any word
abbrev pub set_answer : ℕ → ℕ → ℕ × ℕ
set_answer id word =
    if id == NUMBER_OF_QUEUES then
    (if (word % 65536 == 65535) || (word / 65536 == 65535) then (INVALID_FIELD, 0) else (SUCCESS, QUEUES))
    else if id == ASYNC_EVENTS then
    (if word == notice_bits (bit 8 word) (bit 11 word) then (SUCCESS, 0) else (INVALID_FIELD, 0))
    else if id == KEEP_ALIVE_TIMER then (SUCCESS, 0)
    else (INVALID_FIELD, 0)

abbrev pub get_answer : ℕ → Events → ℕ × ℕ
get_answer id k =
    if id == NUMBER_OF_QUEUES then (SUCCESS, QUEUES)
    else if id == ASYNC_EVENTS then (SUCCESS, notice_bits k.ns.on k.ana.on)
    else if id == KEEP_ALIVE_TIMER then (SUCCESS, k.kato)
    else (INVALID_FIELD, 0)

-- the bits replace those that stood, and leave what is masked and pending
abbrev pub stored : ℕ → ℕ → Events → Events
stored id word k =
    if id == ASYNC_EVENTS then configured (bit 8 word) (bit 11 word) k
    else if id == KEEP_ALIVE_TIMER then record k { kato = word }
    else k

-- status and result
unfoldable pub feature_answer : Events → Sqe → ℕ × ℕ
feature_answer k e =
    if not (e.opcode == SET_FEATURES) && not (e.opcode == GET_FEATURES) then (INVALID_OPCODE, 0)
    else if not (e.sgl_len == 0) then (DATA_SGL_LENGTH_INVALID, 0)
    else if e.opcode == GET_FEATURES then get_answer (feature_id e) k
    else set_answer (feature_id e) e.cdw11

-- a Set Features that succeeds stores the word, and nothing else changes anything
unfoldable pub feature_after : Events → Sqe → Events
feature_after k e =
    if (e.opcode == SET_FEATURES) && ((feature_answer k e).0 == SUCCESS) then
    stored (feature_id e) e.cdw11 k
    else k

-- what is set is what is got afterwards, of notices and of the keep alive time
abbrev pub SetIsGot : Type 0
SetIsGot = (k : Events) (id word : ℕ) → id ≢ NUMBER_OF_QUEUES → (set_answer id word).0 ≡ SUCCESS
    → get_answer id (stored id word k) ≡ (SUCCESS, word)
