-- A printable text is UTF-8.
use Rattle.std.proofs.Common.{◌≡◌, ◌<◌, true, List, [], ◌∷◌, ℕ, zero, suc, arith}
use Rattle.std.specs.Prelude.{IsUtf8, nat_lt}
use Rattle.std.proofs.lemmas.Bool.{ltb-true}
use Rattle.std.proofs.lemmas.Str.{IsUtf8-from_ascii}
use Rattle.std.specs.Str.{IsAscii}
use Rattle.configfs_rows.specs.Values.{is_text, is_text_byte}
use Rattle.nvmetcli_json.proofs.Shown.{left_true, right_true}

low : (b : ℕ) → b < 127 → b < 128
low b lt = omega arith

zero_is_low : 0 < 128
zero_is_low = omega arith

text_is_ascii : (bytes : List ℕ) → is_text bytes ≡ true → IsAscii bytes
text_is_ascii [] h i = zero_is_low
text_is_ascii (b ∷ bytes) h zero = low b (ltb-true b 127 (right_true (nat_lt 31 b) (nat_lt b 127)
    (left_true (is_text_byte b) (is_text bytes) h)))
text_is_ascii (b ∷ bytes) h (suc i) = text_is_ascii bytes (right_true (is_text_byte b)
    (is_text bytes) h) i

pub text_is_utf8 : (bytes : List ℕ) → is_text bytes ≡ true → IsUtf8 bytes
text_is_utf8 bytes h = IsUtf8-from_ascii bytes (text_is_ascii bytes h)
