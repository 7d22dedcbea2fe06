-- What a text holds after bytes at its end were lent.
use Rattle.std.specs.Prelude.{ℕ, List, ◌++◌, take, drop, length, replicate}
use Rattle.std.specs.Borrow.{Lends, MutBor, Fml, Array, u8}
use Rattle.mem_bdev.specs.Texts.{Text, with_bytes}
use Rattle.mem_bdev.specs.contracts.buffer.Buffer.{the_row}

-- of bytes that were lent: what was left in them, which are as many
abbrev pub left : List ℕ → List ℕ → List ℕ
left lent w = take (length lent) (w ++ drop (length w) lent)

-- the text ends with what was left in its bytes and in the n zeros after them
abbrev pub LendsBytes : MutBor Text → ℕ → MutBor (List ℕ) → Fml
LendsBytes s n r = Lends the_row (Array u8 0) s r (λ w. with_bytes s.now (left (s.now.bytes ++ replicate n 0) w))
