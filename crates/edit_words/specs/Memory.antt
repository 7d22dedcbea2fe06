-- How much memory the words of a running table take.
use Rattle.std.specs.Prelude.{◌≡◌, ◌<◌, ◌+◌, ◌*◌, ℕ}
use Rattle.table_rule.specs.Words.{width}
use Rattle.ns_table.specs.declared.layout.TheConstants.{WORDS}

-- the bytes of all shared words: of both sides of the configuration, and of the core. A word has 8
abbrev pub word_bytes : ℕ
word_bytes = 8 * width WORDS

-- with 512 slots of at most 128 bytes, beside the blocks of the disks, it is under 32 MiB
abbrev pub TableIsSmall : Type 0
TableIsSmall = (word_bytes ≡ 5846976) × (word_bytes + 512 * 128 < 32 * 1048576)
