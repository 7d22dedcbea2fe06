-- The commands by whether they run a plan.
use Rattle.std.specs.Prelude.{Bool, true, false}
use Rattle.command_words.specs.declared.words.Words.{Words}
use Rattle.command_words.specs.declared.words.Words.TheVariants as words

abbrev pub is_run : Words → Bool
is_run (words.Run plan) = true
is_run (words.Check plan) = false
is_run (words.Show plan) = false
is_run (words.Gen n name) = false
