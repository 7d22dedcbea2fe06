use Rattle.std.proofs.Common.{◌≡◌, ◌++◌, length}
use Rattle.text_lines.specs.Lines.{words_of}
use Rattle.script_lines.proofs.words.split_words.Given as goal

abbrev pub invariant-loop-words : goal.invariant-loop-words
invariant-loop-words l = l.words ++ words_of l.rest ≡ words_of l.text

abbrev pub decreases-loop-words : goal.decreases-loop-words
decreases-loop-words l = length l.rest
