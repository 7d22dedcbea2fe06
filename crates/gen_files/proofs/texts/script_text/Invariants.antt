use Rattle.std.proofs.Common.{◌≡◌}
use Rattle.std.specs.List.{flat_map, range_with_len}
use Rattle.gen_files.specs.Texts.{round_trip}
use Rattle.gen_files.proofs.texts.script_text.Given as goal

abbrev pub invariant-loop-n : goal.invariant-loop-n
invariant-loop-n l = l.text.items ≡ flat_map (λ n. round_trip) (range_with_len 0 l._n)
