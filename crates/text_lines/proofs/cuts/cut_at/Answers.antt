use Rattle.std.proofs.Common.{sym, ◌==◌}
use Rattle.std.proofs.lemmas.List.{take_rest}
use Rattle.text_lines.proofs.Cutting.{cut_some}
use Rattle.text_lines.proofs.cuts.cut_at.Goals as goal

pub returns-in-Some-clause-parts : goal.returns-in-Some-clause-parts
returns-in-Some-clause-parts c =
    rw take_rest (cut_some (λ b. b == c.args.byte) c.args.text.now c.in-Some.end
    (sym c.in-Some.ensures)).parts
