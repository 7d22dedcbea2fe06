use Rattle.std.proofs.Common.{subst, ◌≡◌, ◌∷◌, [], List, ℕ}
use Rattle.std.specs.List.{slice_split}
use Rattle.std.specs.Prelude.{◌==◌}
use Rattle.std.proofs.lemmas.Option.{MatchOption-at_some, MatchOption-at_none}
use Rattle.text_lines.proofs.Trimming.{first_line, only_line}
use Rattle.text_lines.proofs.lines.cut_line.Goals as goal

pub returns-in-Some-clause-line : goal.returns-in-Some-clause-line
returns-in-Some-clause-line c =
    first_line c.args.bytes.now c.cut_at.result.0.now c.in-Some.rest.now
    (MatchOption-at_some _ _ c.in-Some.rest c.in-Some.is c.cut_at.ensures.parts)

pub returns-in-None-clause-line : goal.returns-in-None-clause-line
returns-in-None-clause-line c =
    let line : c.cut_at.result.0.now ≡ c.args.bytes.now = MatchOption-at_none _ _ c.in-None.is
    c.cut_at.ensures.shorter in
    let whole : slice_split (λ b. b == 10) c.args.bytes.now ≡ c.cut_at.result.0.now ∷ [] =
    MatchOption-at_none _ _ c.in-None.is c.cut_at.ensures.parts in
    only_line c.args.bytes.now c.requires
    (subst (λ (x : List ℕ). slice_split (λ b. b == 10) c.args.bytes.now ≡ x ∷ []) line whole)
