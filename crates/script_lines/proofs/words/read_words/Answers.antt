use Rattle.std.proofs.Common.{sym, ◌∙◌, ◌≡◌, true}
use Rattle.std.specs.Prelude.{codes}
use Rattle.std.specs.Str.{bytes_eq}
use Rattle.std.proofs.lemmas.Option.{MatchOption-at_some}
use Rattle.script_lines.proofs.Values.{set_words}
use Rattle.script_lines.proofs.words.read_words.Goals as goal

pub returns-in-Some-value : goal.returns-in-Some-value
returns-in-Some-value c =
    let set : bytes_eq c.cut_at.result.0.now (codes "set") ≡ true = sym c.is_set.ensures
    ∙ c.if-not-is_set.false in
    let is = set_words c.args.line.now c.in-Some.rest.now c.in-Some-rest.rest.now
    c.cut_at.result.0.now c.cut_at-2.result.0.now c.cut_at-3.result.0.now
    c.in-Some-value.value.now set
    (MatchOption-at_some _ _ c.in-Some.rest c.in-Some.is c.cut_at.ensures.parts)
    (MatchOption-at_some _ _ c.in-Some-rest.rest c.in-Some-rest.is c.cut_at-2.ensures.parts)
    (MatchOption-at_some _ _ c.in-Some-value.value c.in-Some-value.is c.cut_at-3.ensures.parts) in
    rw is c.join_words.ensures
