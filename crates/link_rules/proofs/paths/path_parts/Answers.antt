use Rattle.link_rules.proofs.Parts.{many_parts}
use Rattle.link_rules.proofs.paths.path_parts.Goals as goal

pub returns-in-Some-rest-3 : goal.returns-in-Some-rest-3
returns-in-Some-rest-3 c =
    let first = rw c.in-Some.is at c.cut_part.ensures in
    let second = rw c.in-Some-rest.is at c.cut_part-2.ensures in
    let third = rw c.in-Some-rest-2.is at c.cut_part-3.ensures in
    let fourth = rw c.in-Some-rest-3.is at c.cut_part-4.ensures in
    many_parts c.args.path.now c.in-Some.rest.now c.in-Some-rest.rest.now c.in-Some-rest-2.rest.now
    c.in-Some-rest-3.field-0.now c.cut_part.result.0.now c.cut_part-2.result.0.now
    c.cut_part-3.result.0.now c.cut_part-4.result.0.now first second third fourth
