use Rattle.std.proofs.Common.{◌≡◌, ◌+◌, ◌∙◌, sym, arith}
use Rattle.sqe_cqe.specs.Answers.{view_of}
use Rattle.sqe_cqe.specs.declared.rows.Seen.TheVariants.{On}
use Rattle.ana_groups.proofs.Linking.{linked}
use Rattle.ana_groups.proofs.members.link_enabled.Goals as goal

pub returns-in-On-clause-above : goal.returns-in-On-clause-above
returns-in-On-clause-above g c = λ count above.
    let v = view_of (g.L.Look.told (g.L.Look.behind c.args.look.now)) c.args.b.now in
    let row = c.in-On.row in
    let on : v.ns (c.args.low + 1) ≡ On row = sym c.ns.ensures.value ∙ c.in-On.is in
    linked v c.args.low count c.args.members.now c.link.new.members row on c.in-On.ensures.shape.group c.requires.low (omega arith) (omega arith) (omega arith)
    c.link.ensures.next c.link.ensures.first c.link.ensures.counts above
