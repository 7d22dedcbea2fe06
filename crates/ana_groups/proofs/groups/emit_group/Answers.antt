use Rattle.std.proofs.Common.{arith}
use Rattle.sqe_cqe.specs.Answers.{view_of}
use Rattle.ana_groups.proofs.Reported.{length-group}
use Rattle.ana_groups.proofs.groups.emit_group.Goals as goal

pub returns-clause-at : goal.returns-clause-at
returns-clause-at g c =
    let v = view_of (g.L.Look.told (g.L.Look.behind c.args.look.now)) c.args.b.now in
    omega (
      arith,
      c.emit_members.ensures.at,
      (c.requires.members.groups c.args.group c.requires.group).count,
      length-group v c.args.rgo c.args.group c.if-rgo-2.false,
    )
