use Rattle.std.proofs.Common.{sym, ◌∙◌, refl, true, false}
use Rattle.link_rules.proofs.Told.{on_ok, linked_told, linked_left}
use Rattle.link_rules.proofs.linked_subsystems.link_subsystem.Goals as goal

pub returns-clause-stays : goal.returns-clause-stays
returns-clause-stays c =
    let new = on_ok _ _ c.set_link.ensures.ok (sym c.is_err.ensures.value ∙ c.if-is_err.false) in
    linked_left c.args.t.now c.set_link.new.self c.args.id c.args.sub.now true c.in-Some.port.now
    c.in-Some-subsystem_of.row.now c.in-Some.ensures c.in-Some-subsystem_of.ensures new

pub returns-clause-tells : goal.returns-clause-tells
returns-clause-tells c =
    let new = on_ok _ _ c.set_link.ensures.ok (sym c.is_err.ensures.value ∙ c.if-is_err.false) in
    let was = sym c.contains-is_linked.ensures ∙ c.if-is_linked.false in
    linked_told c.args.t.now c.set_link.new.self c.args.id c.args.sub.now true c.in-Some.port.now
    c.in-Some-subsystem_of.row.now c.of.result c.in-Some.ensures c.in-Some-subsystem_of.ensures was
    new
    c.of.ensures
