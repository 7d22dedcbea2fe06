use Rattle.std.proofs.Common.{sym, ◌∙◌, refl, true, false}
use Rattle.link_rules.proofs.Told.{on_ok, allowed_told, allowed_left}
use Rattle.link_rules.proofs.allowed_hosts.allow_host.Goals as goal

pub returns-clause-stays : goal.returns-clause-stays
returns-clause-stays c =
    let new = on_ok _ _ c.set_allowed.ensures.ok (sym c.is_err.ensures.value ∙ c.if-is_err.false) in
    allowed_left c.args.t.now c.set_allowed.new.self c.args.sub.now c.args.host.now true
    c.in-Some.row.now
    c.in-Some.ensures new

pub returns-clause-tells : goal.returns-clause-tells
returns-clause-tells c =
    let new = on_ok _ _ c.set_allowed.ensures.ok (sym c.is_err.ensures.value ∙ c.if-is_err.false) in
    let was = sym c.contains-is_linked.ensures ∙ c.if-is_linked.false in
    allowed_told c.args.t.now c.set_allowed.new.self c.args.sub.now c.args.host.now true
    c.in-Some.row.now
    c.of.result c.in-Some.ensures was new c.of.ensures
