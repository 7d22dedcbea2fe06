use Rattle.std.proofs.Common.{rules, ◌≡◌, true, false, get_or, ap, ◌∙◌}
use Rattle.atomic_table.specs.Table.{Me}
use Rattle.ref_state.specs.Steps.{least, is_held}
use Rattle.table_rule.specs.declared.rule.Told.{Told}
use Rattle.extent_executes.proofs.Executing as executing
use Rattle.extent_executes.proofs.executes.take_out.Goals as goal

pub returns-then-not-take_turn-clause-stopped : goal.returns-then-not-take_turn-clause-stopped
returns-then-not-take_turn-clause-stopped g c = let lost : c.take_turn.result ≡ false = search rules in let t = c.take_turn.ensures.taken lost in
    executing.stopped_first g.M.Means.means c.args.slots.now c.args.i t.0 c.args.seat.now.base.me c.take_turn.new.seat.base.me c.requires.inside t.1 t.2

pub returns-clause-reached : goal.returns-clause-reached
returns-clause-reached g c = let got : c.take_turn.result ≡ true = search rules in let t = c.take_turn.ensures.took got in
    let o = executing.took_out g.M.Means.means (get_or c.args.slots.now c.args.i 0) c.slot_out.result c.args.seat.now.base.me c.take_turn.new.seat.base.me c.slot_out.new.seat.base.me t c.slot_out.ensures.value c.slot_out.ensures.view in
    executing.reached_next c.args.slots.now c.args.i c.args.seat.now.base.me c.slot_out.new.seat.base.me o.more o.told c.requires.inside c.requires.rising c.requires.reached

pub returns-then-not-take_turn-clause-hold : goal.returns-then-not-take_turn-clause-hold
returns-then-not-take_turn-clause-hold g c = let lost : c.take_turn.result ≡ false = search rules in let t = c.take_turn.ensures.taken lost in
    ap (λ (z : Me (Rattle.std.specs.Prelude.Option g.row.S.Denot) Told). least (is_held c.args.call c.args.hold.disk) z.0.view.holds) t.2 ∙ c.requires.hold

pub returns-clause-hold : goal.returns-clause-hold
returns-clause-hold g c = let got : c.take_turn.result ≡ true = search rules in let t = c.take_turn.ensures.took got in
    ap (λ (z : Me (Rattle.std.specs.Prelude.Option g.row.S.Denot) Told). least (is_held c.args.call c.args.hold.disk) z.0.view.holds) c.slot_out.ensures.view
    ∙ (ap (λ (z : Told). least (is_held c.args.call c.args.hold.disk) z.view.holds) t.told ∙ c.requires.hold)

pub returns-then-not-take_turn-clause-tried : goal.returns-then-not-take_turn-clause-tried
returns-then-not-take_turn-clause-tried g c = let lost : c.take_turn.result ≡ false = search rules in let t = c.take_turn.ensures.taken lost in
    (executing.tried_first (get_or c.args.slots.now c.args.i 0) t.0 c.args.seat.now.base.me c.take_turn.new.seat.base.me t.2, c.take_turn.ensures.ticks)
