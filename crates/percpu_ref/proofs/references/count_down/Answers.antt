use Rattle.std.proofs.Common.{Option, ◌≡◌, ◌+◌, ◌∷◌, ◌∙◌, ap, sym, arith}
use Rattle.atomic_table.specs.Table.{Me}
use Rattle.ref_state.specs.Steps.{after_put}
use Rattle.table_rule.specs.declared.rule.Told.{Told}
use Rattle.table_rule.specs.Counted.{Counted}
use Rattle.table_rule.specs.Words.{at, SharedOf}
use Rattle.percpu_ref.specs.Holds.{own_steps}
use Rattle.percpu_ref.proofs.Holding.{put_last, found_killed, killed_own, killed_shared}
use Rattle.percpu_ref.proofs.references.count_down.Goals as goal

pub returns-then-before-eq1-clause-counted : goal.returns-then-before-eq1-clause-counted
returns-then-before-eq1-clause-counted g c =
    let mode = c.load_mode-mode.result in let before = c.add_shared-before.result in let ne = c.if-mode-eq-LIVE.false in let old = c.args.seat.now.base.me in let d = c.args.disk in (
      mode,
      before,
      put_last mode before ne c.if-before-eq1.true,
      c.add_shared-before.ensures.view
          ∙ (ap (λ (z : Me (Option g.row.S.Denot) Told). (record z.0 { view = after_put d z.0.view; found = (at (SharedOf d), before) ∷ z.0.found }, z.1)) c.load_mode-mode.ensures.view
          ∙ λ i. (record old.0 { view = after_put d old.0.view; found = found_killed d mode before old.0.found ne i }, old.1)),
      c.add_shared-before.ensures.ticks ∙ (ap (λ (z : Counted). record z { shared = z.shared + 1 }) c.load_mode-mode.ensures.ticks
          ∙ (let none = killed_own mode ne in let one = killed_shared mode ne in
          let own : c.args.steps.now.own ≡ c.args.steps.now.own + own_steps mode = omega arith in
          λ i. record c.args.steps.now { own = own i; shared = c.args.steps.now.shared + sym one i; row = c.args.steps.now.row + 1 })),
    )
