use Rattle.std.proofs.Common.{Option, List, add_assoc, ◌≡◌, ◌+◌, ◌∙◌, ℕ, sym, refl, ap, subst, arith}
use Rattle.atomic_table.specs.Table.{Me}
use Rattle.table_rule.specs.declared.rule.Told.{Told}
use Rattle.table_rule.specs.Counted.{Counted}
use Rattle.rcu_sections.specs.Grace.{Look, after_looks}
use Rattle.percpu_ref.specs.Lives.{IsKilled, FoldsNow}
use Rattle.ref_state.specs.State.{AllPassed, drain}
use Rattle.percpu_ref.proofs.Killing.{stays_killed}
use Rattle.percpu_ref.proofs.drains.fold.Goals as goal

-- looks leave the reference killed
still : {S : Type 0} (d : ℕ) (ws : List ℕ) (ls : List Look) (a b : Me S Told) → b ≡ (after_looks ls a.0, a.1) → IsKilled d ws a.0 → IsKilled d ws b.0
still {S} d ws ls a b e h = subst (λ (z : Me S Told). IsKilled d ws z.0) (sym e) (stays_killed d ws ls a.0 h)

pub returns-in-Some-clause-killed : goal.returns-in-Some-clause-killed
returns-in-Some-clause-killed g c = let t = c.find_reader.ensures.told in
    (refl, still c.args.killed.disk c.args.killed.words t.0 c.args.editor.now.seat.base.me c.find_reader.new.editor.seat.base.me t.1 c.requires.killed)

pub add_counters-requires-clause-killed : goal.add_counters-requires-clause-killed
add_counters-requires-clause-killed g c = let t = c.find_reader.ensures.told in
    (still c.args.killed.disk c.args.killed.words t.0 c.args.editor.now.seat.base.me c.find_reader.new.editor.seat.base.me t.1 c.requires.killed).phase_is

pub add_counters-requires-clause-long : goal.add_counters-requires-clause-long
add_counters-requires-clause-long g c = let t = c.find_reader.ensures.told in
    (still c.args.killed.disk c.args.killed.words t.0 c.args.editor.now.seat.base.me c.find_reader.new.editor.seat.base.me t.1 c.requires.killed).long ∙ sym c.find_reader.new.editor.seats_are

pub returns-clause-folded : goal.returns-clause-folded
returns-clause-folded g c = let t = c.find_reader.ensures.told in let d = c.args.killed.disk in (
  refl,
  record {
    looks = t.0;
    over = subst (λ (z : Me (Option g.row.S.Denot) Told). AllPassed z.0.seats (drain z.0.notes d).marks) t.1 c.in_default.ensures.passed;
    folds = subst (λ (z : Me (Option g.row.S.Denot) Told). FoldsNow d z.0 c.add_counters.new.editor.seat.base.me.0) t.1 c.add_counters.ensures.folds;
  },
)

pub returns-clause-ticks : goal.returns-clause-ticks
returns-clause-ticks g c = let n = c.find_reader.ensures.ticks in let seats = c.args.editor.now.seats in let m = c.find_reader.new.editor.seats in let same : m ≡ seats = c.find_reader.ensures.kept.2 in
    let few = n.1 in (
      n.0 + m,
      1,
      omega arith,
      omega arith,
      c.add_counters.ensures.ticks ∙ (ap (λ (z : Counted). record z { row = z.row + m; shared = z.shared + 1 }) n.2 ∙ λ i. record c.args.steps.now { row = add_assoc c.args.steps.now.row n.0 m i; shared = c.args.steps.now.shared + 1 }),
    )
