use Rattle.std.proofs.Common.{Option, ◌≡◌, ◌∙◌, length, sym, ap, arith}
use Rattle.std.proofs.lemmas.List.{length-replicate}
use Rattle.atomic_table.specs.Table.{Me}
use Rattle.ref_state.specs.declared.state.Mark.TheVariants.{Passed}
use Rattle.ref_state.specs.State.{mark}
use Rattle.table_rule.specs.declared.rule.Told.{Told}
use Rattle.ref_state.specs.Soundness.{live_drain}
use Rattle.rcu_sections.specs.Grace.{base_word}
use Rattle.rcu_sections.proofs.Looking.{bases_none, all_passed, zeros}
use Rattle.rcu_sections.proofs.editor.Editor.new.Goals as goal

pub invariant_of-result-clause-first : goal.invariant_of-result-clause-first
invariant_of-result-clause-first g c = c.args.seat.number_is ∙ ap (λ (z : Me (Option g.row.S.Denot) Told). z.0.view.number) c.requires.opened

pub invariant_of-result-clause-seats_are : goal.invariant_of-result-clause-seats_are
invariant_of-result-clause-seats_are g c = c.requires.seats.0 ∙ sym (ap (λ (z : Me (Option g.row.S.Denot) Told). z.0.seats) c.requires.opened)

pub invariant_of-result-clause-long : goal.invariant_of-result-clause-long
invariant_of-result-clause-long g c = ap (λ (z : Me (Option g.row.S.Denot) Told). length z.0.notes.marks) c.requires.opened
    ∙ (length-replicate (length c.args.table.now.table.shared.key.quotas) Passed ∙ sym c.requires.seats.0)

pub invariant_of-result-clause-noted : goal.invariant_of-result-clause-noted
invariant_of-result-clause-noted g c = λ j near ne. absurd (ne (ap (λ (z : Me (Option g.row.S.Denot) Told). mark z.0.notes.marks j) c.requires.opened
    ∙ all_passed (length c.args.table.now.table.shared.key.quotas) j (let n = c.requires.seats.0 in omega arith)))

pub invariant_of-result-clause-bases_are : goal.invariant_of-result-clause-bases_are
invariant_of-result-clause-bases_are g c = λ d near. zeros 64 d ∙ sym (ap (λ (z : Me (Option g.row.S.Denot) Told). base_word z.0.notes d) c.requires.opened
    ∙ bases_none (length c.args.table.now.table.shared.key.quotas) c.args.table.now.table.shared.key.disks d)

pub returns-clause-spare : goal.returns-clause-spare
returns-clause-spare g c = record {
  serial_is = sym (ap (λ (z : Me (Option g.row.S.Denot) Told). length z.0.notes.published) c.requires.opened);
  over = λ j near. ap (λ (z : Me (Option g.row.S.Denot) Told). mark z.0.notes.marks j) c.requires.opened
      ∙ all_passed (length c.args.table.now.table.shared.key.quotas) j (let n : c.args.seat.base.me.0.seats ≡ length c.args.table.now.table.shared.key.quotas = ap (λ (z : Me (Option g.row.S.Denot) Told). z.0.seats) c.requires.opened in omega arith);
}

pub invariant_of-result-clause-drains_are : goal.invariant_of-result-clause-drains_are
invariant_of-result-clause-drains_are g c = ap (λ (z : Me (Option g.row.S.Denot) Told). length z.0.notes.drains) c.requires.opened
    ∙ (length-replicate c.args.table.now.table.shared.key.disks (live_drain (length c.args.table.now.table.shared.key.quotas)) ∙ sym c.requires.disks.0)
