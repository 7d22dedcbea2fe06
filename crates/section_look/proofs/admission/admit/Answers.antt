use Rattle.std.proofs.Common.{Option, ℕ, sym, subst}
use Rattle.atomic_table.specs.Table.{Me}
use Rattle.table_rule.specs.declared.rule.Told.{Told}
use Rattle.table_rule.specs.Plays.{MayGet}
use Rattle.io_commands.specs.Jobs.{disk_of}
use Rattle.section_look.specs.Read.{section_serial}
use Rattle.section_look.proofs.Submitting as submitting
use Rattle.section_look.proofs.admission.admit.Goals as goal

pub get-hold-requires-clause-shown : goal.get-hold-requires-clause-shown
get-hold-requires-clause-shown g c = let m = g.M.Means.means in let v = c.args.section.now.seat.now.base.me.0 in
    let may = submitting.may_get m c.args.table.now.table.shared.key.disks (section_serial v) c.args.b.now c.args.e.now v c.in-Run.job c.requires.placed c.requires.new c.requires.words c.requires.admits c.in-Run.ensures.value in
    subst (λ (d : ℕ). MayGet m c.look_up.new.section.seat.now.base.me.0 d) (sym c.disk_number.ensures)
    (subst (λ (z : Me (Option g.row.S.Denot) Told). MayGet m z.0 (disk_of c.in-Run.job)) (sym c.look_up.ensures.view) may)
