use Rattle.std.proofs.Common.{Option, List, get_or, ◌≡◌, ◌<◌, ◌∷◌, ◌+◌, ◌-◌, ◌%◌, ◌∙◌, ℕ, length, sym, ap, subst, arith}
use Rattle.atomic_table.specs.Table.{Me}
use Rattle.ref_state.specs.declared.state.Mark.{Mark}
use Rattle.table_rule.specs.declared.rule.Told.{Told}
use Rattle.table_rule.specs.Plays.{Folds}
use Rattle.table_rule.specs.Words.{at, SharedOf}
use Rattle.rcu_sections.specs.Grace.{Noted}
use Rattle.percpu_ref.proofs.Adding as adding
use Rattle.percpu_ref.proofs.drains.add_counters.Goals as goal

back : (sum base : ℕ) → sum < 18446744073709551616 → base < 18446744073709551616 → sum ≡ (((sum + (18446744073709551616 - base)) % 18446744073709551616 + 9223372036854775808) % 18446744073709551616 + (base + 9223372036854775808)) % 18446744073709551616
back sum base s b = omega arith

pub fold-requires-clause-folds : goal.fold-requires-clause-folds
fold-requires-clause-folds g c = let e = c.args.editor.now in let y = c.sum_counters-sum.ensures.counted in let sum = c.sum_counters-sum.result in let base : ℕ = get_or e.bases c.args.disk 0 in
    let near : c.args.disk < length e.seat.base.me.0.notes.drains = let n = e.drains_are in let k = c.requires.near.1 in omega arith in
    let is = e.bases_are c.args.disk (let few = e.few_disks in let k = c.requires.near.1 in omega arith) in
    let small : base < 18446744073709551616 = omega arith in
    let delta : ℕ = ((sum + (18446744073709551616 - base)) % 18446744073709551616 + 9223372036854775808) % 18446744073709551616 in
    subst (λ (k : ℕ). Folds c.sum_counters-sum.new.seat.base.me.0.notes k c.args.disk delta) (e.seats_are ∙ sym (ap (λ (z : Me (Option g.row.S.Denot) Told). z.0.seats) y.told))
    (adding.folds_now c.args.disk e.seats sum base delta e.seat.base.me c.sum_counters-sum.new.seat.base.me near (sym c.requires.long) is (back sum base c.sum_counters-sum.type_inv small) y)

pub invariant_of-editor-clause-seats_are : goal.invariant_of-editor-clause-seats_are
invariant_of-editor-clause-seats_are g c = let e = c.args.editor.now in let y = c.sum_counters-sum.ensures.counted in
    let near : c.args.disk < length e.seat.base.me.0.notes.drains = let n = e.drains_are in let k = c.requires.near.1 in omega arith in
    e.seats_are ∙ sym (adding.seats_by c.args.disk e.seats c.sum_counters-sum.new.seat.base.me.0.seats c.sum_counters-sum.result ((at (SharedOf c.args.disk), c.fold.result) ∷ c.sum_counters-sum.new.seat.base.me.0.found) e.seat.base.me c.sum_counters-sum.new.seat.base.me c.fold.new.seat.base.me near y c.fold.ensures.view)

pub invariant_of-editor-clause-drains_are : goal.invariant_of-editor-clause-drains_are
invariant_of-editor-clause-drains_are g c = let e = c.args.editor.now in let y = c.sum_counters-sum.ensures.counted in
    let near : c.args.disk < length e.seat.base.me.0.notes.drains = let n = e.drains_are in let k = c.requires.near.1 in omega arith in
    adding.drains_by c.args.disk e.seats c.sum_counters-sum.new.seat.base.me.0.seats c.sum_counters-sum.result ((at (SharedOf c.args.disk), c.fold.result) ∷ c.sum_counters-sum.new.seat.base.me.0.found) e.seat.base.me c.sum_counters-sum.new.seat.base.me c.fold.new.seat.base.me near y c.fold.ensures.view ∙ e.drains_are

pub invariant_of-editor-clause-long : goal.invariant_of-editor-clause-long
invariant_of-editor-clause-long g c = let e = c.args.editor.now in let y = c.sum_counters-sum.ensures.counted in
    let near : c.args.disk < length e.seat.base.me.0.notes.drains = let n = e.drains_are in let k = c.requires.near.1 in omega arith in
    ap length (adding.marks_by c.args.disk e.seats c.sum_counters-sum.new.seat.base.me.0.seats c.sum_counters-sum.result ((at (SharedOf c.args.disk), c.fold.result) ∷ c.sum_counters-sum.new.seat.base.me.0.found) e.seat.base.me c.sum_counters-sum.new.seat.base.me c.fold.new.seat.base.me near y c.fold.ensures.view) ∙ e.long

pub invariant_of-editor-clause-noted : goal.invariant_of-editor-clause-noted
invariant_of-editor-clause-noted g c = let e = c.args.editor.now in let y = c.sum_counters-sum.ensures.counted in
    let near : c.args.disk < length e.seat.base.me.0.notes.drains = let n = e.drains_are in let k = c.requires.near.1 in omega arith in
    subst (λ (ms : List Mark). Noted e.seats e.words ms) (sym (adding.marks_by c.args.disk e.seats c.sum_counters-sum.new.seat.base.me.0.seats c.sum_counters-sum.result ((at (SharedOf c.args.disk), c.fold.result) ∷ c.sum_counters-sum.new.seat.base.me.0.found) e.seat.base.me c.sum_counters-sum.new.seat.base.me c.fold.new.seat.base.me near y c.fold.ensures.view)) e.noted

pub invariant_of-editor-clause-bases_are : goal.invariant_of-editor-clause-bases_are
invariant_of-editor-clause-bases_are g c = let e = c.args.editor.now in let y = c.sum_counters-sum.ensures.counted in
    let near : c.args.disk < length e.seat.base.me.0.notes.drains = let n = e.drains_are in let k = c.requires.near.1 in omega arith in
    adding.bases_set e.bases c.args.disk c.sum_counters-sum.result e.seat.base.me.0.notes c.fold.new.seat.base.me.0.notes (omega arith)
    (sym (adding.base_here c.args.disk e.seats c.sum_counters-sum.new.seat.base.me.0.seats c.sum_counters-sum.result ((at (SharedOf c.args.disk), c.fold.result) ∷ c.sum_counters-sum.new.seat.base.me.0.found) e.seat.base.me c.sum_counters-sum.new.seat.base.me c.fold.new.seat.base.me near y c.fold.ensures.view (sym c.requires.long)))
    (λ q ne. adding.base_there c.args.disk e.seats c.sum_counters-sum.new.seat.base.me.0.seats c.sum_counters-sum.result ((at (SharedOf c.args.disk), c.fold.result) ∷ c.sum_counters-sum.new.seat.base.me.0.found) e.seat.base.me c.sum_counters-sum.new.seat.base.me c.fold.new.seat.base.me near y c.fold.ensures.view q ne) e.bases_are

pub returns-clause-folds : goal.returns-clause-folds
returns-clause-folds g c = let e = c.args.editor.now in let y = c.sum_counters-sum.ensures.counted in
    let near : c.args.disk < length e.seat.base.me.0.notes.drains = let n = e.drains_are in let k = c.requires.near.1 in omega arith in
    adding.folds_at c.args.disk e.seats c.sum_counters-sum.new.seat.base.me.0.seats c.sum_counters-sum.result ((at (SharedOf c.args.disk), c.fold.result) ∷ c.sum_counters-sum.new.seat.base.me.0.found) e.seat.base.me c.sum_counters-sum.new.seat.base.me c.fold.new.seat.base.me near y c.fold.ensures.view e.seats_are
