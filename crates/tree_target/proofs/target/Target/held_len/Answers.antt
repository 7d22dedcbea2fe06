use Rattle.std.proofs.Common.{◌≡◌, List, Some, ap, sym, ◌∙◌}
use Rattle.std.specs.List.{find}
use Rattle.tree_target.specs.declared.calls.Command.{Command}
use Rattle.tree_target.specs.Model.{is_command}
use Rattle.tree_target.specs.contracts.target.Target.{the_view}
use Rattle.tree_target.proofs.Executing.{held_fits, given_at}
use Rattle.tree_target.proofs.target.Target.held_len.Goals as goal

pub given-requires : goal.given-requires
given-requires c =
    let found : find (is_command c.args.queue c.args.number) c.self.inside.held.items
    ≡ Some c.in-Some.command = ap (λ (x : List Command). find (is_command c.args.queue
    c.args.number) x) (sym c.deref.ensures.value) ∙ sym c.in-Some.ensures in
    rw c.deref-in-Some.ensures.value (held_fits (the_view c.self.inside) _ c.args.queue
    c.args.number c.in-Some.command c.self.invariant found)

pub returns-in-Some-clause-short : goal.returns-in-Some-clause-short
returns-in-Some-clause-short c =
    let found : find (is_command c.args.queue c.args.number) c.self.inside.held.items
    ≡ Some c.in-Some.command = ap (λ (x : List Command). find (is_command c.args.queue
    c.args.number) x) (sym c.deref.ensures.value) ∙ sym c.in-Some.ensures in
    rw (c.given.ensures, c.deref-in-Some.ensures.value) (given_at (the_view c.self.inside) _
    c.args.queue c.args.number c.in-Some.command c.self.invariant found)
