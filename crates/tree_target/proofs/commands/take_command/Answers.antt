use Rattle.std.proofs.Common.{◌≡◌, ap, sym, ◌∙◌, List, Some, None}
use Rattle.std.specs.List.{position}
use Rattle.tree_target.specs.Model.{is_command}
use Rattle.tree_target.specs.declared.calls.Command.{Command}
use Rattle.tree_target.proofs.Taking.{none_found, none_taken, one_found, one_taken}
use Rattle.tree_target.proofs.commands.take_command.Goals as goal

pub returns-in-None-clause-command : goal.returns-in-None-clause-command
returns-in-None-clause-command c =
    let e : position (is_command c.args.queue c.args.number) c.args.held.now.items ≡ None = ap (λ
    (x : List Command). position (is_command c.args.queue c.args.number) x) (sym
    c.deref.ensures.value) ∙ sym c.in-None.ensures in
    sym (none_found (is_command c.args.queue c.args.number) c.args.held.now.items e)

pub returns-in-None-clause-rest : goal.returns-in-None-clause-rest
returns-in-None-clause-rest c =
    let e : position (is_command c.args.queue c.args.number) c.args.held.now.items ≡ None = ap (λ
    (x : List Command). position (is_command c.args.queue c.args.number) x) (sym
    c.deref.ensures.value) ∙ sym c.in-None.ensures in
    none_taken (is_command c.args.queue c.args.number) c.args.held.now.items e

pub returns-in-Some-clause-command : goal.returns-in-Some-clause-command
returns-in-Some-clause-command c =
    let e : position (is_command c.args.queue c.args.number) c.args.held.now.items ≡ Some
    c.in-Some.at = ap (λ (x : List Command). position (is_command c.args.queue c.args.number)
    x) (sym c.deref.ensures.value) ∙ sym c.in-Some.ensures in
    one_found (is_command c.args.queue c.args.number) c.args.held.now.items c.in-Some.at
    c.take_out.result e c.take_out.ensures.value

pub returns-in-Some-clause-rest : goal.returns-in-Some-clause-rest
returns-in-Some-clause-rest c =
    let e : position (is_command c.args.queue c.args.number) c.args.held.now.items ≡ Some
    c.in-Some.at = ap (λ (x : List Command). position (is_command c.args.queue c.args.number)
    x) (sym c.deref.ensures.value) ∙ sym c.in-Some.ensures in
    c.take_out.ensures.items ∙ one_taken (is_command c.args.queue c.args.number)
    c.args.held.now.items c.in-Some.at e
