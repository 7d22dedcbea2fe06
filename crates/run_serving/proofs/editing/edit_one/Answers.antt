use Rattle.std.proofs.Common.{◌∙◌, ℕ, sym, refl}
use Rattle.tree_target.specs.Kept.{IsIdle}
use Rattle.run_serving.proofs.Scripting.{makes_edit, makes_end, may_end_is, serves_plain, serves_closed, serves_ended, idle_along}
use Rattle.run_serving.proofs.editing.edit_one.Goals as goal

pub returns-in_default-clause-idle : goal.returns-in_default-clause-idle
returns-in_default-clause-idle c = idle_along c.args.target.now c.edit.new.self
    c.in_ok-reply.ensures.held c.requires.idle

pub returns-in_default-clause-serves : goal.returns-in_default-clause-serves
returns-in_default-clause-serves c = serves_plain c.args.edit.now _ _ _ _ _ _
    (sym c.disables.ensures ∙ c.in_default.is)
    (makes_edit c.args.edit.now _ _ _ _ _ _ _ _ _ c.in_ok-reply.ensures.does
    c.in_ok-add_edit.ensures.adds refl refl refl)

pub returns-then-not-may_end-clause-idle : goal.returns-then-not-may_end-clause-idle
returns-then-not-may_end-clause-idle c = idle_along c.args.target.now c.edit.new.self
    c.in_ok-reply.ensures.held c.requires.idle

pub returns-then-not-may_end-clause-serves : goal.returns-then-not-may_end-clause-serves
returns-then-not-may_end-clause-serves c =
    let idle : (q : ℕ) → IsIdle c.edit.new.self q =
    idle_along c.args.target.now c.edit.new.self c.in_ok-reply.ensures.held c.requires.idle in
    let s = c.in-Some.space in
    serves_closed c.args.edit.now s _ _ _ _ _ _ (sym c.disables.ensures ∙ c.in-Some.is)
    (sym (may_end_is c.edit.new.self s.sub s.nsid idle) ∙ sym c.may_end.ensures
    ∙ c.if-not-may_end.true)
    (makes_edit c.args.edit.now _ _ _ _ _ _ _ _ _ c.in_ok-reply.ensures.does
    c.in_ok-add_edit.ensures.adds refl refl refl)

pub returns-clause-idle : goal.returns-clause-idle
returns-clause-idle c = idle_along c.edit.new.self c.end_drain.new.self c.end_drain.ensures.held
    (idle_along c.args.target.now c.edit.new.self c.in_ok-reply.ensures.held c.requires.idle)

pub returns-clause-serves : goal.returns-clause-serves
returns-clause-serves c =
    let idle : (q : ℕ) → IsIdle c.edit.new.self q =
    idle_along c.args.target.now c.edit.new.self c.in_ok-reply.ensures.held c.requires.idle in
    let s = c.in-Some.space in
    serves_ended c.args.edit.now _ _ _ _ _ _ _ _ _
    (makes_edit c.args.edit.now _ _ _ _ _ _ _ _ _ c.in_ok-reply.ensures.does
    c.in_ok-add_edit.ensures.adds refl refl refl)
    (makes_end c.args.edit.now s _ _ _ _ _ c.end_drain.result _ c.end_drain.ensures.does
    c.in_ok-add_done.ensures.adds refl
    (sym c.disables.ensures ∙ c.in-Some.is)
    (sym (may_end_is c.edit.new.self s.sub s.nsid idle) ∙ sym c.may_end.ensures
    ∙ c.if-not-may_end.false))
