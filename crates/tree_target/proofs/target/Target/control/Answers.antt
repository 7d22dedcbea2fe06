use Rattle.std.proofs.Common.{◌≡◌, Bool, ◌≤◌, ℕ, ◌-◌, suc, length, get_or, List, Option, Some, slice_get, refl, ap, ◌∙◌, arith}
use Rattle.std.proofs.lemmas.Option.{slice_get_read}
use Rattle.sqe_cqe.specs.declared.controllers.Binding.{Binding}
use Rattle.sqe_cqe.specs.declared.sqe.Sqe.{Sqe}
use Rattle.sqe_cqe.specs.declared.controllers.Ctrl.{Ctrl}
use Rattle.configfs_tree.specs.declared.configuration.Configuration.{Configuration}
use Rattle.async_events.specs.declared.events.Events.{Events}
use Rattle.change_stamps.specs.Stamps.{Stamps}
use Rattle.sqe_cqe.specs.declared.controllers.ControllerRow.{ControllerRow}
use Rattle.fabrics_connect.specs.declared.answer.Answer.{Answer}
use Rattle.fabrics_connect.specs.declared.answer.Control.{Control}
use Rattle.fabrics_connect.specs.After.{told_by, made_by, is_published}
use Rattle.fabrics_connect.specs.Checks.{control_answer}
use Rattle.tree_target.specs.Controls.{events_made, raised_if}
use Rattle.tree_target.specs.Kept.{Kept, HasQueue, states_made}
use Rattle.tree_target.specs.contracts.target.Target.{the_view}
use Rattle.tree_target.proofs.Controlling.{control_does, control_kept, control_leaves, has_room, made_same, made_room}
use Rattle.tree_target.proofs.target.Target.control.Goals as goal

next : (queue : ℕ) → 1 ≤ queue → queue ≡ suc (queue - 1)
next queue low = omega arith

read_at : (k now : Kept) (queue : ℕ) (b : Binding) → k ≡ now → HasQueue now queue
    → b ≡ get_or k.bindings (queue - 1) b → slice_get k.bindings (queue - 1) ≡ Some b
read_at k now queue b same h is =
    let low = h.low in
    let high = h.high in
    let len : length k.bindings ≡ length now.bindings = ap (λ (x : Kept). length x.bindings) same in
    slice_get_read k.bindings (length k.bindings) (queue - 1) b refl (omega (arith, low, high, len))
    is

pub control-told-requires-clause-room : goal.control-told-requires-clause-room
control-told-requires-clause-room c = has_room (the_view c.self.inside) _ (c.args.queue - 1)
    c.index.result.now c.index.result.now.bound refl
    (read_at (the_view c.self.inside) c.args.self.now c.args.queue c.index.result.now
    c.self.view_is c.requires.queue c.index.ensures) c.self.invariant

stamps_are : (cs : List ControllerRow) (b : Binding) (a : Answer) (s new : Stamps)
    (published : Bool) → published ≡ is_published cs b a → new ≡ raised_if published s
    → new ≡ raised_if (is_published cs b a) s
stamps_are cs b a s new published is e = e ∙ ap (λ (x : Bool). raised_if x s) is

states_are : (t : Configuration) (cs : List ControllerRow) (b : Binding) (s raised_to : Stamps)
    (since : ℕ) (os new : List Events) (e : Sqe) (a : Answer) (made : Option Ctrl)
    → raised_to ≡ raised_if (is_published cs b a) s → since ≡ raised_to.serial
    → made ≡ made_by t a → new ≡ states_made since os e made → new ≡ events_made s os e a
states_are t cs b s raised_to since os new e a made r at is e1 =
    e1 ∙ (ap (λ (n : ℕ). states_made n os e made) (at ∙ ap (λ (x : Stamps). x.serial) r)
    ∙ (ap (states_made (raised_if (is_published cs b a) s).serial os e) is
    ∙ made_same t cs b s os e a))

pub add_state-requires : goal.add_state-requires
unfolding told_by
add_state-requires c =
    let told = c.control-told in
    rw told.ensures.told
    (made_room c.self.inside.tree c.self.inside.controllers c.self.inside.states _
    told.ensures.accepted c.self.invariant.states)

pub invariant_of-self : goal.invariant_of-self
unfolding told_by
invariant_of-self c =
    let told = c.control-told in
    let stamps = stamps_are c.self.inside.controllers c.index.result.now
    (control_answer c.self.inside.tree c.self.inside.controllers c.index.result.now c.args.e.now
    c.args.payload.now) c.self.inside.stamps c.raise_if.new.stamps told.result.published
    (ap (λ (x : Control). x.published) told.ensures.told) c.raise_if.ensures in
    let states = states_are c.self.inside.tree c.self.inside.controllers c.index.result.now
    c.self.inside.stamps c.raise_if.new.stamps c.serial.result c.self.inside.states
    c.add_state.new.states c.args.e.now
    (control_answer c.self.inside.tree c.self.inside.controllers c.index.result.now c.args.e.now
    c.args.payload.now) told.result.made stamps c.serial.ensures
    (ap (λ (x : Control). x.made) told.ensures.told) c.add_state.ensures in
    let counted = rw (told.ensures.tree, told.ensures.controllers) at told.ensures.attached in
    rw (told.ensures.tree, told.ensures.controllers, told.ensures.binding, states, stamps)
    (control_kept (the_view c.self.inside) (c.args.queue - 1) c.args.number c.args.e.now
    c.args.payload.now c.index.result.now c.certify.ensures c.self.invariant.joined
    told.ensures.accepted _
    (read_at (the_view c.self.inside) c.args.self.now c.args.queue c.index.result.now
    c.self.view_is c.requires.queue c.index.ensures) counted c.self.invariant)

pub returns-clause-does : goal.returns-clause-does
unfolding told_by
returns-clause-does c =
    let told = c.control-told in
    let stamps = stamps_are c.self.inside.controllers c.index.result.now
    (control_answer c.self.inside.tree c.self.inside.controllers c.index.result.now c.args.e.now
    c.args.payload.now) c.self.inside.stamps c.raise_if.new.stamps told.result.published
    (ap (λ (x : Control). x.published) told.ensures.told) c.raise_if.ensures in
    let states = states_are c.self.inside.tree c.self.inside.controllers c.index.result.now
    c.self.inside.stamps c.raise_if.new.stamps c.serial.result c.self.inside.states
    c.add_state.new.states c.args.e.now
    (control_answer c.self.inside.tree c.self.inside.controllers c.index.result.now c.args.e.now
    c.args.payload.now) told.result.made stamps c.serial.ensures
    (ap (λ (x : Control). x.made) told.ensures.told) c.add_state.ensures in
    rw (
      ← c.self.view_is,
      told.ensures.told,
      told.ensures.tree,
      told.ensures.controllers,
      told.ensures.binding,
      states,
      stamps,
    )
    (control_does (the_view c.self.inside) (c.args.queue - 1) c.args.number c.args.e.now
    c.args.payload.now c.index.result.now c.certify.ensures c.self.invariant.joined
    told.ensures.accepted c.args.queue (next c.args.queue c.requires.queue.low)
    (read_at (the_view c.self.inside) c.args.self.now c.args.queue c.index.result.now
    c.self.view_is c.requires.queue c.index.ensures))

pub returns-clause-others : goal.returns-clause-others
unfolding told_by
returns-clause-others c =
    let told = c.control-told in
    let stamps = stamps_are c.self.inside.controllers c.index.result.now
    (control_answer c.self.inside.tree c.self.inside.controllers c.index.result.now c.args.e.now
    c.args.payload.now) c.self.inside.stamps c.raise_if.new.stamps told.result.published
    (ap (λ (x : Control). x.published) told.ensures.told) c.raise_if.ensures in
    let states = states_are c.self.inside.tree c.self.inside.controllers c.index.result.now
    c.self.inside.stamps c.raise_if.new.stamps c.serial.result c.self.inside.states
    c.add_state.new.states c.args.e.now
    (control_answer c.self.inside.tree c.self.inside.controllers c.index.result.now c.args.e.now
    c.args.payload.now) told.result.made stamps c.serial.ensures
    (ap (λ (x : Control). x.made) told.ensures.told) c.add_state.ensures in
    rw (
      ← c.self.view_is,
      told.ensures.tree,
      told.ensures.controllers,
      told.ensures.binding,
      states,
      stamps,
    )
    (control_leaves (the_view c.self.inside) c.args.queue (c.args.queue - 1) c.args.e.now
    c.index.result.now _
    (next c.args.queue c.requires.queue.low))
