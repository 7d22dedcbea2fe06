use Rattle.std.proofs.Common.{◌≡◌, ℕ, suc, ◌+◌, ◌<◌, ◌∙◌, List, length, get_or, slice_set, ap, arith}
use Rattle.ref_state.specs.declared.state.Drain.{Drain}
use Rattle.ref_state.specs.State.{no_drain}
use Rattle.ref_state.specs.Steps.{at_drain}
use Rattle.ref_rule.proofs.Mapped.{mapped, mapped_at, mapped_step}
use Rattle.ref_rule.proofs.sections.look_drains.Goals as goal

-- the next drain is looked at
one_more : (f : Drain → Drain) (init now : List Drain) (i : ℕ) (was is : Drain) → i < length init
    → now ≡ mapped f init i → was ≡ get_or now i no_drain → is ≡ f was
    → slice_set now i is ≡ mapped f init (i + 1)
one_more f init now i was is near same at made =
    let was' : was ≡ get_or init i no_drain = at
    ∙ (ap (λ (l : List Drain). get_or l i no_drain) same ∙ mapped_at f init i no_drain) in
    let is' : is ≡ f (get_or init i no_drain) = made ∙ ap f was' in
    (λ k. slice_set (same k) i (is' k)) ∙ (mapped_step f init i no_drain near
    ∙ ap (λ n. mapped f init n) (let e : suc i ≡ i + 1 = omega arith in e))

pub loop-i-preserved : goal.loop-i-preserved
loop-i-preserved c = one_more (at_drain c.args.other c.args.word) c.args.drains.now c.loop-i.drains
    c.loop-i.i c.at_mut.result.now c.look_drain.new.drain
    (let a = c.loop-i-test.true in let b = c.len-i-end.ensures in
    omega arith) c.loop-i.invariant (c.at_mut.ensures.value no_drain) c.look_drain.ensures
