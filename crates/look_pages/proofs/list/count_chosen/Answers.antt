use Rattle.std.proofs.Common.{◌≡◌, ℕ, ◌+◌, ◌<◌, ◌≤◌, Bool, true, false, length, arith, refl, sym, ◌∙◌, ap, cond}
use Rattle.sqe_cqe.specs.Answers.{View, view_of}
use Rattle.look_pages.specs.Chosen.{is_chosen, chosen_nsids}
use Rattle.look_pages.specs.Pages.{those}
use Rattle.look_pages.proofs.Walks.{length-those, length-those_yes, length-those_no}
use Rattle.look_pages.proofs.list.count_chosen.Goals as goal
use Rattle.look_pages.proofs.list.count_chosen.Goals.{then-chosen, else-chosen}

pub overflow_add-count : goal.overflow_add-count
overflow_add-count g c =
    let p = is_chosen c.args.choice (view_of (g.L.Look.told (g.L.Look.behind c.args.look.now)) c.args.b.now) in
    omega (arith, length-those p c.loop-at.at, c.loop-at.invariant.count)

pub loop-at-preserved : goal.loop-at-preserved
loop-at-preserved g c =
    let p = is_chosen c.args.choice (view_of (g.L.Look.told (g.L.Look.behind c.args.look.now)) c.args.b.now) in
    let here : p (c.loop-at.at + 1) ≡ c.chosen.result = rw (← c.loop-at.invariant.behind) (sym c.chosen.ensures.value) in
    record {
      behind = c.chosen.ensures.behind ∙ c.loop-at.invariant.behind;
      count = elim c.if-chosen.branch [
        | then-chosen w ↦ omega (arith, length-those_yes p c.loop-at.at (here ∙ w.if-chosen.true), w.count-is, c.loop-at.invariant.count)
        | else-chosen w ↦ omega (arith, length-those_no p c.loop-at.at (here ∙ w.if-chosen.false), w.count-is, c.loop-at.invariant.count)
      ];
    }

pub returns-clause-value : goal.returns-clause-value
unfolding chosen_nsids
returns-clause-value g c =
    let p = is_chosen c.args.choice (view_of (g.L.Look.told (g.L.Look.behind c.args.look.now)) c.args.b.now) in
    let end : c.loop-at.at ≡ (g.L.Look.told (g.L.Look.behind c.args.look.now)).offers.nsids = rw (← c.offers-offers.ensures.value) (omega arith) in
    c.loop-at.invariant.count ∙ ap (λ (n : ℕ). length (those p n)) end
