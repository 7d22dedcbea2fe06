use Rattle.std.proofs.Common.{◌≡◌, ◌+◌, ◌∙◌, sym, ap, length, arith, ℕ}
use Rattle.sqe_cqe.specs.Answers.{view_of}
use Rattle.look_pages.specs.Pages.{those}
use Rattle.look_pages.proofs.Walks.{length-those, length-those_yes, length-those_no}
use Rattle.ana_groups.specs.declared.members.TheConstants.{GROUPS}
use Rattle.ana_groups.specs.AnaPage.{is_reported, reported}
use Rattle.ana_groups.proofs.page.count_groups.Goals as goal
use Rattle.ana_groups.proofs.page.count_groups.Goals.{then-in_page, else-in_page}

pub overflow_add-groups : goal.overflow_add-groups
overflow_add-groups g c =
    let p = is_reported (view_of (g.L.Look.told (g.L.Look.behind c.args.look.now)) c.args.b.now) in
    omega (arith, length-those p c.loop-i.i, c.loop-i.invariant.count)

pub loop-i-preserved : goal.loop-i-preserved
loop-i-preserved g c =
    let p = is_reported (view_of (g.L.Look.told (g.L.Look.behind c.args.look.now)) c.args.b.now) in
    let here : p (c.loop-i.i + 1) ≡ c.in_page.result = rw (← c.loop-i.invariant.behind) (sym c.in_page.ensures.value) in
    record {
      behind = c.in_page.ensures.behind ∙ c.loop-i.invariant.behind;
      count = elim c.if-in_page.branch [
        | then-in_page w ↦ omega (arith, length-those_yes p c.loop-i.i (here ∙ w.if-in_page.true), w.groups-is, c.loop-i.invariant.count)
        | else-in_page w ↦ omega (arith, length-those_no p c.loop-i.i (here ∙ w.if-in_page.false), w.groups-is, c.loop-i.invariant.count)
      ];
    }

pub returns-clause-value : goal.returns-clause-value
unfolding reported
returns-clause-value g c =
    let p = is_reported (view_of (g.L.Look.told (g.L.Look.behind c.args.look.now)) c.args.b.now) in
    let end : c.loop-i.i ≡ GROUPS = omega arith in
    c.loop-i.invariant.count ∙ ap (λ (n : ℕ). length (those p n)) end
