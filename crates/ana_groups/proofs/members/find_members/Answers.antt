use Rattle.std.proofs.Common.{◌≡◌, ◌+◌, ◌-◌, ◌∙◌, ℕ, List, sym, refl, subst, arith}
use Rattle.sqe_cqe.specs.Answers.{view_of}
use Rattle.look_pages.specs.declared.list.Choice.TheVariants.{InGroup}
use Rattle.look_pages.specs.Chosen.{is_chosen, chosen_nsids}
use Rattle.ana_groups.specs.Chains.{AreAbove, Holds}
use Rattle.ana_groups.proofs.Chains.{length-those_above, those_all}
use Rattle.ana_groups.proofs.Reported.{get_or-zeros}
use Rattle.ana_groups.proofs.members.find_members.Goals as goal

pub loop-i-init : goal.loop-i-init
loop-i-init g c = record {
  behind = c.offers-offers.ensures.behind;
  above = record {
    within = record { first = λ k. omega (arith, get_or-zeros 129 k); next = λ k. omega (arith, get_or-zeros 2049 k) };
    groups = λ k small. record { chain = get_or-zeros 129 k; count = get_or-zeros 129 k };
  };
}

pub link_enabled-requires-clause-few : goal.link_enabled-requires-clause-few
link_enabled-requires-clause-few g c = λ k small.
    let v = view_of (g.L.Look.told (g.L.Look.behind c.args.look.now)) c.args.b.now in
    let low = c.offers-offers.result.nsids - c.loop-i.i in
    omega (arith, (c.loop-i.invariant.above.groups k small).count, length-those_above (is_chosen (InGroup k) v) low c.loop-i.i)

pub loop-i-preserved : goal.loop-i-preserved
loop-i-preserved g c =
    let v = view_of (g.L.Look.told (g.L.Look.behind c.args.look.now)) c.args.b.now in
    let nsids = c.offers-offers.result.nsids in
    let i = c.loop-i.i in
    let at : nsids - 1 - i + 1 ≡ nsids - i = omega arith in
    let next : nsids - (i + 1) ≡ nsids - 1 - i = omega arith in
    let before : AreAbove v (nsids - 1 - i + 1) i c.loop-i.members =
    subst (λ (n : ℕ). AreAbove v n i c.loop-i.members) (sym at) c.loop-i.invariant.above in
    let link : AreAbove v (nsids - 1 - i + 1) i c.loop-i.members → AreAbove v (nsids - 1 - i) (i + 1) c.link_enabled.new.members =
    rw (← c.loop-i.invariant.behind) (c.link_enabled.ensures.above i) in
    record {
      behind = c.link_enabled.ensures.behind ∙ c.loop-i.invariant.behind;
      above = subst (λ (n : ℕ). AreAbove v n (i + 1) c.link_enabled.new.members) (sym next) (link before);
    }

pub returns-clause-value : goal.returns-clause-value
unfolding chosen_nsids
returns-clause-value g c =
    let v = view_of (g.L.Look.told (g.L.Look.behind c.args.look.now)) c.args.b.now in
    let nsids = c.offers-offers.result.nsids in
    let offered : nsids ≡ v.offers.nsids = rw c.offers-offers.ensures.value refl in
    let end : c.loop-i.i ≡ nsids = omega arith in
    let none : nsids - c.loop-i.i ≡ 0 = omega arith in
    let last : AreAbove v (nsids - c.loop-i.i) v.offers.nsids c.loop-i.members =
    subst (λ (n : ℕ). AreAbove v (nsids - c.loop-i.i) n c.loop-i.members) (end ∙ offered) c.loop-i.invariant.above in
    let all : AreAbove v 0 v.offers.nsids c.loop-i.members =
    subst (λ (n : ℕ). AreAbove v n v.offers.nsids c.loop-i.members) none last in
    record {
      within = all.within;
      groups = λ k small. subst (λ (list : List ℕ). Holds c.loop-i.members k list) (those_all (is_chosen (InGroup k) v) v.offers.nsids) (all.groups k small);
    }
