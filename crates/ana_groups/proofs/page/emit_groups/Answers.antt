use Rattle.std.proofs.Common.{◌≡◌, ◌+◌, ◌∙◌, length, length-append, arith, refl}
use Rattle.sqe_cqe.specs.Answers.{view_of}
use Rattle.look_pages.specs.Pages.{those, if_one, Emits}
use Rattle.look_pages.proofs.Walks.{those-next}
use Rattle.look_pages.proofs.Parts.{emits_none, emits_both}
use Rattle.ana_groups.specs.declared.members.TheConstants.{GROUPS}
use Rattle.ana_groups.specs.AnaPage.{is_reported, groups_bytes}
use Rattle.ana_groups.proofs.Reported.{groups_none, groups_append, reported-at}
use Rattle.ana_groups.proofs.page.emit_groups.Goals as goal

pub loop-i-init : goal.loop-i-init
loop-i-init g c =
    let v = view_of (g.L.Look.told (g.L.Look.behind c.args.look.now)) c.args.b.now in
    rw (groups_none v c.args.rgo) (record { behind = refl; place = refl; low = omega arith; emits = emits_none c.args.offset 16 c.args.to.now })

pub loop-i-preserved : goal.loop-i-preserved
loop-i-preserved g c =
    let v = view_of (g.L.Look.told (g.L.Look.behind c.args.look.now)) c.args.b.now in
    let p = is_reported v in
    let old = groups_bytes v c.args.rgo (those p c.loop-i.i) in
    let new = groups_bytes v c.args.rgo (if_one p (c.loop-i.i + 1)) in
    let emits : Emits c.args.offset c.loop-i.place c.loop-i.to c.emit_in_page-place.new.to new = rw (← c.loop-i.invariant.behind) c.emit_in_page-place.ensures.emits in
    let at : c.emit_in_page-place.result ≡ c.loop-i.place + length new = rw (← c.loop-i.invariant.behind) c.emit_in_page-place.ensures.at in
    let next : Emits c.args.offset (16 + length old) c.loop-i.to c.emit_in_page-place.new.to new = rw (← c.loop-i.invariant.place) emits in
    rw (those-next p c.loop-i.i, groups_append v c.args.rgo (those p c.loop-i.i) (if_one p (c.loop-i.i + 1))) (record {
      behind = c.emit_in_page-place.ensures.behind ∙ c.loop-i.invariant.behind;
      place = omega (arith, at, c.loop-i.invariant.place, length-append old new);
      low = omega (arith, c.emit_in_page-place.ensures.few, c.loop-i.invariant.low);
      emits = emits_both c.args.offset 16 _ _ _ old new c.loop-i.invariant.emits next;
    })

pub returns-clause-emits : goal.returns-clause-emits
returns-clause-emits g c =
    let v = view_of (g.L.Look.told (g.L.Look.behind c.args.look.now)) c.args.b.now in
    let end : c.loop-i.i ≡ GROUPS = omega arith in
    rw (reported-at v c.loop-i.i end) c.loop-i.invariant.emits
