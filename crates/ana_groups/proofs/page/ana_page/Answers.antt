use Rattle.std.proofs.Common.{◌≡◌, ◌+◌, ◌++◌, ◌∙◌, length, arith, refl}
use Rattle.sqe_cqe.specs.Answers.{view_of}
use Rattle.look_pages.specs.Pages.{Emits, zeros}
use Rattle.look_pages.proofs.Parts.{emits_both, written}
use Rattle.ana_groups.specs.AnaPage.{reported, groups_bytes, header_bytes, ana_bytes}
use Rattle.ana_groups.proofs.Reported.{length-header}
use Rattle.ana_groups.proofs.page.ana_page.Goals as goal

pub returns-clause-page : goal.returns-clause-page
unfolding ana_bytes
returns-clause-page g c =
    let v = view_of (g.L.Look.told (g.L.Look.behind c.args.look.now)) c.args.c.now.bound in
    let n = length c.args.to.now in
    let head = header_bytes v.ana_count (length (reported v)) in
    let rest = groups_bytes v c.args.rgo (reported v) in
    let count : c.ana_count-changes.result ≡ v.ana_count = c.ana_count-changes.ensures.value in
    let behind2 = c.find_members-members.ensures.behind ∙ c.ana_count-changes.ensures.behind in
    let groups : c.count_groups-groups.result ≡ length (reported v) = rw (← behind2) c.count_groups-groups.ensures.value in
    let same : c.header.result ≡ head = c.header.ensures ∙ rw (count, groups) refl in
    let behind = c.count_groups-groups.ensures.behind ∙ behind2 in
    let starts : 0 + length head ≡ 16 = omega (arith, length-header v.ana_count (length (reported v))) in
    let first : Emits c.args.offset 0 (zeros n) c.emit.new.to head = rw (← c.clear.ensures, ← same) c.emit.ensures in
    let then : Emits c.args.offset (0 + length head) c.emit.new.to c.emit_groups.new.to rest = rw (starts, ← behind) c.emit_groups.ensures.emits in
    let long : length c.emit_groups.new.to ≡ n = omega arith in
    written c.args.offset n c.emit_groups.new.to (head ++ rest) long (emits_both c.args.offset 0 (zeros n) c.emit.new.to c.emit_groups.new.to head rest first then)
