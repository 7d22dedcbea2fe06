use Rattle.std.proofs.Common.{Option, ◌≡◌, ◌++◌, ◌∙◌, ℕ, List, refl, sym, ap, subst, length, ◌<◌}
use Rattle.atomic_table.specs.Table.{Me}
use Rattle.ref_state.specs.declared.kinds.Tag.{Tag}
use Rattle.ref_state.specs.State.{drain, overlaid}
use Rattle.rcu_sections.specs.Grace.{round}
use Rattle.table_rule.specs.declared.rule.Told.{Told}
use Rattle.table_rule.specs.Meant.{target}
use Rattle.patched_tables.specs.Patching.{patch_at, patch_means}
use Rattle.patched_tables.specs.Keeping.{Keeps, disks}
use Rattle.patched_tables.proofs.Keepers as keepers
use Rattle.patched_tables.proofs.publishing.publish_patch.Goals as goal

pub publish-requires-clause-live : goal.publish-requires-clause-live
publish-requires-clause-live g c =
    let o = g.I.Patches.opened in let ps = g.I.Patches.patches in let t = c.spare.ensures.told in
    let a = c.spare.new.editor.seat.base.me.0 in
    let begun = keepers.keeps_after o ps c.args.last.now t.0 c.args.editor.now.seat.base.me.0 a (ap (λ (z : Me (Option ℕ) Told). z.0) t.1) c.requires.keeps in
    λ d near shown. ap (λ (z : Told). (drain z.notes d).phase) (c.if-not-set_both.ensures.set refl) ∙ begun.live d (subst (λ n. d < n) c.requires.plan.2 near)

pub publish-requires-clause-words : goal.publish-requires-clause-words
publish-requires-clause-words g c =
    let o = g.I.Patches.opened in let ps = g.I.Patches.patches in let t = c.spare.ensures.told in
    let a = c.spare.new.editor.seat.base.me.0 in let w = c.set_both.new.editor.seat.base.me.0 in
    let last = c.args.last.now in let patch = c.args.patch.now in
    let begun = keepers.keeps_after o ps last t.0 c.args.editor.now.seat.base.me.0 a (ap (λ (z : Me (Option ℕ) Told). z.0) t.1) c.requires.keeps in
    let set = c.if-not-set_both.ensures.set refl in
    λ x steady long. ap (λ (l : List ℕ). overlaid l (patch_at ps c.args.number)) steady.words
    ∙ (ap (λ (p : List (ℕ × ℕ)). overlaid (target (patch_means o ps) w.known) p) (sym c.requires.patch)
    ∙ sym (keepers.spare_is o ps last patch a w begun set
    ∙ (ap (λ (l : List ℕ). overlaid l patch) begun.shown ∙ sym (ap (λ (z : Told). overlaid (target (patch_means o ps) z.known) patch) set))))

pub returns-clause-keeps : goal.returns-clause-keeps
returns-clause-keeps g c =
    let o = g.I.Patches.opened in let ps = g.I.Patches.patches in let t = c.spare.ensures.told in
    let a = c.spare.new.editor.seat.base.me.0 in let w = c.set_both.new.editor.seat.base.me.0 in
    let last = c.args.last.now in let patch = c.args.patch.now in
    let begun = keepers.keeps_after o ps last t.0 c.args.editor.now.seat.base.me.0 a (ap (λ (z : Me (Option ℕ) Told). z.0) t.1) c.requires.keeps in
    let set = c.if-not-set_both.ensures.set refl in
    let p = c.publish.ensures.published in
    let tag : Tag = record { kind = 6; caller = 0; number = c.args.number } in
    let shows = c.publish.ensures.shows (keepers.spare_long o ps last patch a w begun set ∙ sym (c.requires.plan.0 ∙ c.requires.plan.1)) in
    let then = keepers.published_keeps o ps c.publish.result.0 c.publish.result.1 tag last patch a w p.0 begun set p.1
    (ap (λ (z : Told). target (patch_means o ps) z.known) (sym p.2) ∙ shows) in
    keepers.keeps_after o ps patch (round c.set_both.new.editor.seats c.publish.new.editor.words) p.0 c.publish.new.editor.seat.base.me.0 p.2 then
