use Rattle.std.proofs.Common.{ℕ, ◌+◌, refl, ap, ◌∙◌}
use Rattle.ns_table.specs.Words.{opened_shape}
use Rattle.ns_table.proofs.Patched.{next-part, part-value}
use Rattle.ns_table.proofs.patches.put_space.Goals as goal

pub loop-part-preserved : goal.loop-part-preserved
loop-part-preserved c =
    let x = opened_shape c.args.look.now.tree.now c.args.look.now.controllers.now c.args.look.now.disks.now in
    record {
      words = next-part x c.args.sub c.args.nsid c.loop-part.part c.ns_word.result c.space_word.result c.loop-part.p c.put.new.self c.loop-part.invariant.words c.ns_word.ensures.value
          (part-value x c.args.sub c.args.nsid c.loop-part.part c.space_word.result c.ns-seen.result c.ns-seen.ensures.value c.space_word.ensures refl) c.put.ensures.value;
      len = c.put.ensures.len ∙ ap (λ (k : ℕ). k + 1) c.loop-part.invariant.len;
    }
