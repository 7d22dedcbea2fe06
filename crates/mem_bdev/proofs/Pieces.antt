-- Blocks of a disk after a write, one by one.
use Rattle.std.proofs.Common.{◌≡◌, ◌<◌, ◌≤◌, ℕ, zero, suc, ◌+◌, ◌*◌, ◌/◌, ◌^◌, List, [], length, take, drop, refl, subst, ◌∙◌, arith, slice_index_or}
use Rattle.std.proofs.lemmas.Grind.{common_steps}
use Rattle.std.proofs.lemmas.List.{drop-drop}
use Rattle.mem_bdev.specs.Blocks.{Blocks, cut, with_blocks, written, IsWhole}
use Rattle.mem_bdev.specs.ByBlock.{block, KeepsOthers, IsWriteOf}
use Rattle.mem_bdev.proofs.Cuts.{suc-mul, length-cut}

piece-at : (n size i : ℕ) (bytes : List ℕ) → i < n → slice_index_or (cut n size bytes) i [] ≡ take size (drop (i * size) bytes)
piece-at zero size i bytes lt = absurd (omega arith)
piece-at (suc n) size zero bytes lt = let none : 0 * size ≡ 0 = grind arith in rw none refl
piece-at (suc n) size (suc i) bytes lt = piece-at n size i (drop size bytes) (omega arith) ∙ rw (suc-mul i size, drop-drop) refl

keeps_others : (d : Blocks) (lba : ℕ) (new : List (List ℕ)) → lba + length new ≤ length d.blocks → KeepsOthers d lba (length new) (with_blocks d lba new)
keeps_others d lba new inside = record {
  shift = refl;
  blocks = grind (arith, common_steps);
  below = λ i lt. grind (arith, common_steps);
  above = λ i le. grind (arith, common_steps);
}

in_range : (d : Blocks) (lba i : ℕ) (new : List (List ℕ)) → lba + length new ≤ length d.blocks → i < length new → block (with_blocks d lba new) (lba + i) ≡ slice_index_or new i []
in_range d lba i new inside lt = grind (arith, common_steps)

pub write_is : (d : Blocks) (lba : ℕ) (bytes : List ℕ) → IsWhole d lba (length bytes) → IsWriteOf d lba bytes (written d lba bytes)
write_is d lba bytes w =
    let size : ℕ = 2 ^ d.shift in
    let n : ℕ = length bytes / size in
    let count : length (cut n size bytes) ≡ n = length-cut n size bytes in
    let inside : lba + length (cut n size bytes) ≤ length d.blocks = rw count w.inside in
    record {
      others = subst (λ (k : ℕ). KeepsOthers d lba k (with_blocks d lba (cut n size bytes))) count (keeps_others d lba (cut n size bytes) inside);
      range = λ i lt. in_range d lba i (cut n size bytes) inside (rw count lt) ∙ piece-at n size i bytes lt;
    }
