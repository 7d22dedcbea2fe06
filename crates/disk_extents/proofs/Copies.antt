-- Blocks copied from one disk to another, one by one.
use Rattle.std.proofs.Common.{◌≡◌, ◌≤◌, ◌<◌, ℕ, ◌+◌, ◌-◌, ◌*◌, ◌/◌, ◌^◌, List, [], ◌∷◌, ◌++◌, length, take, drop, replicate, refl, ap, subst, ◌∙◌, arith, append_assoc}
use Rattle.std.proofs.Math.Nat.{mul-div_cancel, one-le-pow}
use Rattle.std.proofs.Math.Seq.{take-length, take-append_seam, drop-append-add}
use Rattle.std.proofs.lemmas.List.{append-nil, length-take, length-drop, drop-drop, drop-replicate, length-replicate}
use Rattle.std.specs.List.{flat_map}
use Rattle.mem_bdev.specs.Blocks.{Blocks, written, range_bytes, zero_blocks}
use Rattle.disk_extents.proofs.Edges.{joined}

first-block : (ys : List (List ℕ)) (size : ℕ) (b : List ℕ) → 0 < length ys → b ≡ flat_map (λ (r : List ℕ). r) (take 1 ys) → length b ≡ size → take size b ∷ [] ≡ take 1 ys
first-block [] size b some is len = absurd (omega arith)
first-block (y ∷ ys) size b some is len =
    let whole : b ≡ y = is ∙ append-nil y in
    let all : take size b ≡ y = rw (← len) (take-length b) ∙ whole in
    ap (λ (r : List ℕ). r ∷ []) all

-- what was read of one block is written as that block
pub one-block : (from to : Blocks) (lba at : ℕ) (b : List ℕ) → lba < length from.blocks → length b ≡ 2 ^ from.shift → to.shift ≡ from.shift
    → b ≡ range_bytes from lba (length b / 2 ^ from.shift)
    → written to at b ≡ record { shift = to.shift; blocks = take at to.blocks ++ (take 1 (drop lba from.blocks) ++ drop (at + 1) to.blocks) }
one-block from to lba at b there len shift is =
    let size = 2 ^ to.shift in
    let own : length b ≡ size = rw shift len in
    let read : b ≡ range_bytes from lba (length b / size) = rw shift is in
    let one : length b / size ≡ 1 = rw own (let e : 1 * size ≡ size = grind arith in rw e at (mul-div_cancel 1 {n = size} (omega (arith, one-le-pow to.shift 2 (omega arith))))) in
    let some : 0 < length (drop lba from.blocks) = omega (arith, length-drop lba from.blocks) in
    let block : take size b ∷ [] ≡ take 1 (drop lba from.blocks) = first-block (drop lba from.blocks) size b some (rw one at read) own in
    let with : List (List ℕ) → Blocks = λ bs. record { shift = to.shift; blocks = take at to.blocks ++ (bs ++ drop (at + 1) to.blocks) } in
    rw one (ap with block)

-- so many of the blocks are copied, the others are as at first
pub next-copied : {X : Type 0} (ys rest : List X) (at : ℕ) → at < length ys → 0 < length rest
    → take at (take at ys ++ rest) ++ (take 1 (drop at ys) ++ drop (at + 1) (take at ys ++ rest)) ≡ take (at + 1) ys ++ drop 1 rest
next-copied ys rest at small some =
    let len : length (take at ys) ≡ at = omega (arith, length-take at ys) in
    let front : take at (take at ys ++ rest) ≡ take at ys = subst (λ (k : ℕ). take k (take at ys ++ rest) ≡ take at ys) len (take-append_seam (take at ys) rest) in
    let back : drop (at + 1) (take at ys ++ rest) ≡ drop 1 rest = subst (λ (k : ℕ). drop (k + 1) (take at ys ++ rest) ≡ drop 1 rest) len (drop-append-add (take at ys) rest 1) in
    rw (front, back, ← append_assoc, joined at 1 ys) refl

pub copied-more : (d part new : Blocks) (first m at : ℕ) → part ≡ record { shift = d.shift; blocks = take at (drop first d.blocks) ++ zero_blocks d.shift (m - at) }
    → at < m → first + m ≤ length d.blocks
    → new ≡ record { shift = part.shift; blocks = take at part.blocks ++ (take 1 (drop (first + at) d.blocks) ++ drop (at + 1) part.blocks) }
    → new ≡ record { shift = d.shift; blocks = take (at + 1) (drop first d.blocks) ++ zero_blocks d.shift (m - (at + 1)) }
copied-more d part new first m at is lt fits now =
    let ys = drop first d.blocks in
    let rest = zero_blocks d.shift (m - at) in
    let long : at < length ys = omega (arith, length-drop first d.blocks) in
    let some : 0 < length rest = omega (arith, length-replicate {A = List ℕ} (m - at) (replicate (2 ^ d.shift) 0)) in
    let P : Blocks → Type 0 = λ p. new ≡ record { shift = p.shift; blocks = take at p.blocks ++ (take 1 (drop (first + at) d.blocks) ++ drop (at + 1) p.blocks) } in
    let there : drop at ys ≡ drop (first + at) d.blocks = drop-drop at first d.blocks in
    let less : m - at - 1 ≡ m - (at + 1) = omega arith in
    let left : drop 1 rest ≡ zero_blocks d.shift (m - (at + 1)) = drop-replicate {X = List ℕ} 1 (m - at) (replicate (2 ^ d.shift) 0) ∙ rw less refl in
    let step = rw (there, left) at (next-copied ys rest at long some) in
    subst P is now ∙ ap (λ (bs : List (List ℕ)). let r : Blocks = record { shift = d.shift; blocks = bs } in r) step
