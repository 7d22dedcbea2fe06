-- The fields of a disk and the blocks that they stand for.
use Rattle.std.proofs.Common.{◌≡◌, ℕ, ◌+◌, ◌-◌, ◌*◌, ◌/◌, ◌^◌, ◌≤◌, ◌<◌, List, ◌++◌, length, take, drop, replicate, refl, sym, ap, subst, ◌∙◌, arith}
use Rattle.std.proofs.Math.Nat.{mul-div_cancel, one-le-pow}
use Rattle.std.specs.List.{flat_map}
use Rattle.std.specs.Vec.{with_items}
use Rattle.std.proofs.lemmas.List.{with_items_is, length-replicate}
use Rattle.mem_bdev.specs.Blocks.{Blocks, cut, IsWhole, IsInside, range_bytes, written, zeroed, blank}
use Rattle.mem_bdev.specs.declared.disk.Disk.TheInside.{Inside}
use Rattle.mem_bdev.specs.contracts.disk.Disk.{the_view, the_invariant}
use Rattle.mem_bdev.proofs.Cuts.{length-cut, fits, read-cut, write-cut, cut-replicate}

own : (i : Inside) (v : Blocks) (lba len : ℕ) → the_view i ≡ v → IsWhole v lba len → IsWhole (the_view i) lba len
own i v lba len view w = subst (λ (b : Blocks). IsWhole b lba len) (sym view) w

-- the range in bytes
pub in_bytes : (i : Inside) (v : Blocks) (lba len : ℕ) → the_view i ≡ v → the_invariant i → IsWhole v lba len → lba * i.size + len ≤ length i.bytes.items
in_bytes i v lba len view inv w =
    let o = own i v lba len view w in
    let n = length-cut i.blocks (2 ^ i.shift) i.bytes.items in
    let inside : lba + len / 2 ^ i.shift ≤ i.blocks = omega (arith, o.inside, n) in
    let f = fits (2 ^ i.shift) lba len i.blocks o.whole inside in
    rw (inv.0, inv.1) f

pub read_gives : (i : Inside) (v : Blocks) (lba len : ℕ) → the_view i ≡ v → the_invariant i → IsWhole v lba len → take len (drop (lba * i.size) i.bytes.items) ≡ range_bytes v lba (len / 2 ^ v.shift)
read_gives i v lba len view inv w =
    let o = own i v lba len view w in
    let n = length-cut i.blocks (2 ^ i.shift) i.bytes.items in
    let count = len / 2 ^ i.shift in
    let rest = i.blocks - (lba + count) in
    let inside : lba + count ≤ i.blocks = omega (arith, o.inside, n) in
    let all : lba + (count + rest) ≡ i.blocks = omega arith in
    let r : flat_map (λ b. b) (take count (drop lba (cut i.blocks (2 ^ i.shift) i.bytes.items))) ≡ take (count * 2 ^ i.shift) (drop (lba * 2 ^ i.shift) i.bytes.items) =
    rw (← all) (read-cut (2 ^ i.shift) lba count rest i.bytes.items) in
    rw (← view, inv.0) (sym (rw o.whole at r))

pub write_leaves : (i : Inside) (v : Blocks) (lba : ℕ) (ys : List ℕ) → the_view i ≡ v → the_invariant i → IsWhole v lba (length ys)
    → cut i.blocks (2 ^ i.shift) (take (lba * i.size) i.bytes.items ++ (ys ++ drop (length ys) (drop (lba * i.size) i.bytes.items))) ≡ (written v lba ys).blocks
write_leaves i v lba ys view inv w =
    let o = own i v lba (length ys) view w in
    let n = length-cut i.blocks (2 ^ i.shift) i.bytes.items in
    let count = length ys / 2 ^ i.shift in
    let rest = i.blocks - (lba + count) in
    let inside : lba + count ≤ i.blocks = omega (arith, o.inside, n) in
    let all : lba + (count + rest) ≡ i.blocks = omega arith in
    let len : length i.bytes.items ≡ (lba + (count + rest)) * 2 ^ i.shift = rw all inv.1 in
    let r = write-cut (2 ^ i.shift) lba count rest i.bytes.items ys (sym o.whole) len in
    let s = rw (all, o.whole) at r in
    let here : cut i.blocks (2 ^ i.shift) (take (lba * i.size) i.bytes.items ++ (ys ++ drop (length ys) (drop (lba * i.size) i.bytes.items))) ≡ (written (the_view i) lba ys).blocks =
    rw (inv.0, length-cut count (2 ^ i.shift) ys) s in
    subst (λ (b : Blocks). cut i.blocks (2 ^ i.shift) (take (lba * i.size) i.bytes.items ++ (ys ++ drop (length ys) (drop (lba * i.size) i.bytes.items))) ≡ (written b lba ys).blocks) view here

pub same_length : (i : Inside) (v : Blocks) → the_view i ≡ v → i.blocks ≡ length v.blocks
same_length i v view = subst (λ (b : Blocks). i.blocks ≡ length b.blocks) view (sym (length-cut i.blocks (2 ^ i.shift) i.bytes.items))

pub blank_view : (shift n size : ℕ) (bytes : List ℕ) → size ≡ 2 ^ shift → bytes ≡ replicate (n * size) 0 → cut n (2 ^ shift) bytes ≡ (blank shift n).blocks
blank_view shift n size bytes e b = rw (b, e) (cut-replicate n (2 ^ shift))

-- a disk whose bytes were replaced
pub view_after : (i : Inside) (v : Blocks) (lba : ℕ) (ys new : List ℕ) → the_view i ≡ v → the_invariant i → IsWhole v lba (length ys)
    → new ≡ take (lba * i.size) i.bytes.items ++ (ys ++ drop (length ys) (drop (lba * i.size) i.bytes.items)) → length new ≡ length i.bytes.items
    → the_view (record { shift = i.shift; size = i.size; blocks = i.blocks; bytes = with_items i.bytes new }) ≡ written v lba ys
view_after i v lba ys new view inv w is len =
    let same : (with_items i.bytes new).items ≡ new = with_items_is i.bytes new (omega (arith, len, i.bytes.ok)) in
    let blocks = write_leaves i v lba ys view inv w in
    let shift : i.shift ≡ v.shift = ap (λ (b : Blocks). b.shift) view in
    let P : ℕ → List (List ℕ) → Type 0 = λ s bs. the_view (record { shift = i.shift; size = i.size; blocks = i.blocks; bytes = with_items i.bytes new }) ≡ record { shift = s; blocks = bs } in
    subst (λ (s : ℕ). P s (written v lba ys).blocks) shift (subst (λ (bs : List (List ℕ)). P i.shift bs) blocks (rw (same, is) refl))

pub blank_is : (shift n : ℕ) (i : Inside) → i.shift ≡ shift → i.blocks ≡ n → i.bytes.items ≡ replicate (n * 2 ^ shift) 0 → the_view i ≡ blank shift n
blank_is shift n i s b zeros = rw (s, b, zeros, cut-replicate n (2 ^ shift)) refl

-- as many bytes as so many blocks have
whole_zeros : (v : Blocks) (lba count : ℕ) → IsInside v lba count → IsWhole v lba (count * 2 ^ v.shift)
whole_zeros v lba count h =
    let some : 0 < 2 ^ v.shift = omega (arith, one-le-pow v.shift 2 (omega arith)) in
    let n : count * 2 ^ v.shift / 2 ^ v.shift ≡ count = mul-div_cancel count some in
    record { whole = rw n refl; inside = rw n h }

zeroed_is : (v : Blocks) (lba count : ℕ) → zeroed v lba count ≡ written v lba (replicate (count * 2 ^ v.shift) 0)
zeroed_is v lba count =
    let some : 0 < 2 ^ v.shift = omega (arith, one-le-pow v.shift 2 (omega arith)) in
    let n : count * 2 ^ v.shift / 2 ^ v.shift ≡ count = mul-div_cancel count some in
    rw (length-replicate {A = ℕ} (count * 2 ^ v.shift) 0, n, cut-replicate count (2 ^ v.shift)) refl

size_is : (i : Inside) (v : Blocks) → the_view i ≡ v → the_invariant i → i.size ≡ 2 ^ v.shift
size_is i v view inv = inv.0 ∙ ap (λ (b : Blocks). 2 ^ b.shift) view

-- the range in bytes of so many blocks
pub blocks_in_bytes : (i : Inside) (v : Blocks) (lba count : ℕ) → the_view i ≡ v → the_invariant i → IsInside v lba count → lba * i.size + count * i.size ≤ length i.bytes.items
blocks_in_bytes i v lba count view inv h =
    let range = in_bytes i v lba (count * 2 ^ v.shift) view inv (whole_zeros v lba count h) in
    subst (λ (size : ℕ). lba * i.size + count * size ≤ length i.bytes.items) (sym (size_is i v view inv)) range

-- a disk some of whose bytes were zeroed
pub zero_after : (i : Inside) (v : Blocks) (lba count : ℕ) (new : List ℕ) → the_view i ≡ v → the_invariant i → IsInside v lba count
    → new ≡ take (lba * i.size) i.bytes.items ++ (replicate (count * i.size) 0 ++ drop (count * i.size) (drop (lba * i.size) i.bytes.items)) → length new ≡ length i.bytes.items
    → the_view (record { shift = i.shift; size = i.size; blocks = i.blocks; bytes = with_items i.bytes new }) ≡ zeroed v lba count
zero_after i v lba count new view inv h is len =
    let size = size_is i v view inv in
    let zeros = length-replicate {A = ℕ} (count * i.size) 0 in
    let whole : IsWhole v lba (length (replicate (count * i.size) 0)) = rw zeros (subst (λ (s : ℕ). IsWhole v lba (count * s)) (sym size) (whole_zeros v lba count h)) in
    let ys : List ℕ = replicate (count * i.size) 0 in
    let is' : new ≡ take (lba * i.size) i.bytes.items ++ (ys ++ drop (length ys) (drop (lba * i.size) i.bytes.items)) = is ∙ rw zeros refl in
    view_after i v lba ys new view inv whole is' len
    ∙ subst (λ (s : ℕ). written v lba (replicate (count * s) 0) ≡ zeroed v lba count) (sym size) (sym (zeroed_is v lba count))

-- so many blocks in bytes
pub range_gives : (i : Inside) (v : Blocks) (lba count : ℕ) → the_view i ≡ v → the_invariant i → IsInside v lba count → take (count * i.size) (drop (lba * i.size) i.bytes.items) ≡ range_bytes v lba count
range_gives i v lba count view inv h =
    let some : 0 < 2 ^ v.shift = omega (arith, one-le-pow v.shift 2 (omega arith)) in
    let n : count * 2 ^ v.shift / 2 ^ v.shift ≡ count = mul-div_cancel count some in
    let size = size_is i v view inv in
    let r = read_gives i v lba (count * 2 ^ v.shift) view inv (whole_zeros v lba count h) in
    subst (λ (s : ℕ). take (count * s) (drop (lba * i.size) i.bytes.items) ≡ range_bytes v lba count) (sym size) (r ∙ ap (range_bytes v lba) n)

-- all blocks together
pub at_most : (i : Inside) (v : Blocks) → the_view i ≡ v → the_invariant i → i.blocks * 2 ^ v.shift ≤ 16777216
at_most i v view inv = subst (λ (s : ℕ). i.blocks * 2 ^ s ≤ 16777216) (ap (λ (b : Blocks). b.shift) view) (subst (λ (n : ℕ). n ≤ 16777216) inv.1 inv.4)
