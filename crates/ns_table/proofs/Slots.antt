-- The extents of disks, disk after disk.
use Rattle.std.proofs.Common.{◌≡◌, ◌<◌, ℕ, zero, suc, ◌+◌, ◌*◌, List, [], ◌∷◌, ◌++◌, Some, refl, sym, ap, subst, ◌∙◌, arith}
use Rattle.std.specs.List.{slice_get}
use Rattle.mem_bdev.specs.Blocks.{Blocks}
use Rattle.ns_table.proofs.Spaces.{none-some, some-same}
use Rattle.disk_extents.specs.Extents.{Part, extent, extents}
use Rattle.ns_table.specs.Slots.{slots_of, SlotsAreExtents}

of-eight : (d : Blocks) (rest : List Part) (e : ℕ) → e < 8 → slice_get (extents d ++ rest) e ≡ Some (extent d e)
of-eight d rest zero h = refl
of-eight d rest (suc zero) h = refl
of-eight d rest (suc (suc zero)) h = refl
of-eight d rest (suc (suc (suc zero))) h = refl
of-eight d rest (suc (suc (suc (suc zero)))) h = refl
of-eight d rest (suc (suc (suc (suc (suc zero))))) h = refl
of-eight d rest (suc (suc (suc (suc (suc (suc zero)))))) h = refl
of-eight d rest (suc (suc (suc (suc (suc (suc (suc zero))))))) h = refl
of-eight d rest (suc (suc (suc (suc (suc (suc (suc (suc e)))))))) h = absurd (omega arith)

past-eight : (d : Blocks) (rest : List Part) (n : ℕ) → slice_get (extents d ++ rest) (8 + n) ≡ slice_get rest n
past-eight d rest n =
    let P : ℕ → Type 0 = λ k. slice_get (extents d ++ rest) k ≡ slice_get rest n in
    let is : 8 + n ≡ suc (suc (suc (suc (suc (suc (suc (suc n))))))) = omega arith in
    subst P (sym is) refl

pub slots_extents : SlotsAreExtents
slots_extents [] i e d found small = absurd (none-some d found)
slots_extents (x ∷ xs) zero e d found small =
    let is : x ≡ d = some-same x d found in
    let at : 8 * 0 + e ≡ e = omega arith in
    rw at (of-eight x (slots_of xs) e small ∙ ap (λ (y : Blocks). Some (extent y e)) is)
slots_extents (x ∷ xs) (suc i) e d found small =
    let at : 8 * suc i + e ≡ 8 + (8 * i + e) = grind arith in
    rw at (past-eight x (slots_of xs) (8 * i + e) ∙ slots_extents xs i e d found small)
