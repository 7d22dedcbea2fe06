-- What a table is opened with is the start's.
use Rattle.std.proofs.Common.{◌≡◌, ℕ, zero, suc, ◌+◌, ◌/◌, ◌%◌, List, [], ◌∷◌, Some, None, ap, ◌∙◌, arith}
use Rattle.std.specs.List.{slice_get}
use Rattle.mem_bdev.specs.Blocks.{Blocks}
use Rattle.disk_extents.specs.Extents.{Part}
use Rattle.change_stamps.specs.Stamps.{no_stamps}
use Rattle.tree_target.specs.Model.{Target}
use Rattle.ns_table.specs.Words.{Stamps as WordStamps, words_of, opened_shape}
use Rattle.ns_table.specs.Kept.{stamps_by}
use Rattle.ns_table.specs.Slots.{slots_of}
use Rattle.ns_table.proofs.Noted.{nothing_is_stamped}
use Rattle.target_states.specs.Extents.{extent_in, slot_in}
use Rattle.target_words.specs.Words.{words_at}

pub opened : (t : Target) → t.stamps ≡ no_stamps
    → words_at t ≡ words_of (opened_shape t.tree t.controllers t.blocks)
opened t none =
    ap (λ (s : WordStamps). words_of (record {
      tree = t.tree;
      controllers = t.controllers;
      blocks = t.blocks;
      stamps = s;
    })) (ap stamps_by none ∙ nothing_is_stamped)

none_some : (x : Part) → None ≡ Some x → ⊥
none_some x e = cc

past_eight : (d : Blocks) (ds : List Blocks) (m n : ℕ) → m ≡ 8 + n
    → slot_in (d ∷ ds) m ≡ slot_in ds n
past_eight d ds m n is =
    let quotient : m / 8 ≡ suc (n / 8) = omega arith in
    let remainder : m % 8 ≡ n % 8 = omega arith in
    λ i. extent_in (remainder i) (slice_get (d ∷ ds) (quotient i))

pub slots_stand : (blocks : List Blocks) (n : ℕ) (x : Part)
    → slice_get (slots_of blocks) n ≡ Some x → slot_in blocks n ≡ Some x
slots_stand [] n x e = absurd (none_some x e)
slots_stand (d ∷ ds) zero x e = e
slots_stand (d ∷ ds) (suc zero) x e = e
slots_stand (d ∷ ds) (suc (suc zero)) x e = e
slots_stand (d ∷ ds) (suc (suc (suc zero))) x e = e
slots_stand (d ∷ ds) (suc (suc (suc (suc zero)))) x e = e
slots_stand (d ∷ ds) (suc (suc (suc (suc (suc zero))))) x e = e
slots_stand (d ∷ ds) (suc (suc (suc (suc (suc (suc zero)))))) x e = e
slots_stand (d ∷ ds) (suc (suc (suc (suc (suc (suc (suc zero))))))) x e = e
slots_stand (d ∷ ds) (suc (suc (suc (suc (suc (suc (suc (suc n)))))))) x e =
    past_eight d ds (suc (suc (suc (suc (suc (suc (suc (suc n)))))))) n (omega arith)
    ∙ slots_stand ds n x e
