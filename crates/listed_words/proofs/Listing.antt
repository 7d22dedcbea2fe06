-- Words that are listed beside a configuration.
use Rattle.std.proofs.Common.{◌≡◌, ◌≤◌, ℕ, zero, suc, List, [], ◌∷◌, length, slice_set, refl, sym, ap, ◌∙◌, arith}
use Rattle.mem_bdev.specs.Blocks.{Blocks}
use Rattle.sqe_cqe.specs.declared.controllers.ControllerRow.{ControllerRow}
use Rattle.configfs_tree.specs.declared.configuration.Configuration.{Configuration}
use Rattle.change_stamps.specs.Stamps.{Stamps as Kept, no_stamps}
use Rattle.ref_state.specs.State.{overlaid}
use Rattle.edit_words.specs.Exact.{AreTurned}
use Rattle.edit_words.specs.Patching.{TurnedWordsPatch}
use Rattle.ns_table.specs.declared.layout.TheConstants.{WORDS}
use Rattle.ns_table.specs.Kept.{shape_of, stamps_by}
use Rattle.ns_table.specs.Noted.{NothingIsStamped}
use Rattle.ns_table.specs.Words.{Shape, Stamps as WordStamps, words_of, opened_shape, WordsArePlaced}
use Rattle.listed_words.specs.Listed.{AreListed}

-- a write past the end of a list
pub set_past : (xs : List ℕ) (at x : ℕ) → length xs ≤ at → slice_set xs at x ≡ xs
set_past [] at x h = refl
set_past (y ∷ xs) zero x h = absurd (omega arith)
set_past (y ∷ xs) (suc at) x h = ap (λ (ys : List ℕ). y ∷ ys) (set_past xs at x (omega arith))

-- the words of an opening are those of the stamps of nothing
pub opened_listed : (t : Configuration) (controllers : List ControllerRow) (blocks : List Blocks) (stamps : Kept) (ws : List ℕ)
    → NothingIsStamped → stamps ≡ no_stamps → ws ≡ words_of (opened_shape t controllers blocks) → AreListed t controllers blocks stamps ws
opened_listed t controllers blocks stamps ws nothing none e = e
    ∙ sym (ap (λ (s : WordStamps). words_of (record { tree = t; controllers = controllers; blocks = blocks; stamps = s })) (ap stamps_by none ∙ nothing))

-- words are as many as a table has
pub listed_long : (t : Configuration) (controllers : List ControllerRow) (blocks : List Blocks) (stamps : Kept) (ws : List ℕ)
    → WordsArePlaced → AreListed t controllers blocks stamps ws → length ws ≡ WORDS
listed_long t controllers blocks stamps ws placed e = ap length e ∙ (placed (shape_of t controllers blocks stamps)).all

-- the words that an edit turned patch those before it
pub patched_listed : (t u : Configuration) (controllers : List ControllerRow) (blocks : List Blocks) (before after : Kept) (ws vs : List ℕ) (turned : List (ℕ × ℕ))
    → WordsArePlaced → TurnedWordsPatch → AreListed t controllers blocks before ws
    → AreTurned (words_of (shape_of t controllers blocks before)) (words_of (shape_of u controllers blocks after)) turned
    → vs ≡ overlaid ws turned → AreListed u controllers blocks after vs
patched_listed t u controllers blocks before after ws vs turned placed patch listed are e =
    e ∙ (ap (λ (l : List ℕ). overlaid l turned) listed
    ∙ patch (words_of (shape_of t controllers blocks before)) (words_of (shape_of u controllers blocks after)) turned
    (placed (shape_of t controllers blocks before)).all (placed (shape_of u controllers blocks after)).all are)
