-- What leaves the words.
use Rattle.std.proofs.Common.{◌≡◌, ℕ, true, false, List, Option, Some, None, refl, sym, ap, ◌∙◌}
use Rattle.std.specs.List.{slice_get}
use Rattle.mem_bdev.specs.Blocks.{Blocks}
use Rattle.configfs_tree.specs.Standing.{IsStanding}
use Rattle.tree_target.specs.Model.{Call, DrainEnd, Target}
use Rattle.tree_target.specs.Steps.{target_after}
use Rattle.tree_target.specs.Fixed.{is_editors, is_published}
use Rattle.ns_table.specs.Follows.{size_of as word_size}
use Rattle.ns_table.specs.Kept.{shape_of, stamps_by}
use Rattle.ns_table.proofs.Follows.{words_follow}
use Rattle.target_states.specs.declared.parts.Fixed.{Fixed}
use Rattle.target_states.specs.States.{fixed_at, desk_at}
use Rattle.target_states.specs.Sizes.{size_of, size_at}
use Rattle.target_states.proofs.Changes.{NoExecute, blocks_left, sizes_of, fixed_by_desk}
use Rattle.target_states.proofs.Deciding.{editors_same, no_execute_of, unpublished_fixed, ends_fixed}
use Rattle.target_words.specs.Words.{words_at, LeavesWords}

same_size : (o : Option Blocks) → word_size o ≡ size_of o
same_size None = refl
same_size (Some d) = refl

pub words_same : (t u : Target) → fixed_at u ≡ fixed_at t
    → ((disk : ℕ) → size_at u.blocks disk ≡ size_at t.blocks disk) → words_at u ≡ words_at t
words_same t u same sizes =
    words_follow (shape_of t.tree t.controllers t.blocks t.stamps)
    (shape_of u.tree u.controllers u.blocks u.stamps) (record {
      settings = ap (λ (f : Fixed). f.settings) same;
      controllers = ap (λ (f : Fixed). f.controllers) same;
      stamps = ap (λ (f : Fixed). stamps_by f.stamps) same;
      sizes = λ i. same_size (slice_get u.blocks i)
          ∙ (sizes i ∙ sym (same_size (slice_get t.blocks i)));
    })

pub words_computed : (t u : Target) (call : Call) → is_editors call ≡ true
    → desk_at u ≡ desk_at t → ((disk : ℕ) → size_at u.blocks disk ≡ size_at t.blocks disk)
    → words_at (target_after u call) ≡ words_at (target_after t call)
words_computed t u call own same sizes =
    let left = no_execute_of call own in
    words_same (target_after t call) (target_after u call)
    (fixed_by_desk (target_after t call) (target_after u call)
    (editors_same t u call own same).desk)
    (λ disk. sizes_of _ _ (blocks_left u (Some call) left) disk
    ∙ (sizes disk ∙ sym (sizes_of _ _ (blocks_left t (Some call) left) disk)))

pub words_left : (t : Target) (call : Call) → NoExecute (Some call)
    → fixed_at (target_after t call) ≡ fixed_at t → words_at (target_after t call) ≡ words_at t
words_left t call left same =
    words_same t (target_after t call) same (sizes_of _ _ (blocks_left t (Some call) left))

pub unpublished_leave_all : (t : Target) (call : Call) → IsStanding t.tree
    → is_editors call ≡ true → is_published t call ≡ false → LeavesWords t (target_after t call)
unpublished_leave_all t call h own off =
    let same = unpublished_fixed t call h off in
    record { fixed = same; words = words_left t call (no_execute_of call own) same }

pub ends_leave : (t : Target) (line : ℕ) (sub : List ℕ) (nsid : ℕ)
    → LeavesWords t (target_after t (DrainEnd line sub nsid))
ends_leave t line sub nsid =
    let same = ends_fixed t line sub nsid in
    record { fixed = same; words = words_left t (DrainEnd line sub nsid) tt same }
