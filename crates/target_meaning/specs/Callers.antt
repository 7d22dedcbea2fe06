-- The conditions of the table's calls, as a queue's worker and the editor meet them.
use Rattle.std.specs.Prelude.{◌≡◌, ◌≢◌, ◌⊎◌, ℕ, ◌<◌, Bool, true, false, List, Some, is_some}
use Rattle.ref_state.specs.declared.kinds.Tag.{Tag}
use Rattle.ref_state.specs.State.{total}
use Rattle.table_rule.specs.Meant.{target, of_pair, on, IsSteady, IsPlain}
use Rattle.configfs_tree.specs.Phases.{phase_at}
use Rattle.configfs_tree.specs.Standing.{IsStanding}
use Rattle.tree_target.specs.declared.calls.Reply.{Reply}
use Rattle.tree_target.specs.declared.calls.Reply.TheVariants as replies
use Rattle.tree_target.specs.declared.edits.Space.{Space}
use Rattle.tree_target.specs.Edits.{disables}
use Rattle.tree_target.specs.Model.{Call, binding_at}
use Rattle.tree_target.specs.Steps.{is_draining_phase, disk_at}
use Rattle.tree_target.specs.Fixed.{is_editors, is_published}
use Rattle.target_states.specs.Inputs.{call_of}
use Rattle.target_states.specs.States.{state}
use Rattle.target_meaning.specs.TreeMeans.{Run, tree_means}
use Rattle.target_meaning.specs.Histories.{state_after}

-- ---- places
-- a bare call, a submit, an Execute and a poll leave the published part wherever they come: a
-- queue's seat may draw a place for them
abbrev pub QueuesArePlain : Type 0
QueuesArePlain = (r : Run) (number : ℕ) (known : List Tag) (tag : Tag) → tag.kind < 4
    → IsPlain (tree_means r) number known tag

-- a call that the editor computed to publish nothing leaves it at its place: the editor's seat may
-- draw a place for it
abbrev pub EditorsArePlain : Type 0
EditorsArePlain = (r : Run) (known : List Tag) (tag : Tag) (call : Call)
    → call_of r.begun.inputs tag ≡ Some call → is_editors call ≡ true
    → IsStanding (state_after r known).tree → is_published (state_after r known) call ≡ false
    → IsPlain (tree_means r) 0 known tag

-- a call that is published leaves at its place the words that the editor computes from what it knows
abbrev pub PublishedAsComputed : Type 0
PublishedAsComputed = (r : Run) (known : List Tag) (tag : Tag) (call : Call) (t : List Tag)
    → call_of r.begun.inputs tag ≡ Some call → is_editors call ≡ true
    → IsSteady (tree_means r) (target (tree_means r) known) t
    → (tree_means r).words ((tree_means r).next t tag)
    ≡ (tree_means r).words ((tree_means r).next (target (tree_means r) known) tag)

-- ---- drains
abbrev pub end_tag : ℕ → Tag
end_tag line = record { kind = 7; caller = 0; number = line }

-- the namespace that a line's edit disabled is draining on this disk
pub record IsDraining (r : Run) (known : List Tag) (line disk : ℕ) : Type 0 where
  pub space : Space
  pub disabled : disables (r.begun.inputs.edit line) ≡ Some space
  pub draining : is_draining_phase (phase_at (state_after r known).tree space.sub space.nsid)
      ≡ true
  pub on_disk : disk_at (state_after r known).tree space.sub space.nsid ≡ Some disk

-- then its drain may end wherever no command is held on the disk, and leaves the words
abbrev pub EndsMayCome : Type 0
EndsMayCome = (r : Run) (known : List Tag) (line disk : ℕ) (t : List Tag)
    → IsDraining r known line disk → IsSteady (tree_means r) (target (tree_means r) known) t
    → total (of_pair (on disk)) ((tree_means r).commands t) ≡ 0
    → ((tree_means r).lawful t (end_tag line) ≡ true)
    × ((tree_means r).words ((tree_means r).next t (end_tag line)) ≡ (tree_means r).words t)

-- ---- queues
abbrev pub is_held : Reply → Bool
is_held replies.Held = true
is_held (replies.Answered cqe) = false
is_held replies.Waiting = false
is_held replies.NoEvent = false
is_held replies.Accepted = false
is_held (replies.Errno errno) = false
is_held replies.Ended = false

-- the reply to a submit is Held exactly where the table counts it as held
abbrev pub HeldIsReplied : Type 0
HeldIsReplied = (r : Run) (t : List Tag) (tag : Tag) → tag.kind ≡ 1
    → is_some ((tree_means r).held t tag) ≡ is_held ((tree_means r).reply t tag).reply

-- to what a queue is connected changes by its own fabrics commands alone
abbrev pub BindingsAreOwn : Type 0
BindingsAreOwn = (r : Run) (t : List Tag) (tag : Tag) (queue : ℕ)
    → (tag.kind ≢ 4) ⊎ (tag.caller ≢ queue)
    → binding_at (state r.begun ((tree_means r).next t tag)) queue
    ≡ binding_at (state r.begun t) queue
