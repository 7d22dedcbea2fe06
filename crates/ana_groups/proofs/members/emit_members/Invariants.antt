use Rattle.std.proofs.Common.{◌≡◌, ◌≤◌, ℕ, ◌+◌, ◌*◌, List, take, drop}
use Rattle.sqe_cqe.specs.declared.rows.TheConstants.{MAX_NSID}
use Rattle.look_pages.specs.Pages.{Emits, words}
use Rattle.ana_groups.specs.Chains.{Holds, IsChain}
use Rattle.ana_groups.proofs.members.emit_members.Given as goal

abbrev pub invariant-loop-i : goal.invariant-loop-i
invariant-loop-i l = record {
  within : l.nsid ≤ MAX_NSID;
  place : l.place ≡ l.at + 4 * l._i;
  emits : (list : List ℕ) → Holds l.members l.group list
      → IsChain l.members.next l.nsid (drop l._i list) × Emits l.offset l.at l.fn.to l.to (words (take l._i list));
}
