-- An Execute, extent by extent.
use Rattle.std.proofs.Common.{◌≡◌, ℕ, List, length, Option, Some, sym, ap, subst, ◌∙◌}
use Rattle.std.specs.List.{slice_get}
use Rattle.mem_bdev.specs.Blocks.{Blocks}
use Rattle.sqe_cqe.specs.declared.codes.TheConstants.{SUCCESS}
use Rattle.ref_state.specs.declared.kinds.Tag.{Tag}
use Rattle.ref_state.specs.Steps.{first}
use Rattle.table_rule.specs.Meant.{is_named}
use Rattle.io_commands.specs.declared.jobs.Job.{Job}
use Rattle.io_commands.specs.Jobs.{disk_of, bytes_read, FitsDisk, HasData}
use Rattle.disk_extents.specs.Parts.{part_after}
use Rattle.tree_target.specs.declared.calls.Command.{Command}
use Rattle.tree_target.specs.Model.{Call, Execute, Target, held_at}
use Rattle.tree_target.specs.Steps.{reply_of, bytes_of, executed, bytes_executed, read_of, completion}
use Rattle.target_states.specs.Inputs.{call_of}
use Rattle.target_states.specs.States.{state, stepped, answer_to}
use Rattle.target_states.specs.Extents.{slot_in}
use Rattle.target_states.proofs.Changes.{executes_as}
use Rattle.target_states.proofs.Commands.{Takes, takes}
use Rattle.target_states.proofs.Keeping.{OnDisk, taken_asked, taken_on, states_kept}
use Rattle.target_states.proofs.Slots.{fits_size, data_size, parts_stand}
use Rattle.target_states.proofs.Tags.{execute_blocks}
use Rattle.target_meaning.specs.TreeMeans.{Run, tree_means}
use Rattle.target_meaning.specs.Executes.{job_for, payload_for, IsExecuted, ExecutesByParts}

execute_reply : (t : Target) (queue number : ℕ) (payload : List ℕ) (h : Command)
    → held_at t queue number ≡ Some h
    → reply_of t (Execute queue number payload) ≡ completion t queue h.cid SUCCESS 0
unfolding reply_of
execute_reply t queue number payload h is = ap (executed t queue) is

execute_bytes : (t : Target) (queue number : ℕ) (payload : List ℕ) (h : Command) (d : Blocks)
    → held_at t queue number ≡ Some h → slice_get t.blocks (disk_of h.job) ≡ Some d
    → bytes_of t (Execute queue number payload) ≡ bytes_read d h.job
unfolding bytes_of
execute_bytes t queue number payload h d is there =
    ap (bytes_executed t.blocks) is ∙ ap (read_of h.job) there

module _ (r : Run) (t : List Tag) (tag call : Tag) (disk : ℕ) (two : tag.kind ≡ 2)
    (named : first (λ (y : Tag × ℕ). is_named tag y.0) ((tree_means r).commands t)
    ≡ Some (call, disk)) where
  executed_on : (k : Takes (state r.begun t) tag.caller tag.number (call, disk))
      → OnDisk r.begun r.start (state r.begun t) k.command (length (payload_for r tag))
      → IsExecuted r t tag call disk
  executed_on k o =
      let u : Target = state r.begun t in
      let h : Command = k.command in
      let payload : List ℕ = payload_for r tag in
      let named_so : call_of r.begun.inputs tag ≡ Some (Execute tag.caller tag.number payload) =
      executes_as r.begun.inputs tag.kind tag.caller tag.number two in
      let job : job_for r call disk ≡ h.job =
      ap (λ (y : Tag × ℕ). job_for r y.0 y.1) k.is ∙ sym o.job_is in
      let at : disk ≡ disk_of h.job = ap (λ (y : Tag × ℕ). y.1) k.is in
      let own = taken_asked r.begun r.start u tag.caller tag.number h
      (states_kept r.begun r.start t) k.held in
      let cid : h.cid ≡ (r.begun.inputs.entry tag.caller tag.number).cid =
      o.cid_is ∙ (λ i. (r.begun.inputs.entry (own.1 i) (own.2 i)).cid) in
      record {
        blocks = o.size.disk;
        there = ap (slice_get u.blocks) at ∙ o.size.is;
        fits = subst (λ (j : Job). FitsDisk j o.size.disk.shift (length o.size.disk.blocks))
            (sym job) (fits_size h.job o.shift o.count _ o.size o.fits);
        has_data = subst (λ (j : Job). HasData j o.size.disk.shift (length payload)) (sym job)
            (data_size h.job o.shift o.count (length payload) _ o.size o.has_data);
        reply = ap (λ (c : Option Call). (answer_to u c).reply) named_so
            ∙ (execute_reply u tag.caller tag.number payload h k.held
            ∙ ap (λ (n : ℕ). completion u tag.caller n SUCCESS 0) cid);
        bytes = ap (λ (c : Option Call). (answer_to u c).bytes) named_so
            ∙ (execute_bytes u tag.caller tag.number payload h o.size.disk k.held o.size.is
            ∙ ap (bytes_read o.size.disk) (sym job));
        parts = λ n x on stands.
            ap (λ (c : Option Call). slot_in (stepped u c).blocks n) named_so
            ∙ (ap (λ (bs : List Blocks). slot_in bs n)
            (execute_blocks r.begun r.start u tag.caller tag.number payload h k.held)
            ∙ (parts_stand u.blocks h.job payload n o.shift o.count x o.size o.fits o.has_data
            (on ∙ at) stands
            ∙ ap (λ (j : Job). Some (part_after x j payload)) (sym job)));
      }

  executed_here : IsExecuted r t tag call disk
  executed_here =
      let k = takes (state r.begun t) tag (call, disk) named in
      executed_on k (taken_on r.begun r.start (state r.begun t) tag.caller tag.number k.command
      (states_kept r.begun r.start t) k.held)

pub by_parts : ExecutesByParts
by_parts r t tag call disk two named = executed_here r t tag call disk two named
