use Rattle.std.proofs.Common.{◌≡◌, ◌≤◌, length, Some, sym, ap, subst}
use Rattle.io_commands.specs.Jobs.{HasData, end_of}
use Rattle.disk_extents.specs.Extents.{Part}
use Rattle.disk_extents.specs.Held.{IsHeld}
use Rattle.disk_extents.proofs.OnParts.{part-has-data, part-inside, held-after}
use Rattle.disk_extents.specs.declared.extents.Extent.TheInside.{Inside}
use Rattle.disk_extents.proofs.parts.do_part.Goals as goal
use Rattle.disk_extents.proofs.parts.do_part.Goals.{in-Some, in-None}

pub do_io-requires-clause-data : goal.do_io-requires-clause-data
do_io-requires-clause-data c =
    let x = c.args.extent.now in
    let held : c.in-Some.disk ≡ x.held = sym (rw c.in-Some.is at (ap (λ (p : Part). p.held) (sym c.extent.view_is))) in
    rw (c.part_of-part.ensures, c.piece_of-piece.ensures, held) (part-has-data x c.args.job.now c.args.payload.now c.requires.data)

pub invariant_of-extent : goal.invariant_of-extent
invariant_of-extent c =
    let P : Inside → Type 0 = λ i. IsHeld i.first i.end i.size i.shift i.disk in
    elim c.match-extent.branch [
      | in-Some w ↦
          let x = c.args.extent.now in
          let held : w.in-Some.disk ≡ x.held = sym (rw w.in-Some.is at (ap (λ (p : Part). p.held) (sym c.extent.view_is))) in
          let here : IsHeld c.extent.inside.first c.extent.inside.end c.extent.inside.size c.extent.inside.shift (Some w.in-Some.disk) = rw w.in-Some.is at c.extent.invariant in
          let inside : end_of c.part_of-part.result ≤ length w.in-Some.disk.blocks = rw (c.part_of-part.ensures, held) (part-inside x c.args.job.now) in
          let data_len : HasData c.part_of-part.result w.in-Some.disk.shift (length c.piece_of-piece.result.now) =
          rw (c.part_of-part.ensures, c.piece_of-piece.ensures, held) (part-has-data x c.args.job.now c.args.payload.now c.requires.data) in
          subst P (sym w.extent-inside-is) (held-after c.extent.inside.first c.extent.inside.end c.extent.inside.size c.extent.inside.shift w.in-Some.disk _ c.part_of-part.result c.piece_of-piece.result.now here w.do_io.ensures.disk inside data_len)
      | in-None w ↦ subst P (sym w.extent-inside-is) c.extent.invariant
    ]
