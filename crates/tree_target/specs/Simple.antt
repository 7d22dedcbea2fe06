-- What the program's target keeps at the start of a simple plan.
use Rattle.std.specs.Prelude.{[], ◌∷◌, Some}
use Rattle.mem_bdev.specs.Blocks.{blank}
use Rattle.mem_bdev.specs.declared.disk.DiskLine.{DiskLine}
use Rattle.sqe_cqe.specs.Ready.{simple_rows}
use Rattle.async_events.specs.Stamps.{begun}
use Rattle.change_stamps.specs.Stamps.{no_stamps}
use Rattle.tree_target.specs.Kept.{Kept}
use Rattle.tree_target.specs.Stands.{StandsFor}
use Rattle.tree_target.specs.Start.{simple_tree, simple_start}

abbrev pub kept_simple : DiskLine → Kept
kept_simple d = record {
  tree = simple_tree d.path;
  controllers = simple_rows;
  blocks = blank d.shift d.blocks ∷ [];
  bindings = (record {
    port = 1;
    bound = Some (record { ctrl = 1; qid = 1; sub = 0; port = 0 });
  }) ∷ [];
  held = [];
  events = begun 0 0 ∷ [];
  stamps = no_stamps;
}

-- by positions it stands for that start by names
abbrev pub SimpleStands : Type 0
SimpleStands = (d : DiskLine) → StandsFor (kept_simple d) (simple_start d)
