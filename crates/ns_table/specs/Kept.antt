-- Stamps as a target keeps them beside its tree, by positions.
use Rattle.std.specs.Prelude.{◌≡◌, ℕ, ◌+◌, ◌*◌, List, length, slice_index}
use Rattle.mem_bdev.specs.Blocks.{Blocks}
use Rattle.sqe_cqe.specs.declared.controllers.ControllerRow.{ControllerRow}
use Rattle.sqe_cqe.specs.declared.rows.TheConstants.{MAX_NSID}
use Rattle.configfs_rows.specs.declared.limits.TheConstants.{MAX_SUBSYSTEMS, MAX_PORTS}
use Rattle.configfs_tree.specs.declared.configuration.Configuration.{Configuration}
use Rattle.change_stamps.specs.Stamps.{Stamps as Kept, space_stamp}
use Rattle.ns_table.specs.Words.{Stamps, Shape}

abbrev pub stamps_by : Kept → Stamps
stamps_by s = record {
  space = λ sub nsid. space_stamp s sub nsid;
  subsystem = λ sub. slice_index s.subs sub;
  port = λ port. slice_index s.ports port;
}

-- what a target's words are of
abbrev pub shape_of : Configuration → List ControllerRow → List Blocks → Kept → Shape
shape_of t controllers blocks stamps = record {
  tree = t;
  controllers = controllers;
  blocks = blocks;
  stamps = stamps_by stamps;
}

-- there is a stamp for each position and no other, and NSID 0, which names nothing, never changed
pub record HavePlaces (s : Kept) : Type 0 where
  pub spaces : length s.spaces ≡ MAX_SUBSYSTEMS * (MAX_NSID + 1)
  pub subs : length s.subs ≡ MAX_SUBSYSTEMS
  pub ports : length s.ports ≡ MAX_PORTS
  pub never : (sub : ℕ) → space_stamp s sub 0 ≡ 0
