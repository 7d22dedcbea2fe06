-- The start of a simple plan, by positions and by names.
use Rattle.std.proofs.Common.{◌≡◌, ◌≤◌, ℕ, zero, suc, slice_index, replicate, arith, ◌∷◌, refl, lit≤}
use Rattle.std.specs.Cmp.{nat_cmp_total}
use Rattle.std.specs.Cmp.Lexicographic.{nat_list_cmp_total}
use Rattle.std.specs.FinMap as map
use Rattle.std.specs.FinMap.{nat_cmp-IsAntisymmetric}
use Rattle.mem_bdev.specs.declared.disk.DiskLine.{DiskLine}
use Rattle.sqe_cqe.specs.Ready.{simple_rows, simple_ctrl}
use Rattle.configfs_rows.proofs.Gets.{get-insert_at}
use Rattle.configfs_tree.proofs.Kept.{names_same}
use Rattle.plan_files.specs.declared.plan.TheConstants.{MAX_QUEUES}
use Rattle.tree_target.specs.Joined.{AreJoined}
use Rattle.tree_target.specs.Kept.{IsKept}
use Rattle.tree_target.specs.Stands.{StandsFor}
use Rattle.tree_target.specs.Start.{simple_nqn, simple_subsystem, simple_port, simple_start}
use Rattle.tree_target.specs.Simple.{kept_simple}
use Rattle.tree_target.proofs.Starts.{zeros_at}

pub simple_stands : (d : DiskLine) → StandsFor (kept_simple d) (simple_start d)
simple_stands d = record {
  tree = refl;
  controllers = refl;
  blocks = refl;
  bindings = (
    refl,
    record {
      ctrl = refl;
      qid = refl;
      sub = record {
        row = simple_subsystem d.path;
        found = get-insert_at nat_list_cmp_total names_same map.empty simple_nqn
            (simple_subsystem d.path);
        at_is = refl;
      };
      sub_attached = refl;
      at_port = record {
        row = simple_port;
        found = get-insert_at nat_cmp_total nat_cmp-IsAntisymmetric map.empty 1 simple_port;
        at_is = refl;
      };
      port_attached = refl;
    },
    tt,
  );
  held = refl;
  events = refl;
  stamps = refl;
}

-- ---- its one controller is counted at the first positions, and is of its one queue
one_at_most : (n at : ℕ) → slice_index (1 ∷ replicate n 0) at ≤ 1
one_at_most n zero = lit≤ tt
one_at_most n (suc at) = let none : slice_index (replicate n 0) at ≡ 0 = zeros_at n at in
    omega (arith, none)

joined : (d : DiskLine) → AreJoined (kept_simple d).tree (kept_simple d).controllers
    (kept_simple d).bindings
unfolding simple_rows simple_ctrl
joined d = record {
  subsystems = refl;
  ports = refl;
  counted = record { subsystems = one_at_most 15; ports = one_at_most 7 };
  attached = (record { sub = refl; port = refl }, tt);
  few = lit≤ tt;
}

pub simple_kept : (d : DiskLine) (room : ℕ) → MAX_QUEUES ≤ room → IsKept (kept_simple d) room
unfolding simple_rows
simple_kept d room enough = record {
  holds = record { fit = tt; numbered = tt; single = tt };
  few_disks = lit≤ tt;
  few_queues = lit≤ tt;
  room = enough;
  joined = joined d;
  states = refl;
}
