-- The calls of the program's target do what the model does.
use Rattle.std.proofs.Common.{◌≡◌, ℕ, IsTrue, List, [], ◌∷◌, Option, Some, None, nat_lt, slice_index, refl, sym, ap, subst, ◌∙◌, Result, Ok, Err, IfOk, OnErr}
use Rattle.std.specs.FinMap as map
use Rattle.sqe_cqe.specs.declared.controllers.Bound.{Bound as CodeBound}
use Rattle.sqe_cqe.specs.declared.controllers.Binding.{Binding as CodeBinding}
use Rattle.configfs_tree.specs.declared.configuration.Attached.{Attached}
use Rattle.configfs_tree.specs.declared.configuration.Settings.{Settings}
use Rattle.configfs_tree.specs.declared.configuration.Configuration.{Configuration}
use Rattle.configfs_tree.specs.declared.edits.Change.{Change}
use Rattle.configfs_tree.specs.declared.edits.Errno.{Errno}
use Rattle.configfs_tree.specs.declared.edits.Refused.{Refused}
use Rattle.configfs_tree.specs.declared.edits.Refused.TheVariants as refused
use Rattle.configfs_rows.specs.declared.namespaces.NamespaceRow.{NamespaceRow}
use Rattle.configfs_rows.specs.declared.subsystems.SubsystemRow.{SubsystemRow}
use Rattle.configfs_tree.specs.Gives.{Gives}
use Rattle.configfs_tree.specs.Drained.{freed_path, freed_by, drained}
use Rattle.configfs_tree.specs.NamespaceRows.{rows_of}
use Rattle.configfs_tree.specs.Outcome.{Refuses, Accepts}
use Rattle.configfs_tree.specs.Stays.{is_subsystem_attached, is_port_attached, Stays}
use Rattle.change_stamps.specs.Stamps.{Stamps, stamps_after}
use Rattle.tree_target.specs.declared.calls.Command.{Command}
use Rattle.tree_target.specs.declared.calls.Reply.TheVariants as replies
use Rattle.tree_target.specs.Edits.{Edit, outcome}
use Rattle.tree_target.specs.Model.{Call, AnEdit, DrainEnd, Bound, Binding, Target}
use Rattle.tree_target.specs.Steps.{reply_of, bytes_of, changed, target_after, after_edit, edited, may_end}
use Rattle.tree_target.specs.Kept.{Kept, IsKept, LeavesOthers}
use Rattle.tree_target.specs.Stands.{IsBound, IsBoundAs, AreBound, StandsFor, Simulates, noted_by, reply_from}
use Rattle.tree_target.proofs.Joining.{joined_along}

-- ---- bindings go along with a tree that keeps what controllers are attached to
attached_sub : (t u : Configuration) (at : ℕ) → u.settings.attached ≡ t.settings.attached
    → is_subsystem_attached u at ≡ is_subsystem_attached t at
attached_sub t u at e = ap (λ (a : Attached). nat_lt 0 (slice_index a.subsystems at)) e

attached_port : (t u : Configuration) (at : ℕ) → u.settings.attached ≡ t.settings.attached
    → is_port_attached u at ≡ is_port_attached t at
attached_port t u at e = ap (λ (a : Attached). nat_lt 0 (slice_index a.ports at)) e

bound_along : (t u : Configuration) (port : ℕ) (c : CodeBound) (m : Bound) → Stays t u
    → IsBound t port c m → IsBound u port c m
bound_along t u port c m s b = record {
  ctrl = b.ctrl;
  qid = b.qid;
  sub = s.subsystems m.subsystem c.sub b.sub_attached b.sub;
  sub_attached = attached_sub t u c.sub s.attached ∙ b.sub_attached;
  at_port = s.ports port c.port b.port_attached b.at_port;
  port_attached = attached_port t u c.port s.attached ∙ b.port_attached;
}

bound_as_along : (t u : Configuration) (port : ℕ) (c : Option CodeBound) (m : Option Bound)
    → Stays t u → IsBoundAs t port c m → IsBoundAs u port c m
bound_as_along t u port None None s b = tt
bound_as_along t u port None (Some m) s b = b
bound_as_along t u port (Some c) None s b = b
bound_as_along t u port (Some c) (Some m) s b = bound_along t u port c m s b

pub are_bound_along : (t u : Configuration) (cs : List CodeBinding) (ms : List Binding)
    → Stays t u → AreBound t cs ms → AreBound u cs ms
are_bound_along t u [] [] s b = tt
are_bound_along t u [] (m ∷ ms) s b = b
are_bound_along t u (c ∷ cs) [] s b = b
are_bound_along t u (c ∷ cs) (m ∷ ms) s b = (
  b.0,
  bound_as_along t u m.port c.bound m.bound s b.1,
  are_bound_along t u cs ms s b.2,
)

-- ---- what a target stands for after a call, its history aside
pub stands_after : (k : Kept) (t t' : Target) (call : Call) → changed t call ≡ t' → StandsFor k t'
    → StandsFor k (target_after t call)
stands_after k t t' call e st = record {
  tree = ap (λ (x : Target). x.tree) e ∙ st.tree;
  controllers = ap (λ (x : Target). x.controllers) e ∙ st.controllers;
  blocks = ap (λ (x : Target). x.blocks) e ∙ st.blocks;
  bindings = subst (λ (b : List Binding). AreBound k.tree k.bindings b)
      (ap (λ (x : Target). x.bindings) (sym e)) st.bindings;
  held = ap (λ (x : Target). x.held) e ∙ st.held;
  events = ap (λ (x : Target). x.events) e ∙ st.events;
  stamps = ap (λ (x : Target). x.stamps) e ∙ st.stamps;
}

-- ---- what is left to the queues where bindings, held commands and disks stay

pub tree_leaves : (k : Kept) (u : Configuration) (s : Stamps)
    → LeavesOthers 0 k (record k { tree = u; stamps = s })
tree_leaves k u s = record {
  queues = refl;
  bindings = λ q ne. refl;
  idle = λ q ne h. h;
  holding = λ q number taken given ne h. record {
    is_held = h.is_held;
    has_data = h.has_data;
    is_given = h.is_given;
    short = h.short;
  };
}

pub all_left : (k : Kept) (queue : ℕ) → LeavesOthers queue k k
all_left k queue = record {
  queues = refl;
  bindings = λ q ne. refl;
  idle = λ q ne h. h;
  holding = λ q number taken given ne h. h;
}

-- ---- edits
accepted_does : (k : Kept) (line : ℕ) (e : Edit) (u : Configuration) (change : Change)
    → outcome k.tree e ≡ Accepts u change → Stays k.tree u
    → Simulates k (AnEdit line e) replies.Accepted []
    (record k { tree = u; stamps = stamps_after change k.stamps })
unfolding reply_of bytes_of changed
accepted_does k line e u change g stays t st =
    let o : outcome t.tree e ≡ Accepts u change = ap (λ (x : Configuration). outcome x e) st.tree
    ∙ g in
    record {
      lawful = refl;
      reply_is = ap edited o;
      bytes_are = refl;
      stands = stands_after (record k { tree = u; stamps = stamps_after change k.stamps }) t
          (record t { tree = u; stamps = stamps_after change t.stamps }) (AnEdit line e)
          (ap (after_edit t) o)
          (record {
            tree = refl;
            controllers = st.controllers;
            blocks = st.blocks;
            bindings = are_bound_along k.tree u k.bindings t.bindings stays st.bindings;
            held = st.held;
            events = st.events;
            stamps = ap (stamps_after change) st.stamps;
          });
    }

refused_does : (k : Kept) (line : ℕ) (e : Edit) (errno : Errno) → outcome k.tree e ≡ Refuses errno
    → Simulates k (AnEdit line e) (replies.Errno errno) [] k
unfolding reply_of bytes_of changed
refused_does k line e errno g t st =
    let o : outcome t.tree e ≡ Refuses errno = ap (λ (x : Configuration). outcome x e) st.tree
    ∙ g in
    record {
      lawful = refl;
      reply_is = ap edited o;
      bytes_are = refl;
      stands = stands_after k t t (AnEdit line e) (ap (after_edit t) o) st;
    }

same_tree : (k : Kept) (u : Configuration) → u ≡ k.tree → record k { tree = u } ≡ k
same_tree k u e = ap (λ (x : Configuration). record k { tree = x }) e

pub edit_does : (k : Kept) (line : ℕ) (e : Edit) (grows : _) (r : Result Change Refused)
    (u : Configuration) → Gives grows (outcome k.tree e) k.tree r u
    → IfOk r (λ _. Stays k.tree u)
    → IfOk (reply_from r) (λ reply. Simulates k (AnEdit line e) reply []
    (record k { tree = u; stamps = noted_by r k.stamps }))
edit_does k line e grows (Ok change) u g s = accepted_does k line e u change g s
edit_does k line e grows (Err (refused.Errno errno)) u g s =
    subst (λ (x : Kept). Simulates k (AnEdit line e) (replies.Errno errno) [] x)
    (sym (same_tree k u g.1)) (refused_does k line e errno g.0)
edit_does k line e grows (Err refused.Memory) u g s = tt

pub edit_same : (k : Kept) (e : Edit) (grows : _) (r : Result Change Refused) (u : Configuration)
    → Gives grows (outcome k.tree e) k.tree r u
    → OnErr (reply_from r) (record k { tree = u; stamps = noted_by r k.stamps } ≡ k)
edit_same k e grows (Ok change) u g = tt
edit_same k e grows (Err (refused.Errno errno)) u g = tt
edit_same k e grows (Err refused.Memory) u g = same_tree k u g.0

pub edit_leaves : (k : Kept) (r : Result Change Refused) (u : Configuration)
    → IfOk (reply_from r) (λ _. LeavesOthers 0 k
    (record k { tree = u; stamps = noted_by r k.stamps }))
edit_leaves k (Ok change) u = tree_leaves k u (stamps_after change k.stamps)
edit_leaves k (Err (refused.Errno errno)) u = tree_leaves k u k.stamps
edit_leaves k (Err refused.Memory) u = tt

-- another tree with the same attached controllers
pub tree_kept : (k : Kept) (room : ℕ) (u : Configuration) (stamps : Stamps)
    → u.settings.attached ≡ k.tree.settings.attached → IsKept k room
    → IsKept (record k { tree = u; stamps = stamps }) room
tree_kept k room u stamps e s = record {
  holds = s.holds;
  few_disks = s.few_disks;
  few_queues = s.few_queues;
  room = s.room;
  joined = joined_along k.tree u k.controllers k.bindings e s.joined;
  states = s.states;
}

-- after an edit, whatever it answers
pub edit_kept : (k : Kept) (room : ℕ) (e : Edit) (grows : _) (r : Result Change Refused)
    (u : Configuration) → Gives grows (outcome k.tree e) k.tree r u
    → IfOk r (λ _. Stays k.tree u) → IsKept k room
    → IsKept (record k { tree = u; stamps = noted_by r k.stamps }) room
edit_kept k room e grows (Ok change) u g s h =
    tree_kept k room u (stamps_after change k.stamps) s.attached h
edit_kept k room e grows (Err (refused.Errno errno)) u g s h =
    tree_kept k room u k.stamps (ap (λ (x : Configuration). x.settings.attached) g.1) h
edit_kept k room e grows (Err refused.Memory) u g s h =
    tree_kept k room u k.stamps (ap (λ (x : Configuration). x.settings.attached) g.0) h

-- ---- the end of a drain
freed_path_settings : (t : Configuration) (q : Option (List ℕ)) → (freed_path t q).settings
    ≡ t.settings
freed_path_settings t None = refl
freed_path_settings t (Some path) = refl

freed_by_settings : (t : Configuration) (rows : Option (SubsystemRow × NamespaceRow))
    → (freed_by t rows).settings ≡ t.settings
freed_by_settings t None = refl
freed_by_settings t (Some rows) = freed_path_settings t rows.1.device_path

pub drained_settings : (t : Configuration) (sub : List ℕ) (nsid : ℕ)
    → (drained t sub nsid).settings ≡ t.settings
drained_settings t sub nsid = freed_by_settings t (rows_of t.settings sub nsid)

same_settings : (t u : Configuration) → u.settings ≡ t.settings → Stays t u
same_settings t u e = record {
  attached = ap (λ (s : Settings). s.attached) e;
  subsystems = λ sub at b x. record {
    row = x.row;
    found = ap (λ (y : Settings). map.get y.subsystems sub) e ∙ x.found;
    at_is = x.at_is;
  };
  ports = λ id at b x. record {
    row = x.row;
    found = ap (λ (y : Settings). map.get y.ports id) e ∙ x.found;
    at_is = x.at_is;
  };
}

pub drained_kept : (k : Kept) (room : ℕ) (sub : List ℕ) (nsid : ℕ) → IsKept k room
    → IsKept (record k { tree = drained k.tree sub nsid }) room
drained_kept k room sub nsid h = tree_kept k room (drained k.tree sub nsid) k.stamps
    (ap (λ (s : Settings). s.attached) (drained_settings k.tree sub nsid)) h

pub drained_does : (k : Kept) (line : ℕ) (sub : List ℕ) (nsid : ℕ)
    → IsTrue (may_end k.tree k.held sub nsid)
    → Simulates k (DrainEnd line sub nsid) replies.Ended [] (record k {
      tree = drained k.tree sub nsid;
    })
unfolding reply_of bytes_of changed
drained_does k line sub nsid may t st = record {
  lawful = ap (λ (x : Configuration). may_end x t.held sub nsid) st.tree
      ∙ (ap (λ (x : List Command). may_end k.tree x sub nsid) st.held ∙ may);
  reply_is = refl;
  bytes_are = refl;
  stands = record {
    tree = ap (λ (x : Configuration). drained x sub nsid) st.tree;
    controllers = st.controllers;
    blocks = st.blocks;
    bindings = are_bound_along k.tree (drained k.tree sub nsid) k.bindings t.bindings
        (same_settings k.tree (drained k.tree sub nsid) (drained_settings k.tree sub nsid))
        st.bindings;
    held = st.held;
    events = st.events;
    stamps = st.stamps;
  };
}
