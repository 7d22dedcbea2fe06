-- Each edit of a simple plan, at the tree that the edits before it leave.
use Rattle.std.proofs.Common.{◌≡◌, ◌==◌, ◌+◌, ℕ, Bool, true, false, cond, not, nat_lt, List, [], ◌∷◌, codes, Option, Some, None, is_some, refl, ap, ◌∙◌, lit<}
use Rattle.std.specs.List.{AllByRecursion, list_any}
use Rattle.std.specs.Str.{bytes_eq}
use Rattle.std.specs.Ordering.{nat_cmp}
use Rattle.std.specs.Cmp.{nat_cmp_total}
use Rattle.std.specs.Cmp.Lexicographic.{nat_list_cmp_total}
use Rattle.std.specs.FinMap as map
use Rattle.std.specs.FinMap.{FinMap, nat_cmp-IsAntisymmetric}
use Rattle.std.proofs.lemmas.Slice.Eq.{bytes_eq-Decides}
use Rattle.configfs_rows.specs.Nqns.{name_order}
use Rattle.configfs_rows.specs.Values.{is_path}
use Rattle.configfs_rows.specs.Maps.{update_at}
use Rattle.configfs_rows.specs.Rows.{fresh_namespace, put_in}
use Rattle.configfs_rows.specs.Subsystems.{fresh_subsystem, add_namespace, put_in_subsystem, put_namespace}
use Rattle.configfs_rows.specs.Ports.{fresh_port, with_address, put_link}
use Rattle.configfs_rows.specs.Holders.{disk_of, holder_of, is_holder, hold, number_of}
use Rattle.configfs_rows.specs.declared.limits.TheConstants.{MAX_SUBSYSTEMS, MAX_PORTS}
use Rattle.configfs_rows.specs.declared.disks.DiskRow.{DiskRow}
use Rattle.configfs_rows.specs.declared.disks.Holder.{Holder}
use Rattle.configfs_rows.specs.declared.namespaces.NamespaceRow.{NamespaceRow}
use Rattle.configfs_rows.specs.declared.namespaces.NamespacePut.{NamespacePut}
use Rattle.configfs_rows.specs.declared.namespaces.NamespacePut.TheVariants.{Path, Enabled}
use Rattle.configfs_rows.specs.declared.subsystems.SubsystemRow.{SubsystemRow}
use Rattle.configfs_rows.specs.declared.subsystems.SubsystemPut.TheVariants.{AllowAnyHost}
use Rattle.configfs_rows.specs.declared.ports.Address.TheVariants.{Trtype}
use Rattle.configfs_rows.specs.declared.ports.PortRow.{PortRow}
use Rattle.configfs_rows.proofs.LowFree.{low_free}
use Rattle.configfs_tree.specs.declared.edits.Errno.{Errno}
use Rattle.configfs_tree.specs.declared.edits.Touched.TheVariants as touches
use Rattle.configfs_tree.specs.declared.configuration.Configuration.{Configuration}
use Rattle.configfs_tree.specs.Asked.{subsystem_place_taken, port_place_taken}
use Rattle.configfs_tree.specs.NamespaceRows.{paired, rows_in}
use Rattle.configfs_tree.specs.Outcome.{Outcome, Refuses, Accepts, first_of, either, unless_stands, touching, namespace_change, if_subsystem, if_rows, if_port}
use Rattle.configfs_tree.specs.Start.{empty_settings}
use Rattle.configfs_tree.specs.Table.{mkdir_subsystem, mkdir_namespace, mkdir_port, set_attr_allow_any_host, set_device_path, set_addr_trtype, set_enable}
use Rattle.configfs_tree.proofs.Kept.{names_same}
use Rattle.link_rules.specs.Table.{link_subsystem}
use Rattle.tree_target.specs.Start.{simple_nqn, simple_subsystem, simple_port}
use Rattle.tree_target.proofs.Singles.{single, no_values, get_single, update_single}

abbrev Rows : Type 0
Rows = FinMap name_order SubsystemRow

abbrev Ports : Type 0
Ports = FinMap nat_cmp PortRow

-- ---- rows of the table
-- an edit is accepted where no row's condition holds
passes : (rows : List (Bool × Errno)) (accepted : Outcome)
    → AllByRecursion (λ (row : Bool × Errno). row.0 ≡ false) rows → first_of rows accepted
    ≡ accepted
unfolding first_of
passes [] accepted p = refl
passes (row ∷ rows) accepted p =
    ap (λ (b : Bool). cond b (Refuses row.1) (first_of rows accepted)) p.0
    ∙ passes rows accepted p.1

in_sub : (m : Rows) (sub : List ℕ) (s : SubsystemRow) (f : SubsystemRow → Outcome)
    → map.get m sub ≡ Some s → if_subsystem (map.get m sub) f ≡ f s
unfolding if_subsystem
in_sub m sub s f e = ap (λ (o : Option SubsystemRow). if_subsystem o f) e

in_space : (m : Rows) (sub : List ℕ) (nsid : ℕ) (s : SubsystemRow) (n : NamespaceRow)
    (f : SubsystemRow → NamespaceRow → Outcome) → map.get m sub ≡ Some s
    → map.get s.namespaces nsid ≡ Some n → if_rows (rows_in nsid (map.get m sub)) f ≡ f s n
unfolding if_rows
in_space m sub nsid s n f e g = ap (λ (o : Option (SubsystemRow × NamespaceRow)). if_rows o f)
    (ap (rows_in nsid) e ∙ ap (paired s) g)

at_port : (m : Ports) (id : ℕ) (p : PortRow) (f : PortRow → Outcome) → map.get m id ≡ Some p
    → if_port (map.get m id) f ≡ f p
unfolding if_port
at_port m id p f e = ap (λ (o : Option PortRow). if_port o f) e

-- ---- finite maps of one row
sub_of : (s : SubsystemRow) → map.get (single {R = name_order} simple_nqn s) simple_nqn ≡ Some s
sub_of s = get_single nat_list_cmp_total names_same simple_nqn s

space_of : (n : NamespaceRow) → map.get (single {R = nat_cmp} 1 n) 1 ≡ Some n
space_of n = get_single nat_cmp_total nat_cmp-IsAntisymmetric 1 n

port_of : (p : PortRow) → map.get (single {R = nat_cmp} 1 p) 1 ≡ Some p
port_of p = get_single nat_cmp_total nat_cmp-IsAntisymmetric 1 p

-- ---- the trees between the edits
abbrev pub tree_of : List ℕ → Option Holder → Rows → Ports → Configuration
tree_of path holder subsystems ports = record {
  settings = record empty_settings { subsystems = subsystems; ports = ports };
  disks = (record { path = path; holder = holder }) ∷ [];
}

abbrev pub one_sub : SubsystemRow → Rows
one_sub s = single simple_nqn s

abbrev pub one_port : PortRow → Ports
one_port p = single 1 p

abbrev pub fresh_sub : SubsystemRow
fresh_sub = fresh_subsystem simple_nqn 0

abbrev pub open_sub : SubsystemRow
open_sub = record fresh_sub { allow_any_host = true }

abbrev pub with_space : NamespaceRow → SubsystemRow
with_space n = record open_sub { namespaces = single 1 n }

abbrev pub on_path : List ℕ → NamespaceRow
on_path path = record fresh_namespace { device_path = Some path; disk = Some 0 }

abbrev pub loop_port : PortRow
loop_port = record (fresh_port 1 0) { trtype = codes "loop" }

-- ---- the subsystem
pub makes_subsystem : (path : List ℕ)
    → mkdir_subsystem (tree_of path None map.empty map.empty) simple_nqn
    ≡ Accepts (tree_of path None (one_sub fresh_sub) map.empty) (touching (touches.Subsystem 0))
unfolding mkdir_subsystem
makes_subsystem path =
    let t = tree_of path None map.empty map.empty in
    let free : subsystem_place_taken t 0 ≡ false =
    ap (list_any (λ (s : SubsystemRow). s.at == 0)) (no_values (List ℕ) SubsystemRow name_order) in
    passes _ _ (
      refl,
      (
        ap is_some (map.get-empty {X = SubsystemRow} name_order simple_nqn),
        (ap (λ n. not (nat_lt n MAX_SUBSYSTEMS)) (map.len-empty name_order SubsystemRow), tt),
      ),
    )
    ∙ ap (λ at. Accepts (tree_of path None (one_sub (fresh_subsystem simple_nqn at)) map.empty)
    (touching (touches.Subsystem at)))
    (low_free MAX_SUBSYSTEMS 0 (subsystem_place_taken t) (lit< tt) free)

pub allows_any : (path : List ℕ)
    → set_attr_allow_any_host (tree_of path None (one_sub fresh_sub) map.empty) simple_nqn
    (codes "1") ≡ Accepts (tree_of path None (one_sub open_sub) map.empty)
    (touching (touches.Subsystem 0))
unfolding set_attr_allow_any_host unless_stands
allows_any path =
    in_sub _ simple_nqn fresh_sub _ (sub_of fresh_sub)
    ∙ (passes _ _ (refl, (ap (nat_lt 0) (map.len-empty name_order (Unit {0})), tt))
    ∙ ap (λ (m : Rows). Accepts (tree_of path None m map.empty) (touching (touches.Subsystem 0)))
    (update_single nat_list_cmp_total names_same simple_nqn fresh_sub
    (put_in_subsystem (AllowAnyHost true))))

-- ---- the namespace
pub makes_namespace : (path : List ℕ)
    → mkdir_namespace (tree_of path None (one_sub open_sub) map.empty) simple_nqn 1
    ≡ Accepts (tree_of path None (one_sub (with_space fresh_namespace)) map.empty)
    (touching (touches.Namespace 0 1))
unfolding mkdir_namespace
makes_namespace path =
    in_sub _ simple_nqn open_sub _ (sub_of open_sub)
    ∙ (passes _ _ (refl, (ap is_some (map.get-empty {X = NamespaceRow} nat_cmp 1), tt))
    ∙ ap (λ (m : Rows). Accepts (tree_of path None m map.empty) (touching (touches.Namespace 0 1)))
    (update_single nat_list_cmp_total names_same simple_nqn open_sub (add_namespace 1)))

-- an attribute of the namespace put
put_space : (n : NamespaceRow) (put : NamespacePut)
    → update_at (one_sub (with_space n)) simple_nqn (put_namespace 1 put)
    ≡ one_sub (with_space (put_in put n))
put_space n put =
    update_single nat_list_cmp_total names_same simple_nqn (with_space n) (put_namespace 1 put)
    ∙ ap (λ (m : FinMap nat_cmp NamespaceRow). one_sub (record open_sub { namespaces = m }))
    (update_single nat_cmp_total nat_cmp-IsAntisymmetric 1 n (put_in put))

own_path : (path : List ℕ) → bytes_eq path path ≡ true
own_path path = (bytes_eq-Decides path path).1 refl

number_is : (path : List ℕ) → number_of path (path ∷ []) ≡ Some 0
number_is path = ap (λ (b : Bool). cond (nat_lt (cond (not b) (1 + 0) 0) 1)
    (Some (cond (not b) (1 + 0) 0)) None) (own_path path)

pub sets_path : (path : List ℕ) → is_path path ≡ true
    → set_device_path (tree_of path None (one_sub (with_space fresh_namespace)) map.empty)
    simple_nqn 1 path
    ≡ Accepts (tree_of path None (one_sub (with_space (on_path path))) map.empty)
    (touching (touches.Namespace 0 1))
unfolding set_device_path unless_stands
sets_path path good =
    in_space _ simple_nqn 1 (with_space fresh_namespace) fresh_namespace _
    (sub_of (with_space fresh_namespace)) (space_of fresh_namespace)
    ∙ (passes _ _ (refl, (ap not good, tt))
    ∙ (ap (λ (m : Rows). Accepts (tree_of path None m map.empty) (touching (touches.Namespace 0 1)))
    (put_space fresh_namespace (Path path (number_of path (path ∷ []))))
    ∙ ap (λ (i : Option ℕ). Accepts (tree_of path None
    (one_sub (with_space (put_in (Path path i) fresh_namespace))) map.empty)
    (touching (touches.Namespace 0 1))) (number_is path)))

-- ---- the port
pub makes_port : (path : List ℕ) (subs : Rows) → mkdir_port (tree_of path None subs map.empty) 1
    ≡ Accepts (tree_of path None subs (one_port (fresh_port 1 0))) (touching (touches.Port 0))
unfolding mkdir_port
makes_port path subs =
    let t = tree_of path None subs map.empty in
    let free : port_place_taken t 0 ≡ false =
    ap (list_any (λ (p : PortRow). p.at == 0)) (no_values ℕ PortRow nat_cmp) in
    passes _ _ (
      ap is_some (map.get-empty {X = PortRow} nat_cmp 1),
      (ap (λ n. not (nat_lt n MAX_PORTS)) (map.len-empty nat_cmp PortRow), tt),
    )
    ∙ ap (λ at. Accepts (tree_of path None subs (one_port (fresh_port 1 at)))
    (touching (touches.Port at)))
    (low_free MAX_PORTS 0 (port_place_taken t) (lit< tt) free)

pub sets_trtype : (path : List ℕ) (subs : Rows)
    → set_addr_trtype (tree_of path None subs (one_port (fresh_port 1 0))) 1 (codes "loop")
    ≡ Accepts (tree_of path None subs (one_port loop_port)) (touching (touches.Port 0))
unfolding set_addr_trtype unless_stands
sets_trtype path subs =
    at_port _ 1 (fresh_port 1 0) _ (port_of (fresh_port 1 0))
    ∙ (passes _ _ (ap (nat_lt 0) (map.len-empty name_order (Unit {0})), (refl, tt))
    ∙ ap (λ (m : Ports). Accepts (tree_of path None subs m) (touching (touches.Port 0)))
    (update_single nat_cmp_total nat_cmp-IsAntisymmetric 1 (fresh_port 1 0)
    (with_address Trtype (codes "loop"))))

pub links : (path : List ℕ) (s : SubsystemRow)
    → link_subsystem (tree_of path None (one_sub s) (one_port loop_port)) 1 simple_nqn
    ≡ Accepts (tree_of path None (one_sub s) (one_port simple_port)) (touching (touches.Port 0))
unfolding link_subsystem
links path s =
    at_port _ 1 loop_port _ (port_of loop_port)
    ∙ (in_sub _ simple_nqn s _ (sub_of s)
    ∙ (passes _ _ (ap is_some (map.get-empty {X = Unit {0}} name_order simple_nqn), (refl, tt))
    ∙ ap (λ (m : Ports). Accepts (tree_of path None (one_sub s) m) (touching (touches.Port 0)))
    (update_single nat_cmp_total nat_cmp-IsAntisymmetric 1 loop_port (put_link simple_nqn true))))

-- ---- the namespace enabled
abbrev free_row : List ℕ → DiskRow
free_row path = record { path = path; holder = None }

abbrev first_holder : Option Holder
first_holder = Some (record { sub = 0; nsid = 1 })

found_row : (path : List ℕ) → disk_of path (free_row path ∷ []) ≡ Some (free_row path)
found_row path = ap (λ (b : Bool). cond b (Some (free_row path)) None) (own_path path)

held_row : (path : List ℕ) → hold path first_holder (free_row path ∷ [])
    ≡ (record { path = path; holder = first_holder }) ∷ []
held_row path = ap (λ (b : Bool). cond b ((record { path = path; holder = first_holder }) ∷ [])
    (free_row path ∷ [])) (own_path path)

pub enables : (path : List ℕ) (ports : Ports)
    → set_enable (tree_of path None (one_sub (with_space (on_path path))) ports) simple_nqn 1
    (codes "1")
    ≡ Accepts (tree_of path first_holder (one_sub (simple_subsystem path)) ports)
    (namespace_change 0 1 false)
unfolding set_enable either unless_stands
enables path ports =
    in_space _ simple_nqn 1 (with_space (on_path path)) (on_path path) _
    (sub_of (with_space (on_path path))) (space_of (on_path path))
    ∙ (passes _ _ (
      refl,
      (
        ap (λ (d : Option DiskRow). is_holder 0 1 (holder_of d)) (found_row path),
        (
          ap (λ (d : Option DiskRow). not (is_some d)) (found_row path),
          (ap (λ (d : Option DiskRow). is_some (holder_of d)) (found_row path), tt),
        ),
      ),
    )
    ∙ (ap (λ (m : Rows). Accepts (record (tree_of path None m ports) {
      disks =
          hold path first_holder (free_row path ∷ []);
    }) (namespace_change 0 1 false))
    (put_space (on_path path) (Enabled true))
    ∙ ap (λ (disks : List DiskRow). Accepts (record (tree_of path None
    (one_sub (simple_subsystem path)) ports) { disks = disks }) (namespace_change 0 1 false))
    (held_row path)))
