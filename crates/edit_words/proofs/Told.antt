-- What a change tells of is within the table.
use Rattle.std.proofs.Common.{◌≡◌, ◌<◌, ℕ, ◌++◌, Option, Some, None, refl, arith}
use Rattle.std.specs.Prelude.{IfSome}
use Rattle.configfs_rows.specs.declared.namespaces.NamespaceRow.{NamespaceRow}
use Rattle.configfs_tree.specs.Links.{subsystem_row}
use Rattle.configfs_tree.specs.Standing.{IsStanding}
use Rattle.configfs_tree.specs.declared.configuration.Configuration.{Configuration}
use Rattle.configfs_tree.specs.declared.edits.Change.{Change}
use Rattle.configfs_tree.specs.declared.edits.Touched.{Touched}
use Rattle.configfs_tree.specs.declared.edits.Touched.TheVariants as touches
use Rattle.configfs_tree.proofs.Positions.{subsystem_positions}
use Rattle.tree_target.specs.Views.{space_in}
use Rattle.ns_table.specs.Changed.{disk_in}
use Rattle.ns_table.specs.Patches.{FitsTouched, FitsPair, IsBelow, FitsChange, touched_places, shown_places, turned_places, port_places, subsystem_places, told_places}
use Rattle.ns_table.specs.Positions.{IsNsid}
use Rattle.ns_table.proofs.Patched.{disk-small}
use Rattle.edit_words.proofs.ByPlace.{AllWithin, within-both}

ten : (s n : ℕ) → IsNsid s n → AllWithin (touched_places (touches.Namespace s n))
ten s n is =
    ((is, omega arith), ((is, omega arith), ((is, omega arith), ((is, omega arith), ((is, omega arith), ((is, omega arith), ((is, omega arith), ((is, omega arith), ((is, omega arith), ((is, omega arith), tt))))))))))

touched-in : (k : Touched) → FitsTouched k → AllWithin (touched_places k)
touched-in touches.Nothing h = tt
touched-in (touches.Namespace s n) h = ten s n h
touched-in (touches.Group port group) h = (h, tt)
touched-in (touches.Port port) h = ((h, omega arith, omega arith), tt)
touched-in (touches.Subsystem s) h = tt
touched-in (touches.Controller ctrl) h = (h, tt)

number-in : (o : Option ℕ) → IfSome o (λ d. d < 64) → AllWithin (shown_places o)
number-in None h = tt
number-in (Some d) h = (h, tt)

disk-in : (u : Configuration) (s n : ℕ) (o : Option NamespaceRow) → IsStanding u → space_in n (subsystem_row u s) ≡ o → AllWithin (shown_places (disk_in o))
disk-in u s n None st e = tt
disk-in u s n (Some a) st e = number-in a.disk (disk-small u s n a st (subsystem_positions u st.placed) e)

turned-in : (u : Configuration) (o : Option (ℕ × ℕ)) → IsStanding u → FitsPair o → AllWithin (turned_places u o)
turned-in u None st h = tt
turned-in u (Some x) st h = ((h, omega arith), disk-in u x.0 x.1 (space_in x.1 (subsystem_row u x.0)) st refl)

port-in : (o : Option ℕ) → IsBelow 8 o → AllWithin (port_places o)
port-in None h = tt
port-in (Some p) h = (h, (tt, tt))

sub-in : (o : Option ℕ) → IsBelow 16 o → AllWithin (subsystem_places o)
sub-in None h = tt
sub-in (Some s) h = (h, (tt, tt))

pub told-in : (u : Configuration) (c : Change) → IsStanding u → FitsChange c → AllWithin (told_places u c)
told-in u c st h =
    within-both (touched_places c.touched) (turned_places u c.namespace ++ (port_places c.ana_port ++ subsystem_places c.ana_subsystem)) (touched-in c.touched h.touched)
    (within-both (turned_places u c.namespace) (port_places c.ana_port ++ subsystem_places c.ana_subsystem) (turned-in u c.namespace st h.namespace)
    (within-both (port_places c.ana_port) (subsystem_places c.ana_subsystem) (port-in c.ana_port h.ana_port) (sub-in c.ana_subsystem h.ana_subsystem)))
