-- Names and positions lead to one row, and a live namespace's disk is found by its number.
use Rattle.std.proofs.Common.{◌≡◌, ℕ, zero, suc, ◌+◌, ◌<◌, ◌==◌, ◌||◌, not, Bool, true, false, cond, List, [], ◌∷◌, length, Option, Some, None, refl, sym, ap, subst, ◌∙◌, IsTrue}
use Rattle.std.specs.Prelude.{IfSome}
use Rattle.std.specs.List.{find, list_any, slice_get, position_or_len}
use Rattle.std.specs.Str.{bytes_eq}
use Rattle.std.proofs.lemmas.Slice.Eq.{bytes_eq-Decides}
use Rattle.std.proofs.lemmas.Bool.{eq-eqb, lt-ltb}
use Rattle.std.proofs.lemmas.List.Folds.{find_at}
use Rattle.std.proofs.lemmas.Option.{slice_get_within}
use Rattle.std.specs.Ordering.{nat_cmp}
use Rattle.std.specs.Cmp.{nat_cmp_total}
use Rattle.std.specs.Cmp.Lexicographic.{nat_list_cmp_total}
use Rattle.std.specs.FinMap as map
use Rattle.std.specs.FinMap.{nat_cmp-IsAntisymmetric}
use Rattle.configfs_rows.specs.declared.limits.TheConstants.{MAX_SUBSYSTEMS, MAX_PORTS}
use Rattle.configfs_rows.specs.Nqns.{is_nqn, name_order}
use Rattle.configfs_rows.specs.Holders.{disk_of, number_of, paths_of, disk_number, holds_path}
use Rattle.configfs_rows.specs.declared.disks.DiskRow.{DiskRow}
use Rattle.configfs_rows.specs.declared.namespaces.NamespaceRow.{NamespaceRow}
use Rattle.configfs_rows.specs.declared.subsystems.SubsystemRow.{SubsystemRow}
use Rattle.configfs_rows.specs.declared.ports.PortRow.{PortRow}
use Rattle.configfs_tree.specs.declared.configuration.Configuration.{Configuration}
use Rattle.configfs_tree.specs.Asked.{subsystem_place_taken, port_place_taken}
use Rattle.configfs_tree.specs.Links.{subsystem_place, port_place, place_named, SubsystemPositions, PortPositions}
use Rattle.configfs_tree.specs.Sound.{IsSound}
use Rattle.configfs_tree.specs.Standing.{Placed, placed_row, placed_in, IsPlaced, IsStanding, LiveHoldsDisk}
use Rattle.configfs_rows.proofs.Gets.{some_same, none_some}
use Rattle.configfs_rows.proofs.Placing.{found_passes}
use Rattle.configfs_rows.proofs.Each.{scan_row}
use Rattle.configfs_tree.proofs.Kept.{names_same}
use Rattle.configfs_tree.proofs.Held.{here, path_of_holder, holding}
use Rattle.configfs_tree.proofs.KeptTable.{live_holds}
use Rattle.configfs_tree.proofs.SoundTable.{length_paths}
use Rattle.configfs_tree.proofs.Stands.{own_subsystem, own_port}

-- ---- positions in use
eq_self : (n : ℕ) → (n == n) ≡ true
eq_self n = eq-eqb n n refl

if_some : (o : Option ℕ) (P : ℕ → Type 0) → ((x : ℕ) → o ≡ Some x → P x) → IfSome o P
if_some None P h = tt
if_some (Some x) P h = h x refl

row_taken : (t : Configuration) (sub : List ℕ) (s : SubsystemRow)
    → map.get t.settings.subsystems sub ≡ Some s → subsystem_place_taken t s.at ≡ true
row_taken t sub s e = found_passes name_order (λ (y : SubsystemRow). y.at == s.at) sub
    (map.entries t.settings.subsystems) s (sym (map.get-entries t.settings.subsystems sub)
    ∙ e) (eq_self s.at)

port_taken : (t : Configuration) (id : ℕ) (p : PortRow) → map.get t.settings.ports id ≡ Some p
    → port_place_taken t p.at ≡ true
port_taken t id p e = found_passes nat_cmp (λ (y : PortRow). y.at == p.at) id
    (map.entries t.settings.ports) p (sym (map.get-entries t.settings.ports id) ∙ e) (eq_self p.at)

place_taken : (t : Configuration) (sub : List ℕ) (at : ℕ) (found : Option SubsystemRow)
    → map.get t.settings.subsystems sub ≡ found → subsystem_place found ≡ Some at
    → IsTrue (subsystem_place_taken t at)
place_taken t sub at None e is = absurd (none_some at is)
place_taken t sub at (Some s) e is = subst (λ (n : ℕ). IsTrue (subsystem_place_taken t n))
    (some_same s.at at is) (row_taken t sub s e)

named_taken : (t : Configuration) (sub : List ℕ) (at : ℕ) (b : Bool)
    → cond b (subsystem_place (map.get t.settings.subsystems sub)) None ≡ Some at
    → IsTrue (subsystem_place_taken t at)
named_taken t sub at true is = place_taken t sub at (map.get t.settings.subsystems sub) refl is
named_taken t sub at false is = absurd (none_some at is)

pub named_in_use : (t : Configuration) (sub : List ℕ) (r : Option ℕ) → r ≡ place_named t sub
    → IfSome r (λ at. IsTrue (subsystem_place_taken t at))
named_in_use t sub r e = if_some r (λ at. IsTrue (subsystem_place_taken t at))
    (λ at is. named_taken t sub at (is_nqn sub) (sym e ∙ is))

port_at_taken : (t : Configuration) (id : ℕ) (at : ℕ) (found : Option PortRow)
    → map.get t.settings.ports id ≡ found → port_place found ≡ Some at
    → IsTrue (port_place_taken t at)
port_at_taken t id at None e is = absurd (none_some at is)
port_at_taken t id at (Some p) e is = subst (λ (n : ℕ). IsTrue (port_place_taken t n))
    (some_same p.at at is) (port_taken t id p e)

pub port_in_use : (t : Configuration) (id : ℕ) (r : Option ℕ)
    → r ≡ port_place (map.get t.settings.ports id) → IfSome r (λ at. IsTrue (port_place_taken t at))
port_in_use t id r e = if_some r (λ at. IsTrue (port_place_taken t at))
    (λ at is. port_at_taken t id at (map.get t.settings.ports id) refl (sym e ∙ is))

-- an element of a list passes a test of the list
later_passes : (a b : Bool) → b ≡ true → (a || b) ≡ true
later_passes true b e = refl
later_passes false b e = e

nth_passes : {X : Type 0} (p : X → Bool) (xs : List X) (n : ℕ) (x : X) → slice_get xs n ≡ Some x
    → p x ≡ true → list_any p xs ≡ true
nth_passes p [] n x e is = absurd (none_some x e)
nth_passes p (y ∷ xs) zero x e is = ap (λ b. b || list_any p xs) (ap p (some_same y x e) ∙ is)
nth_passes p (y ∷ xs) (suc n) x e is = later_passes (p y) (list_any p xs) (nth_passes p xs n x e is)

nth_subsystem_taken : (t : Configuration) (n at : ℕ) (found : Option SubsystemRow)
    → slice_get (map.values t.settings.subsystems) n ≡ found → subsystem_place found ≡ Some at
    → IsTrue (subsystem_place_taken t at)
nth_subsystem_taken t n at None e is = absurd (none_some at is)
nth_subsystem_taken t n at (Some s) e is =
    nth_passes (λ (y : SubsystemRow). y.at == at) (map.values t.settings.subsystems) n s e
    (eq-eqb s.at at (some_same s.at at is))

pub nth_subsystem_in_use : (t : Configuration) (n : ℕ) (r : Option ℕ)
    → r ≡ subsystem_place (slice_get (map.values t.settings.subsystems) n)
    → IfSome r (λ at. IsTrue (subsystem_place_taken t at))
nth_subsystem_in_use t n r e = if_some r (λ at. IsTrue (subsystem_place_taken t at))
    (λ at is. nth_subsystem_taken t n at (slice_get (map.values t.settings.subsystems) n) refl
    (sym e ∙ is))

nth_port_taken : (t : Configuration) (n at : ℕ) (found : Option PortRow)
    → slice_get (map.values t.settings.ports) n ≡ found → port_place found ≡ Some at
    → IsTrue (port_place_taken t at)
nth_port_taken t n at None e is = absurd (none_some at is)
nth_port_taken t n at (Some p) e is = nth_passes (λ (y : PortRow). y.at == at)
    (map.values t.settings.ports) n p e (eq-eqb p.at at (some_same p.at at is))

pub nth_port_in_use : (t : Configuration) (n : ℕ) (r : Option ℕ)
    → r ≡ port_place (slice_get (map.values t.settings.ports) n)
    → IfSome r (λ at. IsTrue (port_place_taken t at))
nth_port_in_use t n r e = if_some r (λ at. IsTrue (port_place_taken t at))
    (λ at is. nth_port_taken t n at (slice_get (map.values t.settings.ports) n) refl (sym e ∙ is))

-- ---- from a name to the row at its position, and back
pub subsystem_positions : (t : Configuration) → IsPlaced t → SubsystemPositions t
subsystem_positions t h = record {
  of_name = λ sub s e. scan_row nat_list_cmp_total names_same (λ (x : SubsystemRow). x.nqn)
      (λ (x : SubsystemRow). x.at) MAX_SUBSYSTEMS t.settings.subsystems sub s h.subsystems e;
  of_position = λ at s e. own_subsystem t at s e h;
}

pub port_positions : (t : Configuration) → IsPlaced t → PortPositions t
port_positions t h = record {
  of_id = λ id p e. scan_row nat_cmp_total nat_cmp-IsAntisymmetric (λ (x : PortRow). x.id)
      (λ (x : PortRow). x.at) MAX_PORTS t.settings.ports id p h.ports e;
  of_position = λ at p e. own_port t at p e h;
}

-- ---- the disk of a live namespace, by its number
disk_found : (path : List ℕ) (disks : List DiskRow) → disk_of path disks
    ≡ find (λ d. bytes_eq d.path path) disks
disk_found path [] = refl
disk_found path (d ∷ disks) = ap (cond (bytes_eq d.path path) (Some d)) (disk_found path disks)

paths_found : (path : List ℕ) (disks : List DiskRow)
    → position_or_len (λ (p : List ℕ). bytes_eq p path) (paths_of disks)
    ≡ position_or_len (λ (d : DiskRow). bytes_eq d.path path) disks
paths_found path [] = refl
paths_found path (d ∷ disks) = ap (λ n. cond (not (bytes_eq d.path path)) (1
    + n) 0) (paths_found path disks)

own_path_at : (path : List ℕ) (x d : DiskRow) (found : Option DiskRow) (b : Bool)
    → bytes_eq x.path path ≡ b → cond b (Some x) found ≡ Some d → (found ≡ Some d → d.path ≡ path)
    → d.path ≡ path
own_path_at path x d found true hit is rest = ap (λ (y : DiskRow). y.path) (sym (some_same x d is))
    ∙ (bytes_eq-Decides x.path path).0 hit
own_path_at path x d found false miss is rest = rest is

own_path : (path : List ℕ) (disks : List DiskRow) (d : DiskRow) → disk_of path disks ≡ Some d
    → d.path ≡ path
own_path path [] d e = absurd (none_some d e)
own_path path (x ∷ disks) d e = own_path_at path x d (disk_of path disks) (bytes_eq x.path path)
    refl e (own_path path disks d)

numbered : (path : List ℕ) (disks : List DiskRow) (d : DiskRow) → disk_of path disks ≡ Some d
    → slice_get disks (position_or_len (λ (p : List ℕ). bytes_eq p path) (paths_of disks)) ≡ Some d
numbered path disks d e = ap (slice_get disks) (paths_found path disks)
    ∙ (sym (find_at (λ (x : DiskRow). bytes_eq x.path path) disks)
    ∙ (sym (disk_found path disks) ∙ e))

number_is : (path : List ℕ) (disks : List DiskRow) (d : DiskRow) → disk_of path disks ≡ Some d
    → number_of path (paths_of disks) ≡ Some (position_or_len (λ (p : List ℕ). bytes_eq p path)
    (paths_of disks))
number_is path disks d e =
    let i = position_or_len (λ (p : List ℕ). bytes_eq p path) (paths_of disks) in
    let within : i < length disks = slice_get_within disks i d (numbered path disks d e) in
    let within' : i < length (paths_of disks) =
    subst (λ (n : ℕ). i < n) (sym (length_paths disks)) within in
    ap (λ b. cond b (Some i) None) (lt-ltb i (length (paths_of disks)) within')

in_space : (t : Configuration) (nsid : ℕ) (sub : List ℕ) (s : SubsystemRow) (x : Placed)
    (n : Option NamespaceRow) → IsSound t → map.get t.settings.subsystems sub ≡ Some s
    → map.get s.namespaces nsid ≡ n → placed_row s.at n ≡ Some x
    → x.row.disk ≡ disk_number (paths_of t.disks) x.row.device_path
in_space t nsid sub s x None h e f is = absurd (none_some x is)
in_space t nsid sub s x (Some n) h e f is = subst (λ (y : Placed). y.row.disk
    ≡ disk_number (paths_of t.disks) y.row.device_path) (some_same (here s.at n) x is)
    ((h.subsystems sub s e).namespaces nsid n f).disk

in_row : (t : Configuration) (nsid : ℕ) (sub : List ℕ) (x : Placed) (s : Option SubsystemRow)
    → IsSound t → map.get t.settings.subsystems sub ≡ s → placed_in nsid s ≡ Some x
    → x.row.disk ≡ disk_number (paths_of t.disks) x.row.device_path
in_row t nsid sub x None h e is = absurd (none_some x is)
in_row t nsid sub x (Some s) h e is = in_space t nsid sub s x (map.get s.namespaces nsid) h e refl
    is

pub live_holds_disk : (t : Configuration) (sub : List ℕ) (nsid : ℕ) → IsStanding t
    → LiveHoldsDisk t sub nsid
live_holds_disk t sub nsid h x stands live =
    let holds : IsTrue (holds_path t.disks x.at nsid x.row.device_path) =
    live_holds x.row.enabled (holds_path t.disks x.at nsid x.row.device_path) live
    (h.placed.holders.enabled_holds sub nsid x stands) in
    let p = path_of_holder t.disks x.at nsid x.row.device_path holds in
    let k = holding t.disks x.at nsid p.path (ap (holds_path t.disks x.at nsid) (sym p.is)
    ∙ holds) in
    record {
      number = position_or_len (λ (q : List ℕ). bytes_eq q p.path) (paths_of t.disks);
      disk = k.d;
      holder = k.h;
      numbered = in_row t nsid sub x (map.get t.settings.subsystems sub) h.sound refl stands
          ∙ (ap (disk_number (paths_of t.disks)) p.is ∙ number_is p.path t.disks k.d k.found);
      found = numbered p.path t.disks k.d k.found;
      same_path = p.is ∙ ap (λ q. Some q) (sym (own_path p.path t.disks k.d k.found));
      held = k.held;
      holder_sub = k.sub_is;
      holder_nsid = k.nsid_is;
    }
