-- A tree that grows to one that stands: its namespaces are namespaces of that tree, and its disks
-- are held by those that are enabled.
use Rattle.std.proofs.Common.{◌≡◌, ◌<◌, ◌==◌, ℕ, Bool, true, false, cond, ◌||◌, IsTrue, List, [], ◌∷◌, Option, Some, None, is_some, refl, sym, ap, subst, ◌∙◌, arith}
use mathlib.Core.Logic.{⊎_elim}
use Rattle.std.specs.List.{list_any}
use Rattle.std.specs.Str.{bytes_eq}
use Rattle.std.specs.Ordering.{nat_cmp}
use Rattle.std.specs.Cmp.{nat_cmp_total}
use Rattle.std.specs.Cmp.Lexicographic.{nat_list_cmp_total}
use Rattle.std.specs.FinMap as map
use Rattle.std.specs.FinMap.{nat_cmp-IsAntisymmetric}
use Rattle.std.proofs.lemmas.Bool.{cases_Bool, both_ways}
use Rattle.configfs_rows.specs.Holders.{disk_of, holder_of, hold, holds_path, has_disk, is_held, paths_of}
use Rattle.configfs_rows.specs.declared.limits.TheConstants.{MAX_SUBSYSTEMS}
use Rattle.configfs_rows.specs.declared.disks.DiskRow.{DiskRow}
use Rattle.configfs_rows.specs.declared.disks.Holder.{Holder}
use Rattle.configfs_rows.specs.declared.namespaces.NamespaceRow.{NamespaceRow}
use Rattle.configfs_rows.specs.declared.subsystems.SubsystemRow.{SubsystemRow}
use Rattle.configfs_rows.proofs.Gets.{some_same, none_some, get-insert_at, get-insert_beside}
use Rattle.configfs_rows.proofs.Placing.{places_updated, places_inserted, place_is_free, stands_at_none}
use Rattle.configfs_rows.specs.Places.{lowest_free}
use Rattle.configfs_rows.specs.Maps.{update_at}
use Rattle.configfs_tree.specs.Standing.{Placed, placed, placed_in, placed_row, SubsystemPlaces, IsStanding}
use Rattle.configfs_tree.specs.declared.configuration.Configuration.{Configuration}
use Rattle.configfs_tree.proofs.Held.{here, cases_name, Slot, is_slot, no_slot, cases_slot, disk_of-hold_at, disk_of-hold_beside, Holding, holding, path_of_holder}
use Rattle.configfs_tree.proofs.Kept.{Rows, Spaces, names_same, with_spaces, placed_others, placed_here, placed_was}
use Rattle.configfs_tree.proofs.SoundTable.{hold_paths}
use Rattle.json_round_trip.proofs.Spaces.{disks_after, CanEnable}

-- a namespace that is enabled and placed where a holder says, with the disk's path
pub record IsOn (m : Rows) (path : List ℕ) (h : Holder) : Type 0 where
  pub sub : List ℕ
  pub row : NamespaceRow
  pub stands : placed m sub h.nsid ≡ Some (here h.sub row)
  pub same_path : row.device_path ≡ Some path
  pub on : row.enabled ≡ true

-- a row of a namespace of the tree
pub record RowOf (t : Configuration) (sub : List ℕ) (nsid : ℕ) (n : NamespaceRow) : Type 0 where
  pub s : SubsystemRow
  pub found : map.get t.settings.subsystems sub ≡ Some s
  pub space : map.get s.namespaces nsid ≡ Some n

pub record Grows (t : Configuration) (m : Rows) (disks : List DiskRow) : Type 0 where
  pub paths : paths_of disks ≡ paths_of t.disks
  pub places : SubsystemPlaces m
  pub holders : (path : List ℕ) (d : DiskRow) (h : Holder) → disk_of path disks ≡ Some d
      → d.holder ≡ Some h → IsOn m path h
  pub rows : (sub : List ℕ) (nsid : ℕ) (x : Placed) → placed m sub nsid ≡ Some x
      → RowOf t sub nsid x.row

-- ---- disks by their paths
named_at : (path : List ℕ) (d : DiskRow) (found : Option DiskRow) (rest b : Bool)
    → is_some found ≡ rest → is_some (cond b (Some d) found) ≡ (b || rest)
named_at path d found rest true e = refl
named_at path d found rest false e = e

pub named : (path : List ℕ) (disks : List DiskRow) → is_some (disk_of path disks)
    ≡ list_any (λ (p : List ℕ). bytes_eq p path) (paths_of disks)
named path [] = refl
named path (d ∷ disks) = named_at path d (disk_of path disks) _ (bytes_eq d.path path)
    (named path disks)

-- a disk is held where someone holds it
pub record HeldDisk (disks : List DiskRow) (q : Option (List ℕ)) : Type 0 where
  pub path : List ℕ
  pub d : DiskRow
  pub h : Holder
  pub path_is : q ≡ Some path
  pub found : disk_of path disks ≡ Some d
  pub held : d.holder ≡ Some h

held_at : (disks : List DiskRow) (path : List ℕ) (o : Option DiskRow) → disk_of path disks ≡ o
    → is_some (holder_of o) ≡ true → HeldDisk disks (Some path)
held_at disks path None e is = absurd (both_ways false refl is)
held_at disks path (Some d) e is = at d.holder refl is where
  at : (h : Option Holder) → d.holder ≡ h → is_some h ≡ true → HeldDisk disks (Some path)
  at None f is = absurd (both_ways false refl is)
  at (Some h) f is = record { path = path; d = d; h = h; path_is = refl; found = e; held = f }

held_disk : (disks : List DiskRow) (q : Option (List ℕ)) → is_held disks q ≡ true → HeldDisk disks q
held_disk disks None is = absurd (both_ways false refl is)
held_disk disks (Some path) is = held_at disks path (disk_of path disks) refl is

-- ---- one enabled namespace a disk
-- an enabled namespace of a tree that stands, and the disk that it holds
pub record OwnDisk (t : Configuration) (sub : List ℕ) (nsid : ℕ) (n : NamespaceRow) : Type 0 where
  pub row : SubsystemRow
  pub found : map.get t.settings.subsystems sub ≡ Some row
  pub path : List ℕ
  pub path_is : n.device_path ≡ Some path
  pub holds : Holding t.disks row.at nsid path

own_disk : (t : Configuration) (sub : List ℕ) (nsid : ℕ) (n : NamespaceRow) → IsStanding t
    → RowOf t sub nsid n → n.enabled ≡ true → OwnDisk t sub nsid n
own_disk t sub nsid n stands r on =
    let holds : IsTrue (holds_path t.disks r.s.at nsid n.device_path) =
    stands.placed.holders.enabled_holds sub nsid (here r.s.at n)
    (placed_was t.settings.subsystems sub nsid r.s (Some n) r.found r.space) on in
    let q = path_of_holder t.disks r.s.at nsid n.device_path holds in
    record {
      row = r.s;
      found = r.found;
      path = q.path;
      path_is = q.is;
      holds = holding t.disks r.s.at nsid q.path
          (ap (holds_path t.disks r.s.at nsid) (sym q.is) ∙ holds);
    }

-- two that have one path are one
same_subsystem : (t : Configuration) (a b : List ℕ) (i j : ℕ) (n k : NamespaceRow) → IsStanding t
    → RowOf t a i n → RowOf t b j k → n.enabled ≡ true → k.enabled ≡ true
    → n.device_path ≡ k.device_path → (a ≡ b) × (i ≡ j)
same_subsystem t a b i j n k stands r q on on' level =
    let x = own_disk t a i n stands r on in
    let y = own_disk t b j k stands q on' in
    let path : x.path ≡ y.path = some_same x.path y.path (sym x.path_is ∙ (level ∙ y.path_is)) in
    let d : x.holds.d ≡ y.holds.d = some_same x.holds.d y.holds.d (sym x.holds.found
    ∙ (ap (λ (p : List ℕ). disk_of p t.disks) path ∙ y.holds.found)) in
    let h : x.holds.h ≡ y.holds.h = some_same x.holds.h y.holds.h (sym x.holds.held
    ∙ (ap (λ (e : DiskRow). e.holder) d ∙ y.holds.held)) in (
      stands.placed.subsystems.apart a b x.row y.row x.found y.found (sym x.holds.sub_is
          ∙ (ap (λ (w : Holder). w.sub) h ∙ y.holds.sub_is)),
      sym x.holds.nsid_is ∙ (ap (λ (w : Holder). w.nsid) h ∙ y.holds.nsid_is),
    )

-- the rows of a namespace that is placed
record Stood (o : Option SubsystemRow) (nsid : ℕ) (x : Placed) : Type 0 where
  s : SubsystemRow
  is : o ≡ Some s
  at_is : s.at ≡ x.at
  space : map.get s.namespaces nsid ≡ Some x.row

stood_in : (s : SubsystemRow) (nsid : ℕ) (x : Placed) (n : Option NamespaceRow)
    → map.get s.namespaces nsid ≡ n → placed_row s.at n ≡ Some x → Stood (Some s) nsid x
stood_in s nsid x None e is = absurd (none_some x is)
stood_in s nsid x (Some n) e is =
    let y : here s.at n ≡ x = some_same (here s.at n) x is in
    record {
      s = s;
      is = refl;
      at_is = ap (λ (z : Placed). z.at) y;
      space = e ∙ ap (λ (z : Placed). Some z.row) y;
    }

stood : (o : Option SubsystemRow) (nsid : ℕ) (x : Placed) → placed_in nsid o ≡ Some x
    → Stood o nsid x
stood None nsid x is = absurd (none_some x is)
stood (Some s) nsid x is = stood_in s nsid x (map.get s.namespaces nsid) refl is

record FoundDisk (o : Option DiskRow) : Type 0 where
  d : DiskRow
  is : o ≡ Some d

some_of : (o : Option DiskRow) → is_some o ≡ true → FoundDisk o
some_of None is = absurd (both_ways false refl is)
some_of (Some d) is = record { d = d; is = refl }

-- ---- a namespace that isn't made yet
module _ (t : Configuration) (m : Rows) (disks : List DiskRow) (s : SubsystemRow) (nsid : ℕ)
    (n : NamespaceRow) (stands : IsStanding t) (g : Grows t m disks)
    (here_is : map.get m s.nqn ≡ Some s) (new : map.get s.namespaces nsid ≡ None)
    (of : RowOf t s.nqn nsid n) where
  not_there : placed m s.nqn nsid ≡ None
  not_there = placed_was m s.nqn nsid s None here_is new

  elsewhere : (sub : List ℕ) (j : ℕ) (x : Placed) → placed m sub j ≡ Some x → sub ≡ s.nqn
      → j ≡ nsid → ⊥
  elsewhere sub j x is same level = none_some x (sym not_there
      ∙ (ap (λ (p : List ℕ). placed m p nsid) (sym same)
      ∙ (ap (placed m sub) (sym level) ∙ is)))

  -- it holds no disk
  pub is_idle : holds_path disks s.at nsid n.device_path ≡ false
  is_idle = ⊎_elim (λ (e : holds_path disks s.at nsid n.device_path ≡ true). absurd (never e))
      (λ e. e) (cases_Bool (holds_path disks s.at nsid n.device_path)) where
        never : holds_path disks s.at nsid n.device_path ≡ true → ⊥
        never e =
            let q = path_of_holder disks s.at nsid n.device_path e in
            let k = holding disks s.at nsid q.path (ap (holds_path disks s.at nsid) (sym q.is) ∙ e) in
            let on = g.holders q.path k.d k.h k.found k.held in
            let w = stood (map.get m on.sub) k.h.nsid (here k.h.sub on.row) on.stands in
            elsewhere on.sub k.h.nsid (here k.h.sub on.row) on.stands
            (g.places.apart on.sub s.nqn w.s s w.is here_is (cc (w.at_is, k.sub_is))) k.nsid_is

  -- where it is to be enabled, its disk is there and free
  pub can_enable : n.enabled ≡ true → CanEnable disks n.device_path
  can_enable on =
      let own = own_disk t s.nqn nsid n stands of on in
      record {
        has = ap (has_disk disks) own.path_is ∙ (named own.path disks
            ∙ (ap (list_any (λ (p : List ℕ). bytes_eq p own.path)) g.paths
            ∙ (sym (named own.path t.disks) ∙ ap is_some own.holds.found)));
        free = ⊎_elim (λ (e : is_held disks n.device_path ≡ true). absurd (never e))
            (λ e. e) (cases_Bool (is_held disks n.device_path));
      } where
        never : is_held disks n.device_path ≡ true → ⊥
        never e =
            let k = held_disk disks n.device_path e in
            let who = g.holders k.path k.d k.h k.found k.held in
            let x = here k.h.sub who.row in
            let one = same_subsystem t who.sub s.nqn k.h.nsid nsid who.row n stands
            (g.rows who.sub k.h.nsid x who.stands) of who.on on (who.same_path ∙ sym k.path_is) in
            elsewhere who.sub k.h.nsid x who.stands one.0 one.1

  -- ---- and after it was made
  abbrev add : Spaces → Spaces
  add ns = map.insert ns nsid n

  abbrev m' : Rows
  m' = update_at m s.nqn (with_spaces add)

  others : (a : List ℕ) (j : ℕ) → (a ≡ s.nqn → j ≡ nsid → ⊥) → placed m' a j ≡ placed m a j
  others = placed_others m s.nqn nsid add (λ ns j ne. get-insert_beside nat_cmp_total
      nat_cmp-IsAntisymmetric ns nsid n j ne)

  now_here : placed m' s.nqn nsid ≡ Some (here s.at n)
  now_here = placed_here m s.nqn nsid add s here_is ∙ ap (placed_row s.at) (get-insert_at
      nat_cmp_total nat_cmp-IsAntisymmetric s.namespaces nsid n)

  kept_on : (path : List ℕ) (h : Holder) → IsOn m path h → IsOn m' path h
  kept_on path h on = record {
    sub = on.sub;
    row = on.row;
    stands = others on.sub h.nsid (elsewhere on.sub h.nsid (here h.sub on.row) on.stands)
        ∙ on.stands;
    same_path = on.same_path;
    on = on.on;
  }

  now_rows : (sub : List ℕ) (j : ℕ) (x : Placed) → placed m' sub j ≡ Some x → RowOf t sub j x.row
  now_rows sub j x is = at (cases_slot s.nqn nsid sub j) where
    at : Slot s.nqn nsid sub j → RowOf t sub j x.row
    at (is_slot e f) =
        let y : here s.at n ≡ x = some_same (here s.at n) x (sym now_here
        ∙ (ap (λ (p : List ℕ). placed m' p nsid) (sym e) ∙ (ap (placed m' sub) (sym f) ∙ is))) in
        subst (λ (p : List ℕ). RowOf t p j x.row) (sym e)
        (subst (λ (i : ℕ). RowOf t s.nqn i x.row) (sym f)
        (subst (λ (z : Placed). RowOf t s.nqn nsid z.row) y of))
    at (no_slot ne) = g.rows sub j x (sym (others sub j ne) ∙ is)

  places' : SubsystemPlaces m'
  places' = places_updated nat_list_cmp_total names_same (λ s. s.nqn) (λ s. s.at) MAX_SUBSYSTEMS m
      s.nqn (with_spaces add) (λ s. refl) (λ s. refl) g.places

  abbrev h' : Holder
  h' = record { sub = s.at; nsid = nsid }

  -- of an enabled namespace, on the disk of its path
  held_on : n.enabled ≡ true → (p : List ℕ) → n.device_path ≡ Some p → (path : List ℕ) (d : DiskRow)
      (h : Holder) → disk_of path (hold p (Some h') disks) ≡ Some d → d.holder ≡ Some h
      → IsOn m' path h
  held_on on p path_is path d h found held = ⊎_elim
      (λ (e : path ≡ p).
      let d0 = some_of (disk_of p disks) (ap (has_disk disks) (sym path_is) ∙ (can_enable on).has) in
      let now : disk_of p (hold p (Some h') disks) ≡ Some (record d0.d { holder = Some h' }) =
      disk_of-hold_at p (Some h') disks d0.d d0.is in
      let same : record d0.d { holder = Some h' } ≡ d = some_same _ d (sym now
      ∙ (ap (λ (q : List ℕ). disk_of q (hold p (Some h') disks)) (sym e) ∙ found)) in
      let who : h' ≡ h = some_same h' h (ap (λ (x : DiskRow). x.holder) same ∙ held) in
      subst (λ (w : Holder). IsOn m' path w) who (record {
        sub = s.nqn;
        row = n;
        stands = now_here;
        same_path = path_is ∙ ap (λ (q : List ℕ). Some q) (sym e);
        on = on;
      }))
      (λ ne. kept_on path h (g.holders path d h (sym (disk_of-hold_beside p (Some h') disks path ne)
      ∙ found) held))
      (cases_name path p)

  grown_with : (b : Bool) → n.enabled ≡ b → (q : Option (List ℕ)) → n.device_path ≡ q
      → Grows t m' (disks_after s.at nsid q b disks)
  grown_with false off q is = record {
    paths = g.paths;
    places = places';
    holders = λ path d h e f. kept_on path h (g.holders path d h e f);
    rows = now_rows;
  }
  grown_with true on None is = absurd (none_some (own_disk t s.nqn nsid n stands of on).path (sym is
      ∙ (own_disk t s.nqn nsid n stands of on).path_is))
  grown_with true on (Some p) is = record {
    paths = hold_paths p (Some h') disks ∙ g.paths;
    places = places';
    holders = held_on on p is;
    rows = now_rows;
  }

  pub grown : Grows t m' (disks_after s.at nsid n.device_path n.enabled disks)
  grown = grown_with n.enabled refl n.device_path refl

-- ---- a subsystem that is made, with no namespace yet
module _ (t : Configuration) (m : Rows) (disks : List DiskRow) (s : SubsystemRow) (g : Grows t m disks)
    (new : map.get m s.nqn ≡ None) (none : s.namespaces ≡ map.empty) where
  spaces_stay : (a : List ℕ) (j : ℕ) → placed (map.insert m s.nqn s) a j ≡ placed m a j
  spaces_stay a j = ⊎_elim
      (λ (is : a ≡ s.nqn). subst (λ (p : List ℕ). placed (map.insert m s.nqn s) p j
      ≡ placed m p j) (sym is)
      (ap (placed_in j) (get-insert_at nat_list_cmp_total names_same m s.nqn s)
      ∙ (ap (placed_row s.at) (ap (λ (ns : Spaces). map.get ns j) none ∙ map.get-empty nat_cmp j)
      ∙ sym (ap (placed_in j) new))))
      (λ ne. ap (placed_in j) (get-insert_beside nat_list_cmp_total names_same m s.nqn s a ne))
      (cases_name a s.nqn)

  pub subsystem_grown : map.len m < MAX_SUBSYSTEMS → s.at ≡ lowest_free MAX_SUBSYSTEMS 0
      (λ (at : ℕ). list_any (λ (r : SubsystemRow). r.at == at) (map.values m))
      → Grows t (map.insert m s.nqn s) disks
  subsystem_grown room at_is =
      let place = place_is_free nat_list_cmp_total names_same (λ (r : SubsystemRow). r.nqn)
      (λ (r : SubsystemRow). r.at) MAX_SUBSYSTEMS m room in
      let low : s.at < MAX_SUBSYSTEMS = omega (arith, at_is, place.below) in
      record {
        paths = g.paths;
        places = places_inserted nat_list_cmp_total names_same (λ (r : SubsystemRow). r.nqn)
            (λ (r : SubsystemRow). r.at) MAX_SUBSYSTEMS m s.nqn s refl low
            (λ q x e level. stands_at_none nat_list_cmp_total names_same
            (λ (r : SubsystemRow). r.nqn) (λ (r : SubsystemRow). r.at) MAX_SUBSYSTEMS m _ place.free
            q x e (level ∙ at_is)) g.places;
        holders = λ path d h e f. let on = g.holders path d h e f in record {
          sub = on.sub;
          row = on.row;
          stands = spaces_stay on.sub h.nsid ∙ on.stands;
          same_path = on.same_path;
          on = on.on;
        };
        rows = λ sub nsid x is. g.rows sub nsid x (sym (spaces_stay sub nsid) ∙ is);
      }
