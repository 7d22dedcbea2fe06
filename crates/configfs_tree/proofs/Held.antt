-- Disks stay held exactly where a namespace that is enabled or draining has their path.
use Rattle.std.proofs.Common.{◌≡◌, ◌⊎◌, inl, inr, ℕ, ◌==◌, Bool, true, false, cond, List, [], ◌∷◌, Option, Some, None, refl, sym, ap, subst, ◌∙◌, IsTrue}
use mathlib.Core.Logic.{⊎_elim}
use Rattle.std.specs.Str.{bytes_eq}
use Rattle.std.proofs.lemmas.Slice.Eq.{bytes_eq-Decides}
use Rattle.std.proofs.lemmas.Bool.{cases_Bool, both_ways, and_parts, and_from, eq-eqb, eqb-true, cases_eq}
use Rattle.configfs_rows.specs.Holders.{disk_of, holder_of, hold, holds_path, is_holder}
use Rattle.configfs_tree.specs.Standing.{Placed, IsHeldBy, HasHolders}
use Rattle.configfs_rows.specs.declared.disks.DiskRow.{DiskRow}
use Rattle.configfs_rows.specs.declared.disks.Holder.{Holder}
use Rattle.configfs_rows.specs.declared.namespaces.NamespaceRow.{NamespaceRow}
use Rattle.configfs_rows.proofs.Gets.{some_same, none_some}

abbrev pub Look : Type 0
Look = List ℕ → ℕ → Option Placed

abbrev pub here : ℕ → NamespaceRow → Placed
here at n = record { at = at; row = n }

pub cases_name : (p q : List ℕ) → (p ≡ q) ⊎ (p ≡ q → ⊥)
cases_name p q = ⊎_elim
    (λ e. inl ((bytes_eq-Decides p q).0 e))
    (λ e. inr (λ is. both_ways (bytes_eq p q) e ((bytes_eq-Decides p q).1 is)))
    (cases_Bool (bytes_eq p q))

same_name : (p q : List ℕ) → p ≡ q → bytes_eq p q ≡ true
same_name p q e = (bytes_eq-Decides p q).1 e

other_name : (p q : List ℕ) → (p ≡ q → ⊥) → bytes_eq p q ≡ false
other_name p q ne = ⊎_elim (λ e. absurd (ne ((bytes_eq-Decides p q).0 e))) (λ e. e)
    (cases_Bool (bytes_eq p q))

-- whether (a, j) is the slot (sub, nsid)
pub data Slot (sub : List ℕ) (nsid : ℕ) (a : List ℕ) (j : ℕ) : Type 0 where
  is_slot : a ≡ sub → j ≡ nsid → Slot sub nsid a j
  no_slot : (a ≡ sub → j ≡ nsid → ⊥) → Slot sub nsid a j

pub cases_slot : (sub : List ℕ) (nsid : ℕ) (a : List ℕ) (j : ℕ) → Slot sub nsid a j
cases_slot sub nsid a j = ⊎_elim
    (λ e. ⊎_elim (λ f. is_slot e f) (λ nf. no_slot (λ _ f. nf f)) (cases_eq j nsid))
    (λ ne. no_slot (λ e _. ne e))
    (cases_name a sub)

-- ---- a holder put at a path
hold_step : (path : List ℕ) (h : Option Holder) (d : DiskRow) (disks : List DiskRow) (b : Bool)
    → bytes_eq d.path path ≡ b → hold path h (d ∷ disks) ≡ cond b (record d {
      holder =
          h;
    } ∷ disks) (d ∷ hold path h disks)
hold_step path h d disks b e = ap (λ t. cond t (record d {
  holder =
      h;
} ∷ disks) (d ∷ hold path h disks)) e

disk_step : (path : List ℕ) (d : DiskRow) (disks : List DiskRow) (b : Bool)
    → bytes_eq d.path path ≡ b → disk_of path (d ∷ disks) ≡ cond b (Some d) (disk_of path disks)
disk_step path d disks b e = ap (λ t. cond t (Some d) (disk_of path disks)) e

pub disk_of-hold_at : (path : List ℕ) (h : Option Holder) (disks : List DiskRow) (d : DiskRow)
    → disk_of path disks ≡ Some d → disk_of path (hold path h disks)
    ≡ Some (record d { holder = h })
disk_of-hold_at path h [] d e = absurd (none_some d e)
disk_of-hold_at path h (x ∷ disks) d e = ⊎_elim
    (λ hit. ap (disk_of path) (hold_step path h x disks true hit)
    ∙ (disk_step path (record x { holder = h }) disks true hit
    ∙ ap (λ (y : DiskRow). Some (record y {
      holder =
          h;
    })) (some_same x d (sym (disk_step path x disks true hit) ∙ e))))
    (λ miss. ap (disk_of path) (hold_step path h x disks false miss)
    ∙ (disk_step path x (hold path h disks) false miss
    ∙ disk_of-hold_at path h disks d (sym (disk_step path x disks false miss) ∙ e)))
    (cases_Bool (bytes_eq x.path path))

pub disk_of-hold_beside : (path : List ℕ) (h : Option Holder) (disks : List DiskRow) (q : List ℕ)
    → (q ≡ path → ⊥) → disk_of q (hold path h disks) ≡ disk_of q disks
disk_of-hold_beside path h [] q ne = refl
disk_of-hold_beside path h (x ∷ disks) q ne = ⊎_elim
    (λ (hit : bytes_eq x.path path ≡ true).
    let other : bytes_eq x.path q ≡ false = other_name x.path q (λ is. ne (sym is
    ∙ (bytes_eq-Decides x.path path).0 hit)) in
    ap (disk_of q) (hold_step path h x disks true hit) ∙ (disk_step q (record x {
      holder =
          h;
    }) disks false other ∙ sym (disk_step q x disks false other)))
    (λ (miss : bytes_eq x.path path ≡ false). ap (disk_of q) (hold_step path h x disks false miss)
    ∙ ap (cond (bytes_eq x.path q) (Some x)) (disk_of-hold_beside path h disks q ne))
    (cases_Bool (bytes_eq x.path path))

-- ---- who holds
-- a holder holds the disk of the path
pub holder_holds : (disks : List DiskRow) (path : List ℕ) (d : DiskRow) (h : Holder)
    (q : Option (List ℕ)) → disk_of path disks ≡ Some d → d.holder ≡ Some h → q ≡ Some path
    → IsTrue (holds_path disks h.sub h.nsid q)
holder_holds disks path d h q e f is =
    ap (holds_path disks h.sub h.nsid) is ∙ (ap (λ o. is_holder h.sub h.nsid (holder_of o)) e
    ∙ (ap (is_holder h.sub h.nsid) f
    ∙ and_from (h.sub == h.sub) (h.nsid == h.nsid) (eq-eqb h.sub h.sub refl)
    (eq-eqb h.nsid h.nsid refl)))

-- the holder that makes a namespace hold
pub record Holding (disks : List DiskRow) (at nsid : ℕ) (path : List ℕ) : Type 0 where
  pub d : DiskRow
  pub h : Holder
  pub found : disk_of path disks ≡ Some d
  pub held : d.holder ≡ Some h
  pub sub_is : h.sub ≡ at
  pub nsid_is : h.nsid ≡ nsid

held_by : (disks : List DiskRow) (at nsid : ℕ) (path : List ℕ) (d : DiskRow) (held : Option Holder)
    → disk_of path disks ≡ Some d → d.holder ≡ held → is_holder at nsid held ≡ true
    → Holding disks at nsid path
held_by disks at nsid path d None e f is = absurd (both_ways false refl is)
held_by disks at nsid path d (Some h) e f is =
    let parts = and_parts (h.sub == at) (h.nsid == nsid) is in
    record {
      d = d;
      h = h;
      found = e;
      held = f;
      sub_is = eqb-true h.sub at parts.0;
      nsid_is = eqb-true h.nsid nsid parts.1;
    }

found_by : (disks : List DiskRow) (at nsid : ℕ) (path : List ℕ) (found : Option DiskRow)
    → disk_of path disks ≡ found → is_holder at nsid (holder_of found) ≡ true
    → Holding disks at nsid path
found_by disks at nsid path None e is = absurd (both_ways false refl is)
found_by disks at nsid path (Some d) e is = held_by disks at nsid path d d.holder e refl is

pub holding : (disks : List DiskRow) (at nsid : ℕ) (path : List ℕ)
    → IsTrue (holds_path disks at nsid (Some path)) → Holding disks at nsid path
holding disks at nsid path is = found_by disks at nsid path (disk_of path disks) refl is

-- a namespace that holds has a path
pub record HasPath (q : Option (List ℕ)) : Type 0 where
  pub path : List ℕ
  pub is : q ≡ Some path

pub path_of_holder : (disks : List DiskRow) (at nsid : ℕ) (q : Option (List ℕ))
    → IsTrue (holds_path disks at nsid q) → HasPath q
path_of_holder disks at nsid None is = absurd (both_ways false refl is)
path_of_holder disks at nsid (Some path) is = record { path = path; is = refl }

-- ---- the same namespaces
pub moved_same : (old new : Look) (disks : List DiskRow) → ((a : List ℕ) (j : ℕ) → new a j
    ≡ old a j) → HasHolders old disks → HasHolders new disks
moved_same old new disks same h = record {
  enabled_holds = λ a j x e enabled. h.enabled_holds a j x (sym (same a j) ∙ e) enabled;
  holder_stands = λ path d k e f.
      let w = h.holder_stands path d k e f in
      record {
        sub = w.sub;
        row = w.row;
        stands = same w.sub k.nsid ∙ w.stands;
        same_path = w.same_path;
      };
}

-- ---- one slot differs
module _ (old new : Look) (disks : List DiskRow) (sub : List ℕ) (nsid : ℕ)
    (others : (a : List ℕ) (j : ℕ) → (a ≡ sub → j ≡ nsid → ⊥) → new a j ≡ old a j) where
  -- the namespace of the slot keeps its path, and isn't enabled unless it was
  pub altered_kept : (at : ℕ) (n m : NamespaceRow) → old sub nsid ≡ Some (here at n)
      → new sub nsid ≡ Some (here at m) → m.device_path ≡ n.device_path
      → (IsTrue m.enabled → IsTrue n.enabled) → HasHolders old disks → HasHolders new disks
  altered_kept at n m was is path_is was_enabled h = record {
    enabled_holds = λ a j x e enabled. elim (cases_slot sub nsid a j) [
      | is_slot ea ej ↦
          let x_is : here at m ≡ x = some_same (here at m) x (sym is
          ∙ (ap (λ (j' : ℕ). new sub j') (sym ej) ∙ (ap (λ (a' : List ℕ). new a' j) (sym ea)
          ∙ e))) in
          let held : IsTrue (holds_path disks at nsid n.device_path) =
          h.enabled_holds sub nsid (here at n) was (was_enabled
          (subst (λ (y : Placed). IsTrue y.row.enabled) (sym x_is) enabled)) in
          let held' : IsTrue (holds_path disks at nsid m.device_path) =
          subst (λ (q : Option (List ℕ)). IsTrue (holds_path disks at nsid q)) (sym path_is)
          held in
          let held'' : IsTrue (holds_path disks x.at nsid x.row.device_path) =
          subst (λ (y : Placed). IsTrue (holds_path disks y.at nsid y.row.device_path)) x_is
          held' in
          subst (λ (j' : ℕ). IsTrue (holds_path disks x.at j' x.row.device_path)) (sym ej) held''
      | no_slot ne ↦ h.enabled_holds a j x (sym (others a j ne) ∙ e) enabled
    ];
    holder_stands = λ path d k e f. kept_holder path k (h.holder_stands path d k e f);
  } where
    kept_holder : (path : List ℕ) (k : Holder) → IsHeldBy old path k → IsHeldBy new path k
    kept_holder path k w = elim (cases_slot sub nsid w.sub k.nsid) [
      | is_slot ea ej ↦
          let row_is : here at n ≡ here k.sub w.row =
          some_same (here at n) (here k.sub w.row) (sym was
          ∙ (ap (λ (j' : ℕ). old sub j') (sym ej)
          ∙ (ap (λ (a' : List ℕ). old a' k.nsid) (sym ea) ∙ w.stands))) in
          record {
            sub = sub;
            row = m;
            stands = ap (λ (j' : ℕ). new sub j') ej
                ∙ (is ∙ ap (λ (y : Placed). Some (here y.at m)) row_is);
            same_path = path_is ∙ (ap (λ (y : Placed). y.row.device_path) row_is ∙ w.same_path);
          }
      | no_slot ne ↦ record {
        sub = w.sub;
        row = w.row;
        stands = others w.sub k.nsid ne ∙ w.stands;
        same_path = w.same_path;
      }
    ]

  -- no namespace of the slot is live, before or after
  pub altered_free : ((x : Placed) → old sub nsid ≡ Some x
      → holds_path disks x.at nsid x.row.device_path ≡ false)
      → ((x : Placed) → new sub nsid ≡ Some x → x.row.enabled ≡ false) → HasHolders old disks
      → HasHolders new disks
  altered_free was_free is_off h = record {
    enabled_holds = λ a j x e enabled. elim (cases_slot sub nsid a j) [
      | is_slot ea ej ↦ absurd (both_ways x.row.enabled (is_off x
          (ap (λ (j' : ℕ). new sub j') (sym ej) ∙ (ap (λ (a' : List ℕ). new a' j) (sym ea)
          ∙ e))) enabled)
      | no_slot ne ↦ h.enabled_holds a j x (sym (others a j ne) ∙ e) enabled
    ];
    holder_stands = λ path d k e f. free_holder path d k e f (h.holder_stands path d k e f);
  } where
    free_holder : (path : List ℕ) (d : DiskRow) (k : Holder) → disk_of path disks ≡ Some d
        → d.holder ≡ Some k → IsHeldBy old path k → IsHeldBy new path k
    free_holder path d k e f w = elim (cases_slot sub nsid w.sub k.nsid) [
      | is_slot ea ej ↦
          let free : holds_path disks k.sub nsid w.row.device_path ≡ false =
          was_free (here k.sub w.row) (ap (λ (j' : ℕ). old sub j') (sym ej)
          ∙ (ap (λ (a' : List ℕ). old a' k.nsid) (sym ea) ∙ w.stands)) in
          let holds : holds_path disks k.sub nsid w.row.device_path ≡ true =
          subst (λ (j' : ℕ). IsTrue (holds_path disks k.sub j' w.row.device_path)) ej
          (holder_holds disks path d k w.row.device_path e f w.same_path) in
          absurd (both_ways (holds_path disks k.sub nsid w.row.device_path) free holds)
      | no_slot ne ↦ record {
        sub = w.sub;
        row = w.row;
        stands = others w.sub k.nsid ne ∙ w.stands;
        same_path = w.same_path;
      }
    ]

-- ---- a path that is not held before
beside_free : (disks : List DiskRow) (path : List ℕ) (h : Option Holder) (d : DiskRow)
    → disk_of path disks ≡ Some d → d.holder ≡ None → (a j : ℕ) (q : List ℕ)
    → IsTrue (holds_path disks a j (Some q)) → IsTrue (holds_path (hold path h disks) a j (Some q))
beside_free disks path h d e f a j q is = ⊎_elim
    (λ (hit : q ≡ path).
    let x = holding disks a j q is in
    let same : x.d ≡ d = some_same x.d d (sym x.found ∙ (ap (λ p. disk_of p disks) hit ∙ e)) in
    absurd (none_some x.h (sym f ∙ (ap (λ (y : DiskRow). y.holder) (sym same) ∙ x.held))))
    (λ (ne : q ≡ path → ⊥). ap (λ o. is_holder a j (holder_of o))
    (disk_of-hold_beside path h disks q ne) ∙ is)
    (cases_name q path)

pub enabled_kept : (old new : Look) (disks : List DiskRow) (sub : List ℕ) (nsid : ℕ)
    → ((a : List ℕ) (j : ℕ) → (a ≡ sub → j ≡ nsid → ⊥) → new a j ≡ old a j)
    → (at : ℕ) (n m : NamespaceRow) (path : List ℕ) (d : DiskRow) → old sub nsid ≡ Some (here at n)
    → new sub nsid ≡ Some (here at m) → n.device_path ≡ Some path → m.device_path ≡ Some path
    → disk_of path disks ≡ Some d → d.holder ≡ None → HasHolders old disks
    → HasHolders new (hold path (Some (record { sub = at; nsid = nsid })) disks)
enabled_kept old new disks sub nsid others at n m path d was is n_path m_path found free h =
    record {
      enabled_holds = λ a j x e enabled. elim (cases_slot sub nsid a j) [
        | is_slot ea ej ↦
            let x_is : here at m ≡ x = some_same (here at m) x (sym is
            ∙ (ap (λ (j' : ℕ). new sub j') (sym ej) ∙ (ap (λ (a' : List ℕ). new a' j) (sym ea)
            ∙ e))) in
            let held : IsTrue (holds_path (hold path (Some me) disks) at nsid m.device_path) =
            holder_holds (hold path (Some me) disks) path (record d {
              holder =
                  Some me;
            }) me m.device_path (disk_of-hold_at path (Some me) disks d found) refl m_path
            in
            let held' : IsTrue (holds_path (hold path (Some me) disks) x.at nsid
            x.row.device_path) =
            subst (λ (y : Placed). IsTrue (holds_path (hold path (Some me) disks) y.at nsid
            y.row.device_path)) x_is held in
            subst (λ (j' : ℕ). IsTrue (holds_path (hold path (Some me) disks) x.at j'
            x.row.device_path)) (sym ej) held'
        | no_slot ne ↦
            let held : IsTrue (holds_path disks x.at j x.row.device_path) =
            h.enabled_holds a j x (sym (others a j ne) ∙ e) enabled in
            let p = path_of_holder disks x.at j x.row.device_path held in
            ap (holds_path (hold path (Some me) disks) x.at j) p.is
            ∙ beside_free disks path (Some me) d found free x.at j p.path
            (ap (holds_path disks x.at j) (sym p.is) ∙ held)
      ];
      holder_stands = λ q x k e f. ⊎_elim
          (λ (hit : q ≡ path).
          let x_is : record d { holder = Some me } ≡ x = some_same (record d {
            holder =
                Some me;
          }) x (sym (disk_of-hold_at path (Some me) disks d found)
          ∙ (ap (λ p. disk_of p (hold path (Some me) disks)) (sym hit) ∙ e)) in
          let k_is : me ≡ k = some_same me k (ap (λ (y : DiskRow). y.holder) x_is ∙ f) in
          record {
            sub = sub;
            row = m;
            stands = subst (λ (k' : Holder). new sub k'.nsid ≡ Some (here k'.sub m)) k_is is;
            same_path = m_path ∙ ap (λ p. Some p) (sym hit);
          })
          (λ (ne : q ≡ path → ⊥). other_holder q k ne (h.holder_stands q x k
          (sym (disk_of-hold_beside path (Some me) disks q ne) ∙ e) f))
          (cases_name q path);
    } where
      me : Holder
      me = record { sub = at; nsid = nsid }

      other_holder : (q : List ℕ) (k : Holder) → (q ≡ path → ⊥) → IsHeldBy old q k
          → IsHeldBy new q k
      other_holder q k ne w = elim (cases_slot sub nsid w.sub k.nsid) [
        | is_slot ea ej ↦
            let row_is : here at n ≡ here k.sub w.row =
            some_same (here at n) (here k.sub w.row) (sym was
            ∙ (ap (λ (j' : ℕ). old sub j') (sym ej) ∙ (ap (λ (a' : List ℕ). old a' k.nsid) (sym ea)
            ∙ w.stands))) in
            absurd (ne (some_same q path (sym w.same_path
            ∙ (ap (λ (y : Placed). y.row.device_path) (sym row_is) ∙ n_path))))
        | no_slot apart ↦ record {
          sub = w.sub;
          row = w.row;
          stands = others w.sub k.nsid apart
              ∙ w.stands;
          same_path = w.same_path;
        }
      ]

-- ---- a drain ends
pub drained_kept : (look : Look) (disks : List DiskRow) (sub : List ℕ) (nsid at : ℕ)
    (n : NamespaceRow) (path : List ℕ) → look sub nsid ≡ Some (here at n)
    → n.device_path ≡ Some path → n.enabled ≡ false → IsTrue (holds_path disks at nsid (Some path))
    → ((a : List ℕ) (j : ℕ) (x : Placed) → look a j ≡ Some x → x.at ≡ at → a ≡ sub)
    → HasHolders look disks → HasHolders look (hold path None disks)
drained_kept look disks sub nsid at n path was n_path off holds apart h = record {
  enabled_holds = λ a j x e enabled.
      let held : IsTrue (holds_path disks x.at j x.row.device_path) =
      h.enabled_holds a j x e enabled in
      let p = path_of_holder disks x.at j x.row.device_path held in
      let held' : IsTrue (holds_path disks x.at j (Some p.path)) =
      ap (holds_path disks x.at j) (sym p.is) ∙ held in
      ap (holds_path (hold path None disks) x.at j) p.is ∙ ⊎_elim
      (λ (hit : p.path ≡ path). absurd (other_holds a j x e enabled
      (ap (λ q. holds_path disks x.at j (Some q)) (sym hit) ∙ held')))
      (λ (ne : p.path ≡ path → ⊥). ap (λ o. is_holder x.at j (holder_of o))
      (disk_of-hold_beside path None disks p.path ne) ∙ held')
      (cases_name p.path path);
  holder_stands = λ q x k e f. ⊎_elim
      (λ (hit : q ≡ path).
      let mine = holding disks at nsid path holds in
      let x_is : record mine.d { holder = None } ≡ x = some_same (record mine.d {
        holder =
            None;
      }) x (sym (disk_of-hold_at path None disks mine.d mine.found)
      ∙ (ap (λ p. disk_of p (hold path None disks)) (sym hit) ∙ e)) in
      absurd (none_some k (ap (λ (y : DiskRow). y.holder) x_is ∙ f)))
      (λ (ne : q ≡ path → ⊥). h.holder_stands q x k (sym (disk_of-hold_beside path None disks q ne)
      ∙ e) f)
      (cases_name q path);
} where
  other_holds : (a : List ℕ) (j : ℕ) (x : Placed) → look a j ≡ Some x → IsTrue x.row.enabled
      → IsTrue (holds_path disks x.at j (Some path)) → ⊥
  other_holds a j x e enabled held =
      let mine = holding disks at nsid path holds in
      let theirs = holding disks x.at j path held in
      let d_is : mine.d ≡ theirs.d = some_same mine.d theirs.d (sym mine.found ∙ theirs.found) in
      let h_is : mine.h ≡ theirs.h = some_same mine.h theirs.h (sym mine.held
      ∙ (ap (λ (y : DiskRow). y.holder) d_is ∙ theirs.held)) in
      let at_is : x.at ≡ at = sym theirs.sub_is ∙ (ap (λ (y : Holder). y.sub) (sym h_is)
      ∙ mine.sub_is) in
      let j_is : j ≡ nsid = sym theirs.nsid_is ∙ (ap (λ (y : Holder). y.nsid) (sym h_is)
      ∙ mine.nsid_is) in
      let a_is : a ≡ sub = apart a j x e at_is in
      let x_is : here at n ≡ x = some_same (here at n) x (sym was
      ∙ (ap (λ (j' : ℕ). look sub j') (sym j_is) ∙ (ap (λ (a' : List ℕ). look a' j) (sym a_is)
      ∙ e))) in
      both_ways x.row.enabled (ap (λ (y : Placed). y.row.enabled) (sym x_is) ∙ off) enabled
