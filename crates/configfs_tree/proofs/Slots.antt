-- What an edit does to the namespaces of a tree, and to the ports that it doesn't make.
use Rattle.std.proofs.Common.{◌≡◌, ◌⊎◌, inl, inr, ℕ, List, Option, Some, None, sym, ap, subst, ◌∙◌}
use mathlib.Core.Logic.{⊎_elim}
use Rattle.std.specs.Cmp.{nat_cmp_total}
use Rattle.std.specs.Cmp.Lexicographic.{nat_list_cmp_total}
use Rattle.std.specs.Ordering.{nat_cmp}
use Rattle.std.specs.FinMap as map
use Rattle.std.specs.FinMap.{FinMap, nat_cmp-IsAntisymmetric}
use Rattle.configfs_rows.specs.Maps.{update_at}
use Rattle.configfs_rows.specs.Rows.{put_in, fresh_namespace}
use Rattle.configfs_rows.specs.Subsystems.{put_namespace, add_namespace, remove_namespace}
use Rattle.configfs_tree.specs.Standing.{Placed, placed_row, placed}
use Rattle.configfs_tree.specs.Told.{subsystem_front}
use Rattle.configfs_rows.specs.declared.namespaces.NamespaceRow.{NamespaceRow}
use Rattle.configfs_rows.specs.declared.namespaces.NamespacePut.{NamespacePut}
use Rattle.configfs_rows.specs.declared.subsystems.SubsystemRow.{SubsystemRow}
use Rattle.configfs_rows.specs.declared.ports.PortRow.{PortRow}
use Rattle.configfs_rows.proofs.Gets.{some_same, none_some, cases_key, get-insert_at, get-insert_beside, get-remove_at, get-remove_beside, get-update_at, get-update_beside, was_at}
use Rattle.configfs_tree.proofs.Held.{here, Slot, is_slot, no_slot, cases_slot, cases_name}
use Rattle.configfs_tree.proofs.Kept.{Rows, Spaces, names_same, with_spaces, placed_others, placed_here, placed_was}

abbrev pub Ports : Type 0
Ports = FinMap nat_cmp PortRow

-- ---- one namespace changes
pub record OneSlot (m w : Rows) (sub : List ℕ) (nsid : ℕ) (o v : Option Placed) : Type 0 where
  pub before : placed m sub nsid ≡ o
  pub after : placed w sub nsid ≡ v
  pub others : (a : List ℕ) (j : ℕ) → (a ≡ sub → j ≡ nsid → ⊥) → placed w a j ≡ placed m a j
  pub fronts : (a : List ℕ) → subsystem_front (map.get w a) ≡ subsystem_front (map.get m a)

front_same : (m : Rows) (sub : List ℕ) (g : Spaces → Spaces) (s : SubsystemRow)
    → map.get m sub ≡ Some s → (a : List ℕ)
    → subsystem_front (map.get (update_at m sub (with_spaces g)) a) ≡ subsystem_front (map.get m a)
front_same m sub g s e a = ⊎_elim
    (λ (is : a ≡ sub). subst (λ (p : List ℕ). subsystem_front
    (map.get (update_at m sub (with_spaces g)) p) ≡ subsystem_front (map.get m p)) (sym is)
    (ap subsystem_front (get-update_at nat_list_cmp_total names_same m sub (with_spaces g) s e)
    ∙ ap subsystem_front (sym e)))
    (λ ne. ap subsystem_front (get-update_beside nat_list_cmp_total names_same m sub (with_spaces g)
    a ne))
    (cases_name a sub)

pub slot_put : (m : Rows) (sub : List ℕ) (nsid : ℕ) (put : NamespacePut) (s : SubsystemRow)
    (n : NamespaceRow) → map.get m sub ≡ Some s → map.get s.namespaces nsid ≡ Some n
    → OneSlot m (update_at m sub (put_namespace nsid put)) sub nsid (Some (here s.at n))
    (Some (here s.at (put_in put n)))
slot_put m sub nsid put s n e f =
    let g = λ (ns : Spaces). update_at ns nsid (put_in put) in
    record {
      before = placed_was m sub nsid s (Some n) e f;
      after = placed_here m sub nsid g s e ∙ ap (placed_row s.at)
          (get-update_at nat_cmp_total nat_cmp-IsAntisymmetric s.namespaces nsid (put_in put) n f);
      others = placed_others m sub nsid g (λ ns j ne. get-update_beside nat_cmp_total
          nat_cmp-IsAntisymmetric ns nsid (put_in put) j ne);
      fronts = front_same m sub g s e;
    }

pub slot_made : (m : Rows) (sub : List ℕ) (nsid : ℕ) (s : SubsystemRow) → map.get m sub ≡ Some s
    → map.get s.namespaces nsid ≡ None → OneSlot m (update_at m sub (add_namespace nsid)) sub nsid
    None (Some (here s.at fresh_namespace))
slot_made m sub nsid s e f =
    let g = λ (ns : Spaces). map.insert ns nsid fresh_namespace in
    record {
      before = placed_was m sub nsid s None e f;
      after = placed_here m sub nsid g s e ∙ ap (placed_row s.at)
          (get-insert_at nat_cmp_total nat_cmp-IsAntisymmetric s.namespaces nsid fresh_namespace);
      others = placed_others m sub nsid g (λ ns j ne. get-insert_beside nat_cmp_total
          nat_cmp-IsAntisymmetric ns nsid fresh_namespace j ne);
      fronts = front_same m sub g s e;
    }

pub slot_gone : (m : Rows) (sub : List ℕ) (nsid : ℕ) (s : SubsystemRow) (n : NamespaceRow)
    → map.get m sub ≡ Some s → map.get s.namespaces nsid ≡ Some n
    → OneSlot m (update_at m sub (remove_namespace nsid)) sub nsid (Some (here s.at n)) None
slot_gone m sub nsid s n e f =
    let g = λ (ns : Spaces). map.remove ns nsid in
    record {
      before = placed_was m sub nsid s (Some n) e f;
      after = placed_here m sub nsid g s e ∙ ap (placed_row s.at)
          (get-remove_at nat_cmp_total nat_cmp-IsAntisymmetric s.namespaces nsid);
      others = placed_others m sub nsid g (λ ns j ne. get-remove_beside nat_cmp_total
          nat_cmp-IsAntisymmetric ns nsid j ne);
      fronts = front_same m sub g s e;
    }

module _ (m w : Rows) (sub : List ℕ) (nsid : ℕ) (o v : Option Placed)
    (one : OneSlot m w sub nsid o v) where
  -- what is as before at the slot is as before everywhere
  slot_elsewhere : {X : Type 0} (look : Option Placed → X) → look v ≡ look o → (a : List ℕ) (j : ℕ)
      → Slot sub nsid a j → look (placed w a j) ≡ look (placed m a j)
  slot_elsewhere look same a j (no_slot ne) = ap look (one.others a j ne)
  slot_elsewhere look same a j (is_slot e f) =
      subst (λ (b : List ℕ). look (placed w b j) ≡ look (placed m b j)) (sym e)
      (subst (λ (i : ℕ). look (placed w sub i) ≡ look (placed m sub i)) (sym f)
      (ap look one.after ∙ (same ∙ ap look (sym one.before))))

  pub slot_look : {X : Type 0} (look : Option Placed → X) → look v ≡ look o → (a : List ℕ) (j : ℕ)
      → look (placed w a j) ≡ look (placed m a j)
  slot_look look same a j = slot_elsewhere look same a j (cases_slot sub nsid a j)

  slot_rows : (a : List ℕ) (j : ℕ) → Slot sub nsid a j → (G : Placed → Placed → Type 0)
      → ((x : Placed) → G x x) → ((x y : Placed) → o ≡ Some x → v ≡ Some y → G x y) → (x y : Placed)
      → placed m a j ≡ Some x → placed w a j ≡ Some y → G x y
  slot_rows a j (no_slot ne) G same at x y e f = subst (λ (z : Placed). G x z) (some_same x y (sym e
      ∙ (sym (one.others a j ne) ∙ f))) (same x)
  slot_rows a j (is_slot p q) G same at x y e f = at x y
      (sym one.before ∙ (ap (λ (i : ℕ). placed m sub i) (sym q)
      ∙ (ap (λ (b : List ℕ). placed m b j) (sym p) ∙ e)))
      (sym one.after ∙ (ap (λ (i : ℕ). placed w sub i) (sym q)
      ∙ (ap (λ (b : List ℕ). placed w b j) (sym p) ∙ f)))

  -- what holds of the slot's rows, and of a row with itself, holds of each namespace that stays
  pub slot_both : (G : Placed → Placed → Type 0) → ((x : Placed) → G x x)
      → ((x y : Placed) → o ≡ Some x → v ≡ Some y → G x y) → (a : List ℕ) (j : ℕ) (x y : Placed)
      → placed m a j ≡ Some x → placed w a j ≡ Some y → G x y
  slot_both G same at a j = slot_rows a j (cases_slot sub nsid a j) G same at

-- ---- ports that stay keep their ANA groups
pub same_ports : (m : Ports) (id : ℕ) (p q : PortRow) → map.get m id ≡ Some p
    → map.get m id ≡ Some q → q.groups ≡ p.groups
same_ports m id p q e f = ap (λ (r : PortRow). r.groups) (some_same q p (sym f ∙ e))

pub put_ports : (m : Ports) (k : ℕ) (f : PortRow → PortRow) → ((p : PortRow) → (f p).groups
    ≡ p.groups) → (id : ℕ) (p q : PortRow) → map.get m id ≡ Some p
    → map.get (update_at m k f) id ≡ Some q → q.groups ≡ p.groups
put_ports m k f same id p q e got =
    let w = was_at nat_cmp_total nat_cmp-IsAntisymmetric m k f id q got in
    let is : w.x ≡ p = some_same w.x p (sym w.found ∙ e) in
    ⊎_elim
    (λ z. ap (λ (r : PortRow). r.groups) z.1 ∙ (same w.x ∙ ap (λ (r : PortRow). r.groups) is))
    (λ z. ap (λ (r : PortRow). r.groups) (z ∙ is))
    w.how

pub made_ports : (m : Ports) (k : ℕ) (v : PortRow) → map.get m k ≡ None → (id : ℕ) (p q : PortRow)
    → map.get m id ≡ Some p → map.get (map.insert m k v) id ≡ Some q → q.groups ≡ p.groups
made_ports m k v none id p q e f = ⊎_elim
    (λ (is : id ≡ k). absurd (none_some p (sym none ∙ (ap (λ (i : ℕ). map.get m i) (sym is) ∙ e))))
    (λ ne. same_ports m id p q e (sym (get-insert_beside nat_cmp_total nat_cmp-IsAntisymmetric m k v
    id ne) ∙ f))
    (cases_key nat_cmp_total nat_cmp-IsAntisymmetric id k)

pub gone_ports : (m : Ports) (k id : ℕ) (p q : PortRow) → map.get m id ≡ Some p
    → map.get (map.remove m k) id ≡ Some q → q.groups ≡ p.groups
gone_ports m k id p q e f = ⊎_elim
    (λ (is : id ≡ k). absurd (none_some q (sym (get-remove_at nat_cmp_total nat_cmp-IsAntisymmetric
    m k) ∙ (ap (λ (i : ℕ). map.get (map.remove m k) i) (sym is) ∙ f))))
    (λ ne. same_ports m id p q e (sym (get-remove_beside nat_cmp_total nat_cmp-IsAntisymmetric m k
    id ne) ∙ f))
    (cases_key nat_cmp_total nat_cmp-IsAntisymmetric id k)

-- all but the one that an edit is of
pub other_ports : (m : Ports) (k : ℕ) (f : PortRow → PortRow) (r : PortRow) → map.get m k ≡ Some r
    → (id : ℕ) (p q : PortRow) → map.get m id ≡ Some p → map.get (update_at m k f) id ≡ Some q
    → (q.groups ≡ p.groups) ⊎ (Some r.at ≡ Some p.at)
other_ports m k f r e id p q got found = ⊎_elim
    (λ (is : id ≡ k). inr (ap (λ (x : PortRow). Some x.at) (some_same r p (sym e
    ∙ (ap (λ (i : ℕ). map.get m i) (sym is) ∙ got)))))
    (λ ne. inl (same_ports m id p q got (sym (get-update_beside nat_cmp_total
    nat_cmp-IsAntisymmetric m k f id ne) ∙ found)))
    (cases_key nat_cmp_total nat_cmp-IsAntisymmetric id k)
