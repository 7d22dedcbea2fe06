-- A std map seen as a finite map: what a look-up, an insert and a removal make of it.
use Rattle.std.proofs.Common.{◌≡◌, cond, List, [], ◌∷◌, Some, None, length, arith, refl, sym, ap, ◌∙◌}
use Rattle.std.specs.Ordering.{eq_by_cmp}
use Rattle.std.specs.List.Sorted.{IsStrictlySortedBy}
use Rattle.std.proofs.lemmas.Map.Keys.{sorted_head, sorted_tail}
use Rattle.std.specs.declared.cmp.Ordering.{Ordering}
use Rattle.std.specs.Cmp.{IsTotalOrder, eq_by_cmp_equiv}
use Rattle.std.specs.BTreeMap as tree
use Rattle.std.specs.BTreeMap.{BTreeMap, is_at}
use Rattle.std.specs.Map.{lookup, keys_of}
use Rattle.std.specs.FinMap as map
use Rattle.std.specs.FinMap.{FinMap, IsAntisymmetric, find, put}

find_lookup : {K X : Type 0} (R : K → K → Ordering) (q : K) (es : List (K × X))
    → find R q es ≡ lookup (is_at (R q)) es
find_lookup R q [] = refl
find_lookup R q (e ∷ es) = ap (cond (eq_by_cmp R q e.0) (Some e.1)) (find_lookup R q es)

nil_of_length : {A : Type 0} (es : List A) → length es ≡ 0 → es ≡ []
nil_of_length [] e = refl
nil_of_length (x ∷ es) e = absurd (omega arith)

no_entries : (K X : Type 0) (R : K → K → Ordering) → map.entries (map.empty {X = X} {R = R}) ≡ []
no_entries K X R = nil_of_length _ (sym (map.len-entries (map.empty {X = X} {R = R}))
    ∙ map.len-empty R X)

module _ {K X : Type 0} {R : K → K → Ordering} (o : IsTotalOrder R) where
  put_first : (e : K × X) (es : List (K × X)) → IsStrictlySortedBy R (keys_of (e ∷ es))
      → put R e.0 e.1 es ≡ e ∷ es
  put_first e [] h = refl
  put_first e (f ∷ es) h = rw (sorted_head R e.0 (keys_of (f ∷ es)) h).0 refl

  entries_seen : (es : List (K × X)) → IsStrictlySortedBy R (keys_of es)
      → map.entries (map.from_entries {R = R} es) ≡ es
  entries_seen [] h = no_entries K X R
  entries_seen (e ∷ es) h =
      map.entries-insert o (map.from_entries es) e.0 e.1
      ∙ ap (put R e.0 e.1) (entries_seen es (sorted_tail R e.0 (keys_of es) h))
      ∙ put_first e es h

  -- the entries in the keys' order
  pub seen_entries : (m : BTreeMap K X) → tree.IsOrdered R m
      → map.entries (map.from_entries {R = R} m.entries) ≡ m.entries
  seen_entries m h = entries_seen m.entries h

  pub seen_keys : (m : BTreeMap K X) → tree.IsOrdered R m → map.keys (map.from_entries {R =
      R} m.entries) ≡ tree.keys m
  seen_keys m h = ap keys_of (seen_entries m h)

  pub seen_len : (m : BTreeMap K X) → tree.IsOrdered R m → map.len (map.from_entries {R =
      R} m.entries) ≡ tree.btree_map_len m
  seen_len m h = map.len-entries _ ∙ ap (λ (es : List (K × X)). length es) (seen_entries m h)

  pub seen_get : (m : BTreeMap K X) (q : K) → map.get (map.from_entries {R = R} m.entries) q
      ≡ tree.get R m q
  seen_get m q = map.get-from_entries o m.entries q ∙ find_lookup R q m.entries

  pub seen_put : IsAntisymmetric R → (m n : BTreeMap K X) (k : K) (v : X)
      → tree.UpdatesBy R (R k) m n (Some v) → map.from_entries {R = R} n.entries
      ≡ map.insert (map.from_entries m.entries) k v
  seen_put same m n k v h = map.same_map o same _ _ (λ q.
      seen_get n q ∙ h.0 q
      ∙ ap (λ b. cond b (Some v) (tree.get R m q)) ((eq_by_cmp_equiv o).symm k q)
      ∙ ap (cond (eq_by_cmp R q k) (Some v)) (sym (seen_get m q))
      ∙ sym (map.get-insert o (map.from_entries m.entries) k v q))

  pub seen_remove : IsAntisymmetric R → (m n : BTreeMap K X) (k : K)
      → tree.UpdatesBy R (R k) m n None → map.from_entries {R = R} n.entries
      ≡ map.remove (map.from_entries m.entries) k
  seen_remove same m n k h = map.same_map o same _ _ (λ q.
      seen_get n q ∙ h.0 q
      ∙ ap (λ b. cond b None (tree.get R m q)) ((eq_by_cmp_equiv o).symm k q)
      ∙ ap (cond (eq_by_cmp R q k) None) (sym (seen_get m q))
      ∙ sym (map.get-remove o (map.from_entries m.entries) k q))
