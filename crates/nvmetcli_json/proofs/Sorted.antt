-- Entries of a map in the order of their keys: one that goes last, one that is found, and all of
-- them.
use Rattle.std.proofs.Common.{◌≡◌, Bool, true, false, ◌&&◌, T, List, [], ◌∷◌, ◌++◌, Some, None, Ordering, Less, Equal, Greater, refl, sym, ap, ◌∙◌, subst, append_assoc}
use Rattle.std.proofs.lemmas.List.Folds.{list_all-map}
use Rattle.std.specs.Cmp.{IsTotalOrder, tied_itself}
use Rattle.std.specs.List.{list_all}
use Rattle.std.specs.Option.{is_some}
use Rattle.std.specs.Ordering.{is_lt, ordering_reverse}
use Rattle.std.specs.FinMap as maps
use Rattle.std.specs.FinMap.{FinMap, find, put, is_sorted}
use Rattle.std.specs.FinMap.Entries.{below_all}

both : (a b : Bool) → T a → T b → T (a && b)
both true b p q = q
both false b p q = p

first : (a b : Bool) → T (a && b) → T a
first true b p = tt
first false b p = p

second : (a b : Bool) → T (a && b) → T b
second true b p = p
second false b p = absurd p

less : (o : Ordering) → T (is_lt o) → o ≡ Less
less Less p = refl
less Equal p = absurd p
less Greater p = absurd p

module _ {K X : Type 0} {R : K → K → Ordering} (o : IsTotalOrder R) where
  below_middle : (x : K) (done : List (K × X)) (e : K × X) (more : List (K × X))
      → T (below_all R x (done ++ e ∷ more)) → R x e.0 ≡ Less
  below_middle x [] e more h = less (R x e.0) (first (is_lt (R x e.0)) (below_all R x more) h)
  below_middle x (f ∷ done) e more h = below_middle x done e more (second (is_lt (R x f.0))
      (below_all R x (done ++ e ∷ more)) h)

  pub tail_sorted : (f : K × X) (es : List (K × X)) → T (is_sorted R (f ∷ es)) → T (is_sorted R es)
  tail_sorted f es h = second (below_all R f.0 es) (is_sorted R es) h

  pub above : (f : K × X) (done : List (K × X)) (e : K × X) (more : List (K × X))
      → T (is_sorted R (f ∷ (done ++ e ∷ more))) → R e.0 f.0 ≡ Greater
  above f done e more h = o.antisymm e.0 f.0 ∙ ap ordering_reverse (below_middle f.0 done e more
      (first (below_all R f.0 (done ++ e ∷ more)) (is_sorted R (done ++ e ∷ more)) h))

  -- an entry whose key is above those before it goes last, and nothing stands at its key
  pub put_last : (done : List (K × X)) (e : K × X) (more : List (K × X)) → T (is_sorted R (done ++ e
      ∷ more)) → put R e.0 e.1 done ≡ done ++ e ∷ []
  put_last [] e more h = refl
  put_last (f ∷ done) e more h = rw (above f done e more h) (ap (λ es. f
      ∷ es) (put_last done e more (tail_sorted f (done ++ e ∷ more) h)))

  pub find_none : (done : List (K × X)) (e : K × X) (more : List (K × X)) → T (is_sorted R (done
      ++ e ∷ more)) → find R e.0 done ≡ None
  find_none [] e more h = refl
  find_none (f ∷ done) e more h = rw (above f done e more h) (find_none done e more (tail_sorted f
      (done ++ e ∷ more) h))

  -- an entry is found by its key
  pub find_here : (done : List (K × X)) (e : K × X) (more : List (K × X)) → T (is_sorted R (done
      ++ e ∷ more)) → find R e.0 (done ++ e ∷ more) ≡ Some e.1
  find_here [] e more h = rw (tied_itself o e.0) refl
  find_here (f ∷ done) e more h = rw (above f done e more h) (find_here done e more (tail_sorted f
      (done ++ e ∷ more) h))

  all_from : (p : K × X → Bool) (m : FinMap R X) → ((k : K) (x : X) → maps.get m k ≡ Some x
      → p (k, x) ≡ true)
      → (done es : List (K × X)) → maps.entries m ≡ done ++ es → list_all p es ≡ true
  all_from p m each done [] is = refl
  all_from p m each done (e ∷ es) is =
      let sorted : T (is_sorted R (done ++ e ∷ es)) = subst (λ xs. T (is_sorted R xs)) is
      (maps.entries_sorted m) in
      let found : maps.get m e.0 ≡ Some e.1 = maps.get-entries m e.0 ∙ ap (find R e.0) is
      ∙ find_here done e es sorted in
      rw (each e.0 e.1 found) (all_from p m each (done ++ e ∷ []) es (is ∙ sym (append_assoc done (e
      ∷ []) es)))

  -- what each row passes with its key, all entries pass
  pub all_entries : (p : K × X → Bool) (m : FinMap R X) → ((k : K) (x : X) → maps.get m k ≡ Some x
      → p (k, x) ≡ true)
      → list_all p (maps.entries m) ≡ true
  all_entries p m each = all_from p m each [] (maps.entries m) refl

  pub all_values : (p : X → Bool) (m : FinMap R X) → ((k : K) (x : X) → maps.get m k ≡ Some x
      → p x ≡ true)
      → list_all p (maps.values m) ≡ true
  all_values p m each = list_all-map p (λ (e : K × X). e.1) (maps.entries m)
      ∙ all_entries (λ e. p e.1) m each

  pub all_keys : (p : K → Bool) (m : FinMap R X) → ((k : K) → maps.contains_key m k ≡ true
      → p k ≡ true)
      → list_all p (maps.keys m) ≡ true
  all_keys p m each = list_all-map p (λ (e : K × X). e.0) (maps.entries m)
      ∙ all_entries (λ e. p e.0) m (λ k x is. each k (ap is_some is))
