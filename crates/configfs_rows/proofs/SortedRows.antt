-- Entries in the order of their keys: what stands at the place of a key, and what a write there,
-- an insertion or a removal makes of them.
use Rattle.std.proofs.Common.{◌≡◌, ℕ, zero, suc, ◌<◌, ◌≤◌, Bool, true, false, cond, not, ◌&&◌, T, IsTrue, List, [], ◌∷◌, map, length, get_or, set, nat_lt, option_map, Some, None, Result, Ok, Err, inl, inr, refl, sym, ap, subst, ◌∙◌, arith}
use Rattle.std.proofs.lemmas.Bool.{cases_lt}
use Rattle.std.proofs.lemmas.Bool.Decides.{nat_tests}
use Rattle.std.proofs.lemmas.Option.{slice_get-map, slice_get-get_or, slice_get_past}
use Rattle.std.specs.declared.cmp.Ordering.{Ordering}
use Rattle.std.specs.declared.cmp.Ordering.TheVariants.{Less, Equal, Greater}
use Rattle.std.specs.Ordering.{is_lt, is_eq, eq_by_cmp, ordering_index, ordering_reverse}
use Rattle.std.specs.Cmp.{IsTotalOrder, alike_right, eq_by_cmp_equiv}
use Rattle.std.specs.List.{insert, remove, slice_get}
use Rattle.std.specs.List.Sorted.{IsNonDecreasingBy}
use Rattle.std.specs.FinMap as maps
use Rattle.std.specs.FinMap.{FinMap, IsAntisymmetric, find, put, is_sorted}
use Rattle.std.specs.FinMap.Entries.{by_order, below_all, find-where_key, is_sorted-put, is_sorted-where_key}
use Rattle.configfs_rows.specs.Maps.{IsPlaceOf, others, updated, update_at}

first : (a b : Bool) → T (a && b) → T a
first true b p = tt
first false b p = p

second : (a b : Bool) → T (a && b) → T b
second true b p = p
second false b p = absurd p

both : (a b : Bool) → T a → T b → T (a && b)
both true b p q = q
both false b p q = p

less : (o : Ordering) → T (is_lt o) → o ≡ Less
less Less p = refl
less Equal p = absurd p
less Greater p = absurd p

-- a test that holds is true
holds : (b : Bool) → T b → IsTrue b
holds true h = refl
holds false h = absurd h

module _ {K : Type 0} {R : K → K → Ordering} (o : IsTotalOrder R) where
  turned : (x y : K) (r : Ordering) → R x y ≡ r → R y x ≡ ordering_reverse r
  turned x y r is = o.antisymm y x ∙ ap ordering_reverse is

  -- comparisons with a key rise along the entries
  index_rises : (k x y : K) → R x y ≡ Less → ordering_index (R x k) ≤ ordering_index (R y k)
  index_rises k x y lt = elim (R x k) as (λ r. R x k ≡ r → ordering_index r
      ≤ ordering_index (R y k)) [
        | Less ↦ λ _. omega arith
        | Equal ↦ λ e. subst (λ r. 1 ≤ ordering_index r)
            (sym (turned k y Less (sym (o.congr x k y e) ∙ lt))) (omega arith)
        | Greater ↦ λ e. subst (λ r. 2 ≤ ordering_index r)
            (sym (turned k y Less (o.trans k x y (turned x k Greater e) lt))) (omega arith)
      ] refl

module _ {K X : Type 0} {R : K → K → Ordering} (o : IsTotalOrder R) where
  -- a key that is below all keys is below the key at an index
  below_at : (x : K) (es : List (K × X)) (i : ℕ) (d : K × X) → T (below_all R x es)
      → i < length es → R x (get_or es i d).0 ≡ Less
  below_at x [] i d h lt = absurd (omega (arith, lt))
  below_at x (e ∷ es) zero d h lt = less _ (first _ _ h)
  below_at x (e ∷ es) (suc i) d h lt = below_at x es i d (second _ _ h) (omega (arith, lt))

  -- the keys rise from an index to a later one
  rise_at : (es : List (K × X)) (i j : ℕ) (d : K × X) → T (is_sorted R es) → i < j
      → j < length es → R (get_or es i d).0 (get_or es j d).0 ≡ Less
  rise_at [] i j d h lt in_range = absurd (omega (arith, in_range))
  rise_at (e ∷ es) zero zero d h lt in_range = absurd (omega (arith, lt))
  rise_at (e ∷ es) zero (suc j) d h lt in_range =
      below_at e.0 es j d (first _ _ h) (omega (arith, in_range))
  rise_at (e ∷ es) (suc i) zero d h lt in_range = absurd (omega (arith, lt))
  rise_at (e ∷ es) (suc i) (suc j) d h lt in_range =
      rise_at es i j d (second _ _ h) (omega (arith, lt)) (omega (arith, in_range))

  below_like : (x y : K) (es : List (K × X)) → R x y ≡ Equal → T (below_all R x es)
      → T (below_all R y es)
  below_like x y [] t h = tt
  below_like x y (e ∷ es) t h = both _ _ (subst (λ r. T (is_lt r)) (o.congr x y e.0 t)
      (first _ _ h)) (below_like x y es t (second _ _ h))

  module _ (k : K) where
    -- so comparisons with a key rise along the entries
    rises : (es : List (K × X)) → T (is_sorted R es)
        → IsNonDecreasingBy (λ e. ordering_index (R e.0 k)) es
    rises es h i j d le in_range = elim (cases_lt i j) [
      | inl lt ↦ index_rises o k _ _ (rise_at es i j d h lt in_range)
      | inr ge ↦ (let same : i ≡ j = omega (arith, le, ge) in
          subst (λ n. ordering_index (R (get_or es i d).0 k)
          ≤ ordering_index (R (get_or es n d).0 k)) same (omega arith))
    ]

    -- an entry before the place of a key
    passed : (e : K × X) (es : List (K × X)) (i : ℕ) (d : K × X) → T (below_all R e.0 es)
        → i < length es → R (get_or es i d).0 k ≡ Equal → R k e.0 ≡ Greater
    passed e es i d h lt at = turned o e.0 k Less (sym (alike_right o (get_or es i d).0 k e.0 at)
        ∙ below_at e.0 es i d h lt)

    found_at : (es : List (K × X)) (i : ℕ) (d : K × X) → T (is_sorted R es) → i < length es
        → R (get_or es i d).0 k ≡ Equal → find R k es ≡ Some (get_or es i d).1
    found_at [] i d h lt at = absurd (omega (arith, lt))
    found_at (e ∷ es) zero d h lt at =
        ap (λ r. cond (is_eq r) (Some e.1) (find R k es)) (turned o e.0 k Equal at)
    found_at (e ∷ es) (suc i) d h lt at =
        ap (λ r. cond (is_eq r) (Some e.1) (find R k es))
        (passed e es i d (first _ _ h) (omega (arith, lt)) at)
        ∙ found_at es i d (second _ _ h) (omega (arith, lt)) at

    put_at : (v : X) (es : List (K × X)) (i : ℕ) (d : K × X) → T (is_sorted R es)
        → i < length es → R (get_or es i d).0 k ≡ Equal
        → put R k v es ≡ set es i ((get_or es i d).0, v)
    put_at v [] i d h lt at = absurd (omega (arith, lt))
    put_at v (e ∷ es) zero d h lt at =
        ap (λ r. by_order r ((k, v) ∷ e ∷ es) ((e.0, v) ∷ es) (e ∷ put R k v es))
        (turned o e.0 k Equal at)
    put_at v (e ∷ es) (suc i) d h lt at =
        ap (λ r. by_order r ((k, v) ∷ e ∷ es) ((e.0, v) ∷ es) (e ∷ put R k v es))
        (passed e es i d (first _ _ h) (omega (arith, lt)) at)
        ∙ ap (λ l. e ∷ l) (put_at v es i d (second _ _ h) (omega (arith, lt)) at)

    others_above : (es : List (K × X)) → T (below_all R k es) → others R k es ≡ es
    others_above [] h = refl
    others_above (e ∷ es) h =
        ap (λ r. cond (not (is_eq r)) (e ∷ others R k es) (others R k es)) (less _ (first _ _ h))
        ∙ ap (λ l. e ∷ l) (others_above es (second _ _ h))

    others_at : (es : List (K × X)) (i : ℕ) → T (is_sorted R es) → i < length es
        → ((d : K × X) → R (get_or es i d).0 k ≡ Equal) → others R k es ≡ remove es i
    others_at [] i h lt at = absurd (omega (arith, lt))
    others_at (e ∷ es) zero h lt at =
        ap (λ r. cond (not (is_eq r)) (e ∷ others R k es) (others R k es)) (turned o e.0 k Equal (at e))
        ∙ others_above es (below_like e.0 k es (at e) (first _ _ h))
    others_at (e ∷ es) (suc i) h lt at =
        ap (λ r. cond (not (is_eq r)) (e ∷ others R k es) (others R k es))
        (passed e es i e (first _ _ h) (omega (arith, lt)) (at e))
        ∙ ap (λ l. e ∷ l) (others_at es i (second _ _ h) (omega (arith, lt)) at)

    -- a key has no entry, and would stand at an index
    record IsGap (es : List (K × X)) (i : ℕ) : Type 0 where
      in_range : i ≤ length es
      before : (j : ℕ) (d : K × X) → j < i → R (get_or es j d).0 k ≡ Less
      after : (j : ℕ) (d : K × X) → i ≤ j → j < length es → R (get_or es j d).0 k ≡ Greater

    after_first : (e : K × X) (es : List (K × X)) → IsGap (e ∷ es) 0 → IsGap es 0
    after_first e es g = record {
      in_range = omega arith;
      before = λ j d lt. absurd (omega (arith, lt));
      after = λ j d le lt. g.after (suc j) d (omega arith) (omega (arith, lt));
    }

    behind_first : (e : K × X) (es : List (K × X)) (i : ℕ) → IsGap (e ∷ es) (suc i) → IsGap es i
    behind_first e es i g = record {
      in_range = omega (arith, g.in_range);
      before = λ j d lt. g.before (suc j) d (omega (arith, lt));
      after = λ j d le lt. g.after (suc j) d (omega (arith, le)) (omega (arith, lt));
    }

    not_found : (es : List (K × X)) (i : ℕ) → IsGap es i → find R k es ≡ None
    not_found [] i g = refl
    not_found (e ∷ es) zero g =
        ap (λ r. cond (is_eq r) (Some e.1) (find R k es))
        (turned o e.0 k Greater (g.after 0 e (omega arith) (omega arith)))
        ∙ not_found es zero (after_first e es g)
    not_found (e ∷ es) (suc i) g =
        ap (λ r. cond (is_eq r) (Some e.1) (find R k es))
        (turned o e.0 k Less (g.before 0 e (omega arith)))
        ∙ not_found es i (behind_first e es i g)

    put_in_gap : (v : X) (es : List (K × X)) (i : ℕ) → IsGap es i
        → put R k v es ≡ insert es i (k, v)
    put_in_gap v [] zero g = refl
    put_in_gap v [] (suc i) g = absurd (omega (arith, g.in_range))
    put_in_gap v (e ∷ es) zero g =
        ap (λ r. by_order r ((k, v) ∷ e ∷ es) ((e.0, v) ∷ es) (e ∷ put R k v es))
        (turned o e.0 k Greater (g.after 0 e (omega arith) (omega arith)))
    put_in_gap v (e ∷ es) (suc i) g =
        ap (λ r. by_order r ((k, v) ∷ e ∷ es) ((e.0, v) ∷ es) (e ∷ put R k v es))
        (turned o e.0 k Less (g.before 0 e (omega arith)))
        ∙ ap (λ l. e ∷ l) (put_in_gap v es i (behind_first e es i g))

    others_gap : (es : List (K × X)) (i : ℕ) → IsGap es i → others R k es ≡ es
    others_gap [] i g = refl
    others_gap (e ∷ es) zero g =
        ap (λ r. cond (not (is_eq r)) (e ∷ others R k es) (others R k es))
        (turned o e.0 k Greater (g.after 0 e (omega arith) (omega arith)))
        ∙ ap (λ l. e ∷ l) (others_gap es zero (after_first e es g))
    others_gap (e ∷ es) (suc i) g =
        ap (λ r. cond (not (is_eq r)) (e ∷ others R k es) (others R k es))
        (turned o e.0 k Less (g.before 0 e (omega arith)))
        ∙ ap (λ l. e ∷ l) (others_gap es i (behind_first e es i g))

without : {A : Type 0} (b : Bool) (x y : A) → cond (not b) x y ≡ cond b y x
without true x y = refl
without false x y = refl

module _ {K X : Type 0} {R : K → K → Ordering} (o : IsTotalOrder R) (es : List (K × X))
    (h : IsTrue (is_sorted R es)) where
  rising : T (is_sorted R es)
  rising = subst T (sym h) tt

  -- the entries as a finite map
  abbrev pub seen : FinMap R X
  seen = maps.from_sorted es

  pub entries_seen : maps.entries seen ≡ es
  entries_seen = maps.entries-from_sorted R es rising

  gap_of : (k : K) (i : ℕ) → IsPlaceOf R k es (Err i) → IsGap o k es i
  gap_of k i p =
      let parted = p.1 (rises o k es rising) in
      record {
        in_range = p.0;
        before = λ j d lt. parted.0 j d (omega arith) lt;
        after = λ j d le lt. parted.1 j d le lt;
      }

  -- what stands at a key
  pub get_seen : (k : K) → maps.get seen k ≡ find R k es
  get_seen k = maps.get-from_sorted R es k rising

  pub row_there : (k : K) (i : ℕ) (d : K × X) → IsPlaceOf R k es (Ok i)
      → find R k es ≡ Some (get_or es i d).1
  row_there k i d p = found_at o k es i d rising p.0 (p.1 d)

  pub row_missed : (k : K) (i : ℕ) → IsPlaceOf R k es (Err i) → find R k es ≡ None
  row_missed k i p = not_found o k es i (gap_of k i p)

  -- entries with one put in
  pub put_rises : (k : K) (v : X) (new : List (K × X)) → new ≡ put R k v es
      → IsTrue (is_sorted R new)
  put_rises k v new is = ap (is_sorted R) is ∙ holds _ (is_sorted-put R o k v es rising)

  pub put_seen : (k : K) (v : X) (new : List (K × X)) → new ≡ put R k v es
      → maps.from_sorted {R = R} new ≡ maps.insert seen k v
  put_seen k v new is =
      ap (λ l. maps.from_sorted {R = R} l) is
      ∙ maps.same_entries_map _ _ (maps.entries-from_sorted R _ (is_sorted-put R o k v es rising)
      ∙ ap (put R k v) (sym entries_seen) ∙ sym (maps.entries-insert o seen k v))

  -- a write to the entry of a key, which was d
  pub write_puts : (k : K) (i : ℕ) (d : K × X) (v : X) → IsPlaceOf R k es (Ok i)
      → d ≡ get_or es i d → set es i (d.0, v) ≡ put R k v es
  write_puts k i d v p is =
      ap (λ (e : K × X). set es i (e.0, v)) is ∙ sym (put_at o k v es i d rising p.0 (p.1 d))

  pub insert_puts : (k : K) (i : ℕ) (v : X) → IsPlaceOf R k es (Err i)
      → insert es i (k, v) ≡ put R k v es
  insert_puts k i v p = sym (put_in_gap o k v es i (gap_of k i p))

  -- entries without one
  pub taken_rises : (k : K) (new : List (K × X)) → new ≡ others R k es
      → IsTrue (is_sorted R new)
  taken_rises k new is = ap (is_sorted R) is ∙ holds _ (is_sorted-where_key R _ es rising)

  pub taken_seen : IsAntisymmetric R → (k : K) (new : List (K × X)) → new ≡ others R k es
      → maps.from_sorted {R = R} new ≡ maps.remove seen k
  taken_seen same k new is = maps.same_map o same _ _ (λ q.
      maps.get-from_sorted R new q (subst T (sym (taken_rises k new is)) tt)
      ∙ ap (find R q) is
      ∙ find-where_key R _ q (λ x t. ap (λ r. not (is_eq r)) (sym (alike_right o q x k t))) es
      ∙ without (eq_by_cmp R k q) (find R q es) None
      ∙ ap (λ b. cond b None (find R q es)) ((eq_by_cmp_equiv o).symm k q)
      ∙ ap (cond (eq_by_cmp R q k) None) (sym (maps.get-from_sorted R es q rising))
      ∙ sym (maps.get-remove o seen k q))

  pub remove_takes : (k : K) (i : ℕ) → IsPlaceOf R k es (Ok i) → remove es i ≡ others R k es
  remove_takes k i p = sym (others_at o k es i rising p.0 p.1)

  pub nothing_taken : (k : K) (i : ℕ) → IsPlaceOf R k es (Err i) → es ≡ others R k es
  nothing_taken k i p = sym (others_gap o k es i (gap_of k i p))

  -- what a search in a slice of the entries gave is so of the entries
  placed : {l : List (K × X)} (k : K) (r : Result ℕ ℕ) → l ≡ es → IsPlaceOf R k l r
      → IsPlaceOf R k es r
  placed k r sliced p = subst (λ l. IsPlaceOf R k l r) sliced p

  -- a write to the row that a search found, which was that of d: the keys rise still
  pub write_rises : {l : List (K × X)} (k : K) (i : ℕ) (d : K × X) (v : X) → l ≡ es
      → IsPlaceOf R k l (Ok i) → d ≡ get_or es i d → IsTrue (is_sorted R (set es i (d.0, v)))
  write_rises k i d v sliced p is =
      put_rises k v _ (write_puts k i d v (placed k (Ok i) sliced p) is)

  -- and what it makes of the map
  pub write_seen : {l : List (K × X)} (k : K) (i : ℕ) (d : K × X) (v : X) (f : X → X) → l ≡ es
      → IsPlaceOf R k l (Ok i) → d ≡ get_or es i d → v ≡ f d.1
      → maps.from_sorted {R = R} (set es i (d.0, v)) ≡ update_at seen k f
  write_seen k i d v f sliced p is made =
      let here = placed k (Ok i) sliced p in
      put_seen k v _ (write_puts k i d v here is)
      ∙ ap (maps.insert seen k) (made ∙ ap (λ (e : K × X). f e.1) is)
      ∙ ap (updated seen k f) (sym (get_seen k ∙ row_there k i d here))

  -- where the search found nothing, nothing is written
  pub nothing_written : {l : List (K × X)} (k : K) (i : ℕ) (f : X → X) → l ≡ es
      → IsPlaceOf R k l (Err i) → seen ≡ update_at seen k f
  nothing_written k i f sliced p =
      sym (ap (updated seen k f) (get_seen k ∙ row_missed k i (placed k (Err i) sliced p)))

-- ---- the item with a number, of a list that is shown by a part of each entry
pub nth_there : {A B : Type 0} (f : A → B) (es : List A) (n : ℕ) (d : A)
    → true ≡ nat_lt n (length es) → d ≡ get_or es n d → Some (f d) ≡ slice_get (map f es) n
nth_there f es n d lt is = sym (slice_get-map f es n
    ∙ ap (option_map f) (slice_get-get_or es n d (grind (arith, nat_tests, lt)) ∙ ap Some (sym is)))

pub nth_past : {A B : Type 0} (f : A → B) (es : List A) (n : ℕ) → false ≡ nat_lt n (length es)
    → None ≡ slice_get (map f es) n
nth_past f es n le = sym (slice_get-map f es n
    ∙ ap (option_map f) (slice_get_past es n (grind (arith, nat_tests, le))))

pub nothing_seen : {K X : Type 0} {R : K → K → Ordering} (es : List (K × X)) → es ≡ []
    → maps.from_sorted {R = R} es ≡ maps.empty
nothing_seen {R = R} es is = ap (λ l. maps.from_sorted {R = R} l) is ∙ maps.empty_of_len _
    (maps.len-entries _ ∙ ap (λ l. length l) (maps.entries-from_sorted R [] tt))
