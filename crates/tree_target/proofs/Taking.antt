-- A command is taken out by its place.
use Rattle.std.proofs.Common.{◌≡◌, ℕ, suc, ◌+◌, ◌<◌, ◌≤◌, not, nat_lt, Bool, true, false, cond, List, [], ◌∷◌, ◌++◌, length, take, get_or, Some, None, refl, sym, ap, subst, ◌∙◌, slice_get, arith, append-nil, take_all, is_some, ◌||◌}
use Rattle.std.specs.List.{find, position, position_or_len, remove, list_any}
use Rattle.std.proofs.Math.ListN.{drop_of_length-le}
use Rattle.std.proofs.lemmas.Bool.{ltb-true, ltb-false}
use Rattle.std.proofs.lemmas.List.Folds.{find_at}
use Rattle.std.proofs.lemmas.Option.{slice_get_past, slice_get-get_or}
use Rattle.configfs_rows.proofs.Gets.{some_same, none_some}
use Rattle.tree_target.specs.declared.calls.Command.{Command}
use Rattle.tree_target.specs.Steps.{without}

module _ (p : Command → Bool) where
  without_on : (h : Command) (held : List Command) (b : Bool) → p h ≡ b
      → without p held ≡ remove held (position_or_len p held) → cond b held (h ∷ without p held) ≡
      remove (h ∷ held) (cond (not b) (1 + position_or_len p held) 0)
  without_on h held true e is = refl
  without_on h held false e is =
      ap (λ (xs : List Command). h ∷ xs) is
      ∙ ap (λ (n : ℕ). remove (h ∷ held) n) (next (position_or_len p held)) where
        next : (n : ℕ) → suc n ≡ 1 + n
        next n = omega arith

  pub without_is : (held : List Command) → without p held ≡ remove held (position_or_len p held)
  without_is [] = refl
  without_is (h ∷ held) = without_on h held (p h) refl (without_is held)

  record IsPosition (held : List Command) (i : ℕ) : Type 0 where
    pub is : position_or_len p held ≡ i
    pub within : i < length held

  position_on : (held : List Command) (i : ℕ) (b : Bool)
      → nat_lt (position_or_len p held) (length held) ≡ b → cond b (Some (position_or_len p held))
      None ≡ Some i → IsPosition held i
  position_on held i true e is =
      let same : position_or_len p held ≡ i = some_same (position_or_len p held) i is in
      record {
        is = same;
        within = subst (λ (n : ℕ). n < length held) same (ltb-true
            (position_or_len p held) (length held) e);
      }
  position_on held i false e is = absurd (none_some i is)

  position_is : (held : List Command) (i : ℕ) → position p held ≡ Some i → IsPosition held i
  position_is held i e = position_on held i (nat_lt (position_or_len p held) (length held)) refl e

  past_on : (held : List Command) (b : Bool) → nat_lt (position_or_len p held) (length held) ≡ b
      → cond b (Some (position_or_len p held)) None ≡ None → length held ≤ position_or_len p held
  past_on held true e is = absurd (none_some (position_or_len p held) (sym is))
  past_on held false e is = ltb-false (position_or_len p held) (length held) e

  -- nothing is taken
  pub none_found : (held : List Command) → position p held ≡ None → find p held ≡ None
  none_found held e = find_at p held ∙ slice_get_past held (position_or_len p held) (past_on held
      (nat_lt (position_or_len p held) (length held)) refl e)

  pub none_taken : (held : List Command) → position p held ≡ None → held ≡ without p held
  none_taken held e =
      let past : length held ≤ position_or_len p held = past_on held (nat_lt (position_or_len p
      held) (length held)) refl e in
      let later : length held ≤ suc (position_or_len p held) = omega arith in
      sym (append-nil held)
      ∙ ap (λ (xs : List Command). xs ++ []) (sym (take_all (position_or_len p held) held past))
      ∙ ap (λ (xs : List Command). take (position_or_len p held) held ++ xs) (sym
      (drop_of_length-le held later))
      ∙ sym (without_is held)

  -- the one that is found is taken
  pub one_within : (held : List Command) (i : ℕ) → position p held ≡ Some i → i < length held
  one_within held i e = (position_is held i e).within

  pub one_found : (held : List Command) (i : ℕ) (h : Command) → position p held ≡ Some i
      → h ≡ get_or held i h → Some h ≡ find p held
  one_found held i h e is =
      let w = position_is held i e in
      ap (λ (x : Command). Some x) is ∙ (sym (slice_get-get_or held i h w.within)
      ∙ (ap (slice_get held) (sym w.is) ∙ sym (find_at p held)))

  pub read_found : (held : List Command) (i : ℕ) (d : Command) → position p held ≡ Some i
      → Some (get_or held i d) ≡ find p held
  read_found held i d e =
      let w = position_is held i e in
      sym (slice_get-get_or held i d w.within)
      ∙ (ap (slice_get held) (sym w.is) ∙ sym (find_at p held))

  pub one_taken : (held : List Command) (i : ℕ) → position p held ≡ Some i
      → remove held i ≡ without p held
  one_taken held i e = ap (λ (n : ℕ). remove held n) (sym (position_is held i e).is)
      ∙ sym (without_is held)

any_on : (p : Command → Bool) (h : Command) (held : List Command) (b : Bool)
    → is_some (find p held) ≡ list_any p held → is_some (cond b (Some h) (find p held)) ≡ (b ||
    list_any p held)
any_on p h held true is = refl
any_on p h held false is = is

pub found_any : (p : Command → Bool) (held : List Command) → is_some (find p held) ≡ list_any p held
found_any p [] = refl
found_any p (h ∷ held) = any_on p h held (p h) (found_any p held)
