-- The rows of a text, each with its end, byte 0Ah; the last one may lack it.
use Rattle.std.proofs.Common.{◌≡◌, ◌<◌, ℕ, Bool, true, false, cond, eqb, ltb, List, [], ◌∷◌, ◌++◌, length, refl, sym, ap, subst, ◌∙◌, append_assoc, arith, inl, inr}
use Rattle.std.specs.List.{flat_map, join_with_byte, list_all, onto_first, AllByRecursion}
use Rattle.std.proofs.lemmas.Bool.{and_parts, eqb-true, ltb-true, ne_eqb}
use Rattle.std.proofs.lemmas.List.{append_cancel_right, append-nil}
use Rattle.text_lines.specs.Lines.{lines_of}
use Rattle.response_files.specs.Journals.{IsText}
use Rattle.response_files.proofs.Saying.{AllAbove}

-- these rows, each with its end
abbrev pub ended : List (List ℕ) → List ℕ
ended rows = flat_map (λ row. row ++ 10 ∷ []) rows

-- a row of some bytes, none of which ends a line
pub record IsLine (row : List ℕ) : Type 0 where
  pub some : 0 < length row
  pub above : AllAbove 10 row

-- ---- the lines of a text, joined again

joined_more : (b : ℕ) (bytes : List ℕ) (rows : List (List ℕ)) → IsText bytes (ended rows)
    → IsText (b ∷ bytes) (ended (onto_first b rows))
joined_more b [] [] (inl e) = inr refl
joined_more b (c ∷ bytes) [] (inl e) = absurd cc
joined_more b [] [] (inr e) = absurd cc
joined_more b (c ∷ bytes) [] (inr e) = absurd cc
joined_more b bytes (row ∷ rows) (inl e) = inl (ap (λ (l : List ℕ). b ∷ l) e)
joined_more b bytes (row ∷ rows) (inr e) = inr (ap (λ (l : List ℕ). b ∷ l) e)

joined_end : (bytes : List ℕ) (rows : List (List ℕ)) → IsText bytes (ended rows)
    → IsText (10 ∷ bytes) (ended ([] ∷ rows))
joined_end bytes rows (inl e) = inl (ap (λ (l : List ℕ). 10 ∷ l) e)
joined_end bytes rows (inr e) = inr (ap (λ (l : List ℕ). 10 ∷ l) e)

pub lines_joined : (bytes : List ℕ) → IsText bytes (ended (lines_of bytes))
lines_joined [] = inl refl
lines_joined (b ∷ bytes) = by_end (eqb b 10) refl (lines_joined bytes) where
  by_end : (t : Bool) → eqb b 10 ≡ t → IsText bytes (ended (lines_of bytes))
      → IsText (b ∷ bytes) (ended (cond t ([] ∷ lines_of bytes)
      (onto_first b (lines_of bytes))))
  by_end true e rest =
      let is : b ≡ 10 = eqb-true b 10 e in
      subst (λ (x : ℕ). IsText (x ∷ bytes) (ended ([] ∷ lines_of bytes))) (sym is)
      (joined_end bytes (lines_of bytes) rest)
  by_end false e rest = joined_more b bytes (lines_of bytes) rest

-- ---- rows cut again

no_end : (b : ℕ) → ltb 10 b ≡ true → eqb b 10 ≡ false
no_end b e = let over : 10 < b = ltb-true 10 b e in ne_eqb b 10 (λ is. absurd (omega (arith, is)))

line_ended : (row more : List ℕ) → AllAbove 10 row
    → lines_of (row ++ (10 ∷ more)) ≡ row ∷ lines_of more
line_ended [] more s = refl
line_ended (b ∷ row) more s =
    let p = and_parts (ltb 10 b) (list_all (λ b. ltb 10 b) row) s in
    rw (no_end b p.0, line_ended row more p.1) refl

line_open : (b : ℕ) (row : List ℕ) → AllAbove 10 (b ∷ row)
    → lines_of (b ∷ row) ≡ (b ∷ row) ∷ []
line_open b [] s =
    let p = and_parts (ltb 10 b) true s in rw (no_end b p.0) refl
line_open b (c ∷ row) s =
    let p = and_parts (ltb 10 b) (list_all (λ b. ltb 10 b) (c ∷ row)) s in
    rw (no_end b p.0) (ap (onto_first b) (line_open c row p.1))

only_line : (row : List ℕ) → IsLine row → lines_of row ≡ row ∷ []
only_line [] is = absurd (omega (arith, is.some))
only_line (b ∷ row) is = line_open b row is.above

cut_ended : (rows : List (List ℕ)) → AllByRecursion IsLine rows → lines_of (ended rows) ≡ rows
cut_ended [] all = refl
cut_ended (row ∷ rows) all =
    ap lines_of (append_assoc row (10 ∷ []) (ended rows))
    ∙ line_ended row (ended rows) all.0.above
    ∙ ap (λ (ls : List (List ℕ)). row ∷ ls) (cut_ended rows all.1)

cut_joined : (row : List ℕ) (rows : List (List ℕ)) → IsLine row → AllByRecursion IsLine rows
    → lines_of (join_with_byte 10 (row ∷ rows)) ≡ row ∷ rows
cut_joined row [] is all = only_line row is
cut_joined row (next ∷ rows) is all =
    line_ended row (join_with_byte 10 (next ∷ rows)) is.above
    ∙ ap (λ (ls : List (List ℕ)). row ∷ ls) (cut_joined next rows all.0 all.1)

ended_joined : (row : List ℕ) (rows : List (List ℕ))
    → ended (row ∷ rows) ≡ join_with_byte 10 (row ∷ rows) ++ 10 ∷ []
ended_joined row [] = append-nil (row ++ 10 ∷ [])
ended_joined row (next ∷ rows) =
    append_assoc row (10 ∷ []) (ended (next ∷ rows))
    ∙ ap (λ (l : List ℕ). row ++ (10 ∷ l)) (ended_joined next rows)
    ∙ sym (append_assoc row (10 ∷ join_with_byte 10 (next ∷ rows)) (10 ∷ []))

not_empty : (bytes : List ℕ) → bytes ++ 10 ∷ [] ≡ [] → ⊥
not_empty [] e = cc
not_empty (b ∷ bytes) e = cc

-- the lines of a text are its rows
pub rows_cut : (bytes : List ℕ) (rows : List (List ℕ)) → AllByRecursion IsLine rows
    → IsText bytes (ended rows) → lines_of bytes ≡ rows
rows_cut bytes rows all (inl e) = ap lines_of e ∙ cut_ended rows all
rows_cut bytes [] all (inr e) = absurd (not_empty bytes e)
rows_cut bytes (row ∷ rows) all (inr e) =
    let same : bytes ≡ join_with_byte 10 (row ∷ rows) =
    append_cancel_right bytes (join_with_byte 10 (row ∷ rows)) (10 ∷ [])
    (e ∙ ended_joined row rows) in
    ap lines_of same ∙ cut_joined row rows all.0 all.1
