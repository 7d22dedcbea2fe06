-- Extents that are taken out and put back, and the Execute between.
use Rattle.std.proofs.Common.{◌≡◌, inl, inr, ℕ, zero, suc, ◌-◌, ◌==◌, Bool, true, false, cond, List, [], ◌∷◌, ◌++◌, Option, None, length, get_or, set, sym, refl, ap, ◌∙◌, subst, arith, eq-eqb}
use Rattle.std.proofs.lemmas.Bool.{ltb-true}
use Rattle.std.proofs.lemmas.List.{length-set}
use Rattle.atomic_table.specs.Table.{rest}
use Rattle.ref_state.specs.declared.kinds.Tag.{Tag}
use Rattle.ref_state.specs.declared.state.Hold.{Hold}
use Rattle.ref_state.specs.Steps.{is_slot, without, Some_where}
use Rattle.table_rule.specs.declared.rule.Told.{Told}
use Rattle.table_rule.specs.Meant.{target, replay}
use Rattle.table_rule.specs.Plays.{Executed, IsInHand}
use Rattle.table_rule.proofs.Histories.{target_snoc}
use Rattle.small_target.specs.declared.Small.{Small}
use Rattle.small_target.specs.Small.{small_next, small_touches, executed, edited, added, both_to}
use Rattle.table_seats.specs.EndingMeans.{ending_means}
use Rattle.table_seats.specs.Taking.{TookOut, turn_of}
use Rattle.table_seats.proofs.Submitting.{Mine}

-- ## The blocks of the small target

edited_blocks : (t : Small) (n : ℕ) → (edited t n).blocks ≡ t.blocks
edited_blocks t zero = refl
edited_blocks t (suc n) = refl

set_two : (n : ℕ) (l : List ℕ) → length (both_to n l) ≡ length l
set_two n l = length-set (set l 0 n) 1 n ∙ length-set l 0 n

next_long : (t : Small) (tag : Tag) → length (small_next t tag).blocks ≡ length t.blocks
next_long t tag = by_kind (tag.kind == 2) (tag.kind == 6) (tag.kind == 7)
  where
    by_kind : (a b c : Bool) → length (cond a (executed t tag) (cond b (edited t tag.number) (cond c (record t { draining = 0 }) (added t tag)))).blocks ≡ length t.blocks
    by_kind true b c = set_two tag.number t.blocks
    by_kind false true c = ap length (edited_blocks t tag.number)
    by_kind false false true = refl
    by_kind false false false = refl

always_two : (t : Small) (log : List Tag) → length t.blocks ≡ 2 → length (replay ending_means t log).blocks ≡ 2
always_two t [] e = e
always_two t (tag ∷ tags) e = always_two (small_next t tag) tags (next_long t tag ∙ e)

both_set : (n : ℕ) (l : List ℕ) → length l ≡ 2 → (get_or (both_to n l) 0 0 ≡ n) × (get_or (both_to n l) 1 0 ≡ n)
both_set n [] e = absurd (omega arith)
both_set n (x ∷ []) e = absurd (omega arith)
both_set n (x ∷ (y ∷ zs)) e = (refl, refl)

-- both extents hold the number of the command after its Execute
pub wrote : (log : List Tag) (tag : Tag) → tag.kind ≡ 2
    → (tag.number ≡ get_or (target ending_means (log ++ tag ∷ [])).blocks 0 0) × (tag.number ≡ get_or (target ending_means (log ++ tag ∷ [])).blocks 1 0)
wrote log tag two = let t = target ending_means log in
    let is : target ending_means (log ++ tag ∷ []) ≡ executed t tag = target_snoc ending_means log tag ∙ ap (λ b. cond b (executed t tag) (cond (tag.kind == 6) (edited t tag.number) (cond (tag.kind == 7) (record t { draining = 0 }) (added t tag)))) (eq-eqb tag.kind 2 two) in
    let set_is = both_set tag.number t.blocks (always_two ending_means.start log refl) in (
      sym (ap (λ (z : Small). get_or z.blocks 0 0) is ∙ set_is.0),
      sym (ap (λ (z : Small). get_or z.blocks 1 0) is ∙ set_is.1),
    )

-- ## The two extents in hand

abbrev twice_out : List (ℕ × Option ℕ)
twice_out = (1, None) ∷ ((0, None) ∷ [])

in_hand : (c : Tag) (d n : ℕ) → small_touches c d n ≡ true → Some_where (is_slot n) (turn_of 1 ∷ (turn_of 0 ∷ [])) × IsInHand n twice_out
in_hand c d zero on = ((turn_of 0, refl), inr (inl refl))
in_hand c d (suc zero) on = ((turn_of 1, refl), inl refl)
in_hand c d (suc (suc n)) on = absurd (let less = ltb-true (suc (suc n)) 2 on in omega arith)

module _ (a b c : Mine) (zeroth : TookOut 0 a b) (first : TookOut 1 b c) (free : (a.0.view.turns ≡ []) × (a.1 ≡ [])) where
  pub turns_two : c.0.view.turns ≡ turn_of 1 ∷ (turn_of 0 ∷ [])
  turns_two = ap (λ (z : Told). z.view.turns) first.told ∙ ap (λ l. turn_of 1 ∷ l) (ap (λ (z : Told). z.view.turns) zeroth.told ∙ ap (λ l. turn_of 0 ∷ l) free.0)

  pub hand_two : c.1 ≡ (1, None) ∷ ((0, None) ∷ [])
  hand_two = first.holds ∙ ap (λ l. (1, None) ∷ l) (zeroth.holds ∙ ap (λ l. (0, None) ∷ l) free.1)

  pub all_in_hand : (t : Tag) (d n : ℕ) → small_touches t d n ≡ true → Some_where (is_slot n) c.0.view.turns × IsInHand n c.1
  all_in_hand t d n on = let x = in_hand t d n on in (subst (Some_where (is_slot n)) (sym turns_two) x.0, subst (IsInHand n) (sym hand_two) x.1)

-- ## What stays through an Execute

abbrev pub put_one : ℕ → Mine → Mine
put_one n z = (record z.0 { view = record z.0.view { turns = without (is_slot n) z.0.view.turns } }, rest z.1)

module _ (tag : Tag) (h : Hold) (place serial : ℕ) (a b c d e f : Mine) (zeroth : TookOut 0 a b) (first : TookOut 1 b c) (x : Executed ending_means tag h c.0 d.0 place serial) (one : e ≡ put_one 1 d) (two : f ≡ put_one 0 e) where
  pub section_stays : f.0.view.section ≡ a.0.view.section
  section_stays = ap (λ (z : Mine). z.0.view.section) two ∙ (ap (λ (z : Mine). z.0.view.section) one ∙ (ap (λ (z : Told). z.view.section) x.told ∙ (ap (λ (z : Told). z.view.section) first.told ∙ ap (λ (z : Told). z.view.section) zeroth.told)))

  pub loaded_stays : f.0.view.loaded ≡ a.0.view.loaded
  loaded_stays = ap (λ (z : Mine). z.0.view.loaded) two ∙ (ap (λ (z : Mine). z.0.view.loaded) one ∙ (ap (λ (z : Told). z.view.loaded) x.told ∙ (ap (λ (z : Told). z.view.loaded) first.told ∙ ap (λ (z : Told). z.view.loaded) zeroth.told)))

  pub number_stays : f.0.view.number ≡ a.0.view.number
  number_stays = ap (λ (z : Mine). z.0.view.number) two ∙ (ap (λ (z : Mine). z.0.view.number) one ∙ (ap (λ (z : Told). z.view.number) x.told ∙ (ap (λ (z : Told). z.view.number) first.told ∙ ap (λ (z : Told). z.view.number) zeroth.told)))

  pub claims_stay : f.0.claims ≡ a.0.claims
  claims_stay = ap (λ (z : Mine). z.0.claims) two ∙ (ap (λ (z : Mine). z.0.claims) one ∙ (ap (λ (z : Told). z.claims) x.told ∙ (ap (λ (z : Told). z.claims) first.told ∙ ap (λ (z : Told). z.claims) zeroth.told)))

  pub left_less : f.0.view.left ≡ a.0.view.left - 1
  left_less = ap (λ (z : Mine). z.0.view.left) two ∙ (ap (λ (z : Mine). z.0.view.left) one ∙ (ap (λ (z : Told). z.view.left) x.told ∙ ap (λ n. n - 1) (ap (λ (z : Told). z.view.left) first.told ∙ ap (λ (z : Told). z.view.left) zeroth.told)))
