-- The laws of the wide target.
use Rattle.std.proofs.Common.{◌≡◌, ◌≢◌, ℕ, zero, suc, ◌+◌, ◌<◌, ◌==◌, nat_lt, Bool, true, false, cond, List, [], ◌∷◌, ◌++◌, Option, Some, None, is_some, get_or, set, sym, refl, ap, ◌∙◌, subst, arith, eq-eqb, ne_eqb, eqb-true, get_or-set_other}
use Rattle.std.proofs.lemmas.Bool.{lt-ltb}
use Rattle.ref_state.specs.declared.kinds.Tag.{Tag}
use Rattle.ref_state.specs.State.{total}
use Rattle.ref_state.specs.Steps.{first, without}
use Rattle.ref_state.proofs.Lists.{total_append, without_total, some_is}
use Rattle.table_rule.specs.Meant.{of_pair, is_on, is_named}
use Rattle.small_target.specs.declared.Wide.{Wide}
use Rattle.small_target.specs.Small.{listed_on}
use Rattle.small_target.specs.Wide.{wide_held, wide_executed, wide_added, wide_next, wide_lawful, wide_words, wide_touches, wide_stands}
use Rattle.small_target.proofs.SmallLaws.{weight}

is_executed : (t : Wide) (tag : Tag) → tag.kind ≡ 2 → wide_next t tag ≡ wide_executed t tag
is_executed t tag two = ap (λ b. cond b (wide_executed t tag) (wide_added t tag)) (eq-eqb tag.kind 2 two)

is_added : (t : Wide) (tag : Tag) → tag.kind ≢ 2 → wide_next t tag ≡ wide_added t tag
is_added t tag ne = ap (λ b. cond b (wide_executed t tag) (wide_added t tag)) (ne_eqb tag.kind 2 ne)

shown_there : (t : Wide) (d : ℕ) → d ≡ 0 → get_or (wide_words t) d 0 ≢ 0
shown_there t d e = let P : ℕ → Type 0 = λ k. get_or (wide_words t) k 0 ≢ 0 in subst P (sym e) (λ z. absurd (omega arith))

pub held_is : (t : Wide) (tag : Tag) (d : ℕ) → wide_held t tag ≡ Some d → (tag.kind ≡ 1) × (get_or (wide_words t) d 0 ≢ 0) × (wide_words (wide_next t tag) ≡ wide_words t)
held_is t tag d e = by_kind (tag.kind == 1) refl e
  where
    by_kind : (b : Bool) → (tag.kind == 1) ≡ b → cond b (Some 0) None ≡ Some d → (tag.kind ≡ 1) × (get_or (wide_words t) d 0 ≢ 0) × (wide_words (wide_next t tag) ≡ wide_words t)
    by_kind true is h = (eqb-true tag.kind 1 is, shown_there t d (sym (some_is h)), refl)
    by_kind false is h = absurd (let g : None ≡ Some d = h in grind arith)

pub adds : (t : Wide) (tag : Tag) (f : Tag → ℕ → ℕ) → tag.kind ≢ 2 → total (of_pair f) (wide_next t tag).waiting ≡ total (of_pair f) t.waiting + is_on f tag (wide_held t tag)
adds t tag f ne = ap (λ (z : Wide). total (of_pair f) z.waiting) (is_added t tag ne)
    ∙ (let a = total_append (of_pair f) t.waiting (listed_on tag (wide_held t tag)) in let b = weight f tag (wide_held t tag) in omega arith)

pub leaves : (t : Wide) (tag : Tag) (n : ℕ) (x : ℕ) → tag.kind ≢ 2 → wide_stands x n t → wide_stands x n (wide_next t tag)
leaves t tag n x ne h = h ∙ sym (ap (λ (z : Wide). get_or z.blocks n 0) (is_added t tag ne))

pub removes : (t : Wide) (tag : Tag) (x : Tag × ℕ) → tag.kind ≡ 2 → first (λ (y : Tag × ℕ). is_named tag y.0) t.waiting ≡ Some x
    → (wide_lawful t tag ≡ true) × ((f : Tag → ℕ → ℕ) → total (of_pair f) (wide_next t tag).waiting + of_pair f x ≡ total (of_pair f) t.waiting)
    × ((n : ℕ) (y : ℕ) → wide_touches x.0 x.1 n ≡ false → wide_stands y n t → wide_stands y n (wide_next t tag))
removes t tag x two e = (
  ap (λ b. cond b (is_some (first (λ (y : Tag × ℕ). is_named tag y.0) t.waiting)) true) (eq-eqb tag.kind 2 two) ∙ ap is_some e,
  (λ f. let a = without_total (λ (y : Tag × ℕ). is_named tag y.0) (of_pair f) t.waiting x e in let s = ap (λ (z : Wide). total (of_pair f) z.waiting) (is_executed t tag two) in omega arith),
  λ n y off h. h ∙ (sym (get_or-set_other t.blocks 0 n tag.number 0 (λ z. apart n off 0 z (omega arith)))
      ∙ (sym (get_or-set_other (set t.blocks 0 tag.number) 1 n tag.number 0 (λ z. apart n off 1 z (omega arith)))
      ∙ (sym (get_or-set_other (set (set t.blocks 0 tag.number) 1 tag.number) 2 n tag.number 0 (λ z. apart n off 2 z (omega arith)))
      ∙ ap (λ (z : Wide). get_or z.blocks n 0) (sym (is_executed t tag two))))),
)
  where
    apart : (n : ℕ) → nat_lt n 3 ≡ false → (k : ℕ) → n ≡ k → k < 3 → ⊥
    apart n off k e le = let a : nat_lt n 3 ≡ true = lt-ltb n 3 (omega arith) in let h : true ≡ false = sym a ∙ off in grind arith

pub always : (t : Wide) (tag : Tag) → tag.kind ≢ 2 → tag.kind ≢ 7 → wide_lawful t tag ≡ true
always t tag two seven = ap (λ b. cond b (is_some (first (λ (y : Tag × ℕ). is_named tag y.0) t.waiting)) true) (ne_eqb tag.kind 2 two)
