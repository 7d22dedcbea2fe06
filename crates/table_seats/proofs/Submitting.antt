-- What a submit in a section of its own leaves.
use Rattle.std.proofs.Common.{◌≡◌, ◌≢◌, ℕ, zero, suc, ◌+◌, ◌-◌, Bool, true, cond, List, [], ◌∷◌, ◌++◌, Option, Some, None, length, take, map, get_or, sym, refl, ap, ◌∙◌, subst, arith, eq-eqb}
use Rattle.atomic_table.specs.Table.{Me}
use Rattle.ref_state.specs.declared.kinds.Tag.{Tag}
use Rattle.ref_state.specs.declared.state.Entry.{Entry}
use Rattle.ref_state.specs.declared.state.Section.{Section}
use Rattle.ref_state.specs.declared.state.Section.TheVariants.{Out, In, Placed}
use Rattle.ref_state.specs.Steps.{after_enter, after_leave, after_add}
use Rattle.table_rule.specs.declared.rule.Told.{Told}
use Rattle.table_rule.specs.Meant.{target}
use Rattle.table_rule.specs.Shown.{extended}
use Rattle.table_rule.specs.Plays.{Drew, MayGet, drawn}
use Rattle.table_rule.proofs.Histories.{target_next, target_stays}
use Rattle.small_target.specs.declared.Small.{Small}
use Rattle.small_target.specs.Small.{small_held, small_words, where_shown}
use Rattle.small_target.proofs.SmallLaws as laws
use Rattle.table_seats.specs.EndingMeans.{ending_means}

abbrev pub Mine : Type 0
Mine = Me (Option ℕ) Told

abbrev pub entered : Mine → Mine
entered z = (record z.0 { view = after_enter z.0.view }, z.1)

abbrev pub drew : List Tag → ℕ → ℕ → Tag → Mine → Mine
drew between place serial tag z = (
  record z.0 {
    view = record z.0.view { section = Placed (drawn place serial tag); left = z.0.view.left - 1; seen = place + 1 };
    known = (z.0.known ++ between) ++ tag ∷ [];
    claims = map (extended tag) z.0.claims;
  },
  z.1,
)

abbrev pub counted : Bool → List (ℕ × ℕ) → Mine → Mine
counted up f z = (record z.0 { view = after_add 0 up z.0.view; found = f }, z.1)

abbrev pub left_by : Mine → Mine
left_by z = (record z.0 { view = after_leave z.0.view }, z.1)

module _ (tag : Tag) (place serial : ℕ) (a b c : Mine) (eb : b ≡ entered a) (dc : Drew ending_means tag b.0 c.0 place serial) (own : c.1 ≡ b.1) where
  pub drawn_is : c ≡ drew dc.between place serial tag (entered a)
  drawn_is = (λ i. (dc.told i, own i)) ∙ ap (drew dc.between place serial tag) eb

  -- a section that was left without a hold, and one that got it
  pub plain_left : (d e : Mine) → d ≡ c → e ≡ left_by d → e ≡ left_by (drew dc.between place serial tag (entered a))
  plain_left d e l x = x ∙ ap left_by (l ∙ drawn_is)

  pub got_left : (d g e : Mine) (f : List (ℕ × ℕ)) → d ≡ c → g ≡ counted true f d → e ≡ left_by g
      → e ≡ left_by (counted true f (drew dc.between place serial tag (entered a)))
  got_left d g e f l h x = x ∙ ap left_by (h ∙ ap (counted true f) (l ∙ drawn_is))

abbrev entry_of : Entry → Section → Entry
entry_of d Out = d
entry_of d In = d
entry_of d (Placed e) = e

pub placed_is : (a b : Entry) → Placed a ≡ Placed b → a ≡ b
placed_is a b h = ap (entry_of a) h

shown_some : (n : ℕ) → n ≢ 0 → where_shown n ≡ Some 0
shown_some zero ne = absurd (ne refl)
shown_some (suc n) ne = refl

held_where : (t : Small) (tag : Tag) → tag.kind ≡ 1 → small_held t tag ≡ where_shown t.shown
held_where t tag one = ap (λ b. cond b (where_shown t.shown) None) (eq-eqb tag.kind 1 one)

module _ (known log : List Tag) (tag : Tag) (n row : ℕ) (long : length log ≡ n) (is : known ≡ log ++ tag ∷ []) (one : tag.kind ≡ 1) (at : row ≡ get_or (small_words (target ending_means (take (n + 1) known))) 0 0) where
  shown_is : row ≡ (target ending_means (take n known)).shown
  shown_is = at ∙ (ap (λ l. (target ending_means (take (n + 1) l)).shown) is
      ∙ (ap (λ (t : Small). t.shown) (target_next ending_means log tag n long)
      ∙ (ap (λ (p : ℕ × ℕ). p.0) (laws.stays (target ending_means (take n log)) tag (omega arith))
      ∙ (sym (ap (λ (t : Small). t.shown) (target_stays ending_means log tag n (omega arith)))
      ∙ ap (λ l. (target ending_means (take n l)).shown) (sym is)))))

  pub is_held : row ≢ 0 → small_held (target ending_means (take n known)) tag ≡ Some 0
  is_held ne = held_where (target ending_means (take n known)) tag one ∙ shown_some (target ending_means (take n known)).shown (subst (λ (k : ℕ). k ≢ 0) shown_is ne)

  pub is_refused : row ≡ 0 → small_held (target ending_means (take n known)) tag ≡ None
  is_refused e = held_where (target ending_means (take n known)) tag one ∙ ap where_shown (sym shown_is ∙ e)

pub may_get : (v : Told) (tag : Tag) (place serial row : ℕ) (log : List Tag) → v.view.section ≡ Placed (drawn place serial tag) → length log ≡ place → v.known ≡ log ++ tag ∷ [] → tag.kind ≡ 1
    → row ≡ get_or (small_words (target ending_means (take (place + 1) v.known))) 0 0 → row ≢ 0 → MayGet ending_means v 0
may_get v tag place serial row log placed long is one at ne = record {
  entry = drawn place serial tag;
  placed = placed;
  shown = subst (λ (k : ℕ). k ≢ 0) at ne;
  none = refl;
  held = λ bare. is_held v.known log tag place row long is one at ne;
}
