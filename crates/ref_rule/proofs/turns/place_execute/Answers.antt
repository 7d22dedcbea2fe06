use Rattle.std.proofs.Common.{◌≡◌, ℕ, ◌+◌, ◌-◌, ◌/◌, ◌∙◌, List, ◌∷◌, true, ap, slice_set}
use Rattle.ref_state.specs.declared.kinds.Tag.{Tag}
use Rattle.ref_state.specs.declared.state.By.TheVariants as by
use Rattle.ref_state.specs.declared.state.Entry.{Entry}
use Rattle.ref_state.specs.declared.state.Hold.{Hold}
use Rattle.ref_state.specs.declared.state.View.{View}
use Rattle.ref_state.specs.declared.state.State.{State as Core}
use Rattle.ref_state.specs.State.{no_view}
use Rattle.ref_state.specs.Steps.{new_entry, is_least, least, is_held, change, place_of, after_execute}
use Rattle.ref_rule.proofs.turns.place_execute.Goals as goal

abbrev exec : Hold → Hold
exec h = record h { executed = true }

executes : (s : Core) (t : Tag) (d : ℕ) (v u a : View) (hs : List Hold) (es : List Entry) (k : ℕ)
    → u ≡ v → a ≡ v → hs ≡ change (is_least (is_held t d) u.holds) exec u.holds
    → k ≡ place_of (least (is_held t d) a.holds)
    → es ≡ new_entry s t (by.Execute k) ∷ a.entries → record u {
      holds = hs;
      left = u.left - 1;
      seen = s.given + 1;
      entries = es;
    } ≡ after_execute s t d v
executes s t d v u a hs es k e f h p n =
    let hs' : hs ≡ change (is_least (is_held t d) v.holds) exec v.holds = h
    ∙ ap (λ (x : View). change (is_least (is_held t d) x.holds) exec x.holds) e in
    let p' : k ≡ place_of (least (is_held t d) v.holds) = p
    ∙ ap (λ (x : View). place_of (least (is_held t d) x.holds)) f in
    let es' : es ≡ new_entry s t (by.Execute (place_of (least (is_held t d) v.holds))) ∷ v.entries =
    n ∙ (λ i. new_entry s t (by.Execute (p' i)) ∷ (f i).entries) in
    λ i. record (e i) { holds = hs' i; left = (e i).left - 1; seen = s.given + 1; entries = es' i }

pub returns-clause-done : goal.returns-clause-done
returns-clause-done c = let s : Core = c.args.s.now in
    ap (λ (w : View). record s { given = s.given + 1; views = slice_set s.views c.args.seat w })
    (executes s c.args.call (c.args.slot / 8) _ c.at_mut-view.result.now c.at-view.result.now
    c.mark_executed.new.holds c.in_ok-entries.entries c.hold_place.result
    (c.at_mut-view.ensures.value no_view) (c.at-view.ensures no_view) c.mark_executed.ensures
    c.hold_place.ensures c.in_ok-entries.ensures)
