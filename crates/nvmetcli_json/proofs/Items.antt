-- The items of an array, read one after another as a loop does.
use Rattle.std.proofs.Common.{◌≡◌, ℕ, suc, ◌+◌, ◌<◌, ◌≤◌, List, [], ◌++◌, length, get_or, drop, Ok, Err, refl, sym, ap, subst, ◌∙◌, append_assoc, append-nil, arith}
use Rattle.std.proofs.lemmas.List.{at_drop_more, drop_all}
use Rattle.serde_json.specs.Data.{Data}
use Rattle.serde_json.specs.View.{view, items_view}
use Rattle.serde_json.specs.declared.value.Value.{Value}
use Rattle.nvmetcli_json.specs.declared.error.JsonError.{JsonError}
use Rattle.nvmetcli_json.specs.declared.error.JsonError.TheVariants as errors
use Rattle.link_rules.specs.declared.edits.Edit.{Edit}
use Rattle.nvmetcli_json.specs.Faults.{below, under, numbered, Fails}
use Rattle.nvmetcli_json.specs.Pointing.{IsBelow}
use Rattle.nvmetcli_json.specs.Edits.{Loads, ◌>>◌, followed_by, Adds, each_from}
use Rattle.nvmetcli_json.proofs.Steps.{fails_below, under_ok}

then_nil : (r : Loads) → (Ok [] >> r) ≡ r
unfolding followed_by
then_nil (Ok es) = refl
then_nil (Err e) = refl

then_assoc : (done added : List Edit) (r : Loads) → (Ok done >> (Ok added >> r)) ≡ (Ok (done
    ++ added) >> r)
unfolding followed_by
then_assoc done added (Ok es) = ap (λ (all : List Edit). Ok all) (sym (append_assoc done added es))
then_assoc done added (Err e) = refl

then_end : (done : List Edit) → (Ok done >> Ok []) ≡ Ok done
unfolding followed_by
then_end done = ap (λ (all : List Edit). Ok all) (append-nil done)

fails_then : (e : JsonError) (done : List Edit) (first rest : Loads) → Fails e first
    → Fails e (Ok done >> (first >> rest))
unfolding followed_by
fails_then errors.Memory done first rest h = tt
fails_then errors.NotJson done first rest h = h
fails_then (errors.Shape at) done first rest h = rw h refl

-- how far the items have been read
pub record SoFar (read : Data → Loads) (old new : List Edit) (all : List Value) (i : ℕ) : Type 0
  where
    pub done : List Edit
    pub new_is : new ≡ old ++ done
    pub rest : (Ok done >> each_from read i (items_view (drop i all))) ≡ each_from read 0
        (items_view all)

pub begins : (read : Data → Loads) (old : List Edit) (all : List Value) → SoFar read old old all 0
begins read old all = record {
  done = [];
  new_is = sym (append-nil old);
  rest = then_nil
      (each_from read 0 (items_view all));
}

at_item : (read : Data → Loads) (all : List Value) (i : ℕ) (x : Value) → i < length all
    → x ≡ get_or all i x
    → each_from read i (items_view (drop i all)) ≡ (under (numbered i) (read
    (view x)) >> each_from read (i + 1) (items_view (drop (i + 1) all)))
unfolding each_from
at_item read all i x lt is =
    let s : suc i ≡ i + 1 = omega arith in
    at_drop_more (λ (xs : List Value). each_from read i (items_view xs)) all i x lt
    ∙ ap (λ (y : Value). under (numbered i) (read (view y)) >> each_from read (suc i) (items_view
    (drop (i + 1) all))) (sym is)
    ∙ ap (λ (n : ℕ). under (numbered i) (read (view x)) >> each_from read n (items_view (drop
    (i + 1) all))) s

pub goes_on : (read : Data → Loads) (old new more : List Edit) (all : List Value) (i : ℕ)
    (x : Value) → i < length all → x ≡ get_or all i x → SoFar read old new all i
    → Adds new more (Ok tt) (read (view x)) → SoFar read old more all (i + 1)
goes_on read old new more all i x lt is so_far adds = record {
  done = so_far.done ++ adds.0;
  new_is = adds.2 ∙ ap (λ (xs : List Edit). xs ++ adds.0) so_far.new_is
      ∙ append_assoc old so_far.done adds.0;
  rest =
      sym (then_assoc so_far.done adds.0 (each_from read (i + 1) (items_view (drop (i + 1) all))))
      ∙ ap (λ (first : Loads). Ok so_far.done >> (first >> each_from read (i + 1) (items_view (drop
      (i + 1) all)))) (sym (under_ok (numbered i) (read (view x)) adds.0 adds.1))
      ∙ ap (λ (r : Loads). Ok so_far.done >> r) (sym (at_item read all i x lt is))
      ∙ so_far.rest;
}

pub ends : (read : Data → Loads) (old new : List Edit) (all : List Value) (i : ℕ) (x : Value)
    (e r : JsonError) → i < length all → x ≡ get_or all i x → SoFar read old new all i
    → Fails e (read (view x)) → IsBelow (numbered i) e r → Fails r (each_from read 0
    (items_view all))
ends read old new all i x e r lt is so_far fails below =
    let here = fails_below (numbered i) (read (view x)) e r fails below in
    let whole = fails_then r so_far.done (under (numbered i) (read (view x))) (each_from read
    (i + 1) (items_view (drop (i + 1) all))) here in
    subst (λ (read : Loads). Fails r read) (ap (λ (r : Loads). Ok so_far.done >> r) (sym
    (at_item read all i x lt is)) ∙ so_far.rest) whole

pub is_done : (read : Data → Loads) (old new : List Edit) (all : List Value) (i : ℕ)
    → length all ≤ i → SoFar read old new all i → Adds old new (Ok tt) (each_from read 0
    (items_view all))
unfolding each_from
is_done read old new all i past so_far =
    let none : drop i all ≡ [] = drop_all i all past in
    let last : each_from read i (items_view (drop i all)) ≡ Ok [] = rw none refl in (
      so_far.done,
      sym so_far.rest ∙ ap (λ (r : Loads). Ok so_far.done >> r) last
          ∙ then_end so_far.done,
      so_far.new_is,
    )
