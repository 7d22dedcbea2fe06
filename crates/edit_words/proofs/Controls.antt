-- What fabrics commands make of the words.
use Rattle.std.proofs.Common.{◌≡◌, ◌⊎◌, ℕ, zero, suc, Bool, true, false, List, [], ◌∷◌, ◌++◌, slice_set, Option, Some, None, refl, sym, ap, subst, ◌∙◌, inl, inr, arith}
use mathlib.Core.Logic.{⊎_elim}
use Rattle.std.proofs.lemmas.Bool.{cases_eq, both_ways}
use Rattle.std.specs.List.{slice_get}
use Rattle.mem_bdev.specs.Blocks.{Blocks}
use Rattle.sqe_cqe.specs.Ready.{ready_in, is_ready_at, is_ready_row}
use Rattle.sqe_cqe.specs.declared.controllers.Binding.{Binding}
use Rattle.sqe_cqe.specs.declared.controllers.Bound.{Bound}
use Rattle.sqe_cqe.specs.declared.controllers.ControllerRow.{ControllerRow}
use Rattle.configfs_tree.specs.declared.configuration.Configuration.{Configuration}
use Rattle.fabrics_connect.specs.declared.answer.Answer.{Answer}
use Rattle.fabrics_connect.specs.declared.answer.Answer.TheVariants.{Refused, Makes, Joins, Reads, Sets}
use Rattle.fabrics_connect.specs.After.{controllers_after, tree_after, new_controller, changed, changed_at, changed_bound, with_qid}
use Rattle.fabrics_connect.specs.Registers.{after_set}
use Rattle.change_stamps.specs.Stamps.{Stamps as Kept, space_stamp}
use Rattle.ns_table.specs.Kept.{shape_of}
use Rattle.ns_table.specs.Positions.{Place, Shown, Ready, Changes, SubsystemStamp, PortStamp, State, Space, place_at}
use Rattle.ns_table.specs.Words.{bit, is_shown, word_for, words_of, each_below}
use Rattle.ns_table.specs.declared.layout.TheConstants.{WORDS}
use Rattle.edit_words.specs.Controls.{IsOwn, shape_after, ControlsChangeReadiness, ControlsTurn, ConnectsLeaveWords, RaisedKeepsStamps}
use Rattle.edit_words.proofs.ByPlace.{turned, PlacesOnce}

none-some : {X : Type 0} (x : X) → None ≡ Some x → ⊥
none-some x e = cc

some-same : {X : Type 0} (x y : X) → Some x ≡ Some y → x ≡ y
some-same x y e = cc

-- ---- controllers
added : (cs : List ControllerRow) (row : ControllerRow) (n : ℕ) → is_ready_row row ≡ false
    → is_ready_at (slice_get (cs ++ row ∷ []) n) ≡ is_ready_at (slice_get cs n)
added [] row zero off = off
added [] row (suc n) off = refl
added (c ∷ cs) row zero off = refl
added (c ∷ cs) row (suc n) off = added cs row n off

put-alike : (cs : List ControllerRow) (n : ℕ) (c row : ControllerRow) (k : ℕ) → slice_get cs n ≡ Some c → is_ready_row row ≡ is_ready_row c
    → is_ready_at (slice_get (slice_set cs n row) k) ≡ is_ready_at (slice_get cs k)
put-alike [] n c row k e same = refl
put-alike (d ∷ cs) zero c row zero e same = same ∙ ap is_ready_row (sym (some-same d c e))
put-alike (d ∷ cs) zero c row (suc k) e same = refl
put-alike (d ∷ cs) (suc n) c row zero e same = refl
put-alike (d ∷ cs) (suc n) c row (suc k) e same = put-alike cs n c row k e same

put-other : (cs : List ControllerRow) (n : ℕ) (row : ControllerRow) (k : ℕ) → (k ≡ n → ⊥) → slice_get (slice_set cs n row) k ≡ slice_get cs k
put-other [] n row k ne = refl
put-other (d ∷ cs) zero row zero ne = absurd (ne refl)
put-other (d ∷ cs) zero row (suc k) ne = refl
put-other (d ∷ cs) (suc n) row zero ne = refl
put-other (d ∷ cs) (suc n) row (suc k) ne = put-other cs n row k (λ e. ne (ap (λ (m : ℕ). suc m) e))

-- a controller that is made isn't ready
made-ready : (t : Configuration) (cs : List ControllerRow) (bound : Bound) (host : List ℕ) (c : ℕ) → ready_in (cs ++ new_controller t bound host ∷ []) c ≡ ready_in cs c
made-ready t cs bound host zero = refl
made-ready t cs bound host (suc n) = added cs (new_controller t bound host) n refl

-- a QID that is connected leaves readiness
joined-at : (cs : List ControllerRow) (q n k : ℕ) (o : Option ControllerRow) → slice_get cs n ≡ o → is_ready_at (slice_get (changed_at cs n (with_qid q) o) k) ≡ is_ready_at (slice_get cs k)
joined-at cs q n k None e = refl
joined-at cs q n k (Some c) e = put-alike cs n c (with_qid q c) k e refl

joined-ready : (cs : List ControllerRow) (q ctrl c : ℕ) → ready_in (changed cs ctrl (with_qid q)) c ≡ ready_in cs c
joined-ready cs q ctrl zero = refl
joined-ready cs q zero (suc k) = refl
joined-ready cs q (suc n) (suc k) = joined-at cs q n k (slice_get cs n) refl

-- a register that is set leaves the readiness of others
set-at : (cs : List ControllerRow) (v n k : ℕ) (o : Option ControllerRow) → (k ≡ n → ⊥) → is_ready_at (slice_get (changed_at cs n (after_set v) o) k) ≡ is_ready_at (slice_get cs k)
set-at cs v n k None ne = refl
set-at cs v n k (Some c) ne = ap is_ready_at (put-other cs n (after_set v c) k ne)

set-one : (cs : List ControllerRow) (v ctrl c : ℕ) → (c ≡ ctrl → ⊥) → ready_in (changed cs ctrl (after_set v)) c ≡ ready_in cs c
set-one cs v ctrl zero ne = refl
set-one cs v zero (suc k) ne = refl
set-one cs v (suc n) (suc k) ne = set-at cs v n k (slice_get cs n) (λ e. ne (ap (λ (m : ℕ). suc m) e))

abbrev Same : List ControllerRow → List ControllerRow → Option Bound → ℕ → Type 0
Same cs ds b c = (ready_in ds c ≡ ready_in cs c) ⊎ IsOwn b (Ready c)

set-ready : (cs : List ControllerRow) (v : ℕ) (b : Option Bound) (c : ℕ) → Same cs (changed_bound cs b (after_set v)) b c
set-ready cs v None c = inl refl
set-ready cs v (Some bound) c = ⊎_elim
    (λ (is : c ≡ bound.ctrl). inr (ap (λ (n : ℕ). Ready n) is))
    (λ ne. inl (set-one cs v bound.ctrl c ne))
    (cases_eq c bound.ctrl)

pub ready-after : (t : Configuration) (cs : List ControllerRow) (b : Binding) (a : Answer) (c : ℕ) → Same cs (controllers_after t cs b a) b.bound c
unfolding controllers_after
ready-after t cs b (Refused fault) c = inl refl
ready-after t cs b (Makes bound host) c = inl (made-ready t cs bound host c)
ready-after t cs b (Joins bound) c = inl (joined-ready cs bound.qid bound.ctrl c)
ready-after t cs b (Reads value) c = inl refl
ready-after t cs b (Sets value) c = set-ready cs value b.bound c

-- ---- all else is as before
shown-after : (t : Configuration) (a : Answer) (disk : ℕ) → is_shown (tree_after t a) disk ≡ is_shown t disk
unfolding is_shown tree_after
shown-after t (Refused fault) disk = refl
shown-after t (Makes bound host) disk = refl
shown-after t (Joins bound) disk = refl
shown-after t (Reads value) disk = refl
shown-after t (Sets value) disk = refl

other-words : (t : Configuration) (cs ds : List ControllerRow) (bs : List Blocks) (s : Kept) (a : Answer) (p : Place) → ((c : ℕ) → p ≡ Ready c → ⊥)
    → word_for (shape_of (tree_after t a) ds bs s) p ≡ word_for (shape_of t cs bs s) p
unfolding tree_after
other-words t cs ds bs s a (Shown disk) ne = ap bit (shown-after t a disk)
other-words t cs ds bs s a (Ready c) ne = absurd (ne c refl)
other-words t cs ds bs s (Refused fault) Changes ne = refl
other-words t cs ds bs s (Makes bound host) Changes ne = refl
other-words t cs ds bs s (Joins bound) Changes ne = refl
other-words t cs ds bs s (Reads value) Changes ne = refl
other-words t cs ds bs s (Sets value) Changes ne = refl
other-words t cs ds bs s a (SubsystemStamp sub) ne = refl
other-words t cs ds bs s a (PortStamp port) ne = refl
other-words t cs ds bs s (Refused fault) (State port group) ne = refl
other-words t cs ds bs s (Makes bound host) (State port group) ne = refl
other-words t cs ds bs s (Joins bound) (State port group) ne = refl
other-words t cs ds bs s (Reads value) (State port group) ne = refl
other-words t cs ds bs s (Sets value) (State port group) ne = refl
other-words t cs ds bs s (Refused fault) (Space sub nsid part) ne = refl
other-words t cs ds bs s (Makes bound host) (Space sub nsid part) ne = refl
other-words t cs ds bs s (Joins bound) (Space sub nsid part) ne = refl
other-words t cs ds bs s (Reads value) (Space sub nsid part) ne = refl
other-words t cs ds bs s (Sets value) (Space sub nsid part) ne = refl

abbrev is_ready_place : Place → Bool
is_ready_place (Ready c) = true
is_ready_place p = false

no-ready : (p : Place) (c : ℕ) → is_ready_place p ≡ false → p ≡ Ready c → ⊥
no-ready p c off is = absurd (both_ways (is_ready_place p) off (ap is_ready_place is))

pub controls_change : ControlsChangeReadiness
controls_change t cs bs s b a (Ready c) = ⊎_elim (λ same. inl (ap bit same)) (λ own. inr own) (ready-after t cs b a c)
controls_change t cs bs s b a (Shown disk) = inl (other-words t cs (controllers_after t cs b a) bs s a (Shown disk) (λ c e. no-ready (Shown disk) c refl e))
controls_change t cs bs s b a Changes = inl (other-words t cs (controllers_after t cs b a) bs s a Changes (λ c e. no-ready Changes c refl e))
controls_change t cs bs s b a (SubsystemStamp sub) = inl (other-words t cs (controllers_after t cs b a) bs s a (SubsystemStamp sub) (λ c e. no-ready (SubsystemStamp sub) c refl e))
controls_change t cs bs s b a (PortStamp port) = inl (other-words t cs (controllers_after t cs b a) bs s a (PortStamp port) (λ c e. no-ready (PortStamp port) c refl e))
controls_change t cs bs s b a (State port group) = inl (other-words t cs (controllers_after t cs b a) bs s a (State port group) (λ c e. no-ready (State port group) c refl e))
controls_change t cs bs s b a (Space sub nsid part) = inl (other-words t cs (controllers_after t cs b a) bs s a (Space sub nsid part) (λ c e. no-ready (Space sub nsid part) c refl e))

-- ---- the words that are turned
one-place : (p : Place) → PlacesOnce (p ∷ [])
one-place p zero zero q e f = refl
one-place p zero (suc j) q e f = absurd (none-some q f)
one-place p (suc i) j q e f = absurd (none-some q e)

own-place : (bound : Bound) (o : Option Bound) (p : Place) → o ≡ Some bound → IsOwn o p → p ≡ Ready bound.ctrl
own-place bound o p is own = subst (λ (k : Option Bound). IsOwn k p) is own

pub controls_turn : ControlsTurn
controls_turn t cs bs s b a bound is fits =
    turned (shape_of t cs bs s) (shape_after t cs bs s b a) (Ready bound.ctrl ∷ []) (fits, tt) (one-place (Ready bound.ctrl))
    (λ p within. ⊎_elim
    (λ same. inl same)
    (λ own. inr (0, omega arith, sym (own-place bound b.bound p is own)))
    (controls_change t cs bs s b a p))

-- a queue that isn't bound turns no word
no-own : (o : Option Bound) (p : Place) → o ≡ None → IsOwn o p → ⊥
no-own None p is own = own
no-own (Some bound) p is own = none-some bound (sym is)

same-word : (t : Configuration) (cs : List ControllerRow) (bs : List Blocks) (s : Kept) (b : Binding) (a : Answer) → b.bound ≡ None → (p : Place)
    → word_for (shape_after t cs bs s b a) p ≡ word_for (shape_of t cs bs s) p
same-word t cs bs s b a none p = ⊎_elim (λ same. same) (λ own. absurd (no-own b.bound p none own)) (controls_change t cs bs s b a p)

pub connects_leave : ConnectsLeaveWords
unfolding words_of
connects_leave t cs bs s b a none = λ i. each_below (λ w. same-word t cs bs s b a none (place_at w) i) WORDS

pub raised_keeps : RaisedKeepsStamps
unfolding space_stamp
raised_keeps s = refl
