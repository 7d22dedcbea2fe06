-- A seat with one hold, which it hands out or puts.
use Rattle.std.proofs.Common.{◌≡◌, ◌≢◌, ⊎_elim, ℕ, zero, suc, max, arith, ◌+◌, ◌%◌, ◌==◌, ◌&&◌, ◌++◌, Bool, true, false, if◌then◌else◌, List, [], ◌∷◌, Some, None, refl, ap, sym, ◌∙◌, eq-eqb}
use Rattle.ref_state.specs.declared.kinds.Take.TheVariants as take_of
use Rattle.ref_state.specs.declared.state.Hold.{Hold}
use Rattle.ref_state.specs.declared.state.Entry.{Entry}
use Rattle.ref_state.specs.declared.state.Section.TheVariants.{Out, Placed}
use Rattle.ref_state.specs.declared.state.LoadedMode.TheVariants.{NotLoaded}
use Rattle.ref_state.specs.State.{is_bare, word_end}
use Rattle.ref_state.specs.Steps.{first, without, is_on, is_least, least, without_least, least_place, place_or, lesser, may_put, Some_where, hold_of, section_got, after_get, after_enter, after_put, after_leave}
use Rattle.table_rule.specs.declared.rule.Claim.{Claim}
use Rattle.table_rule.specs.declared.rule.Told.{Told}
use Rattle.table_rule.specs.Shown.{claims_but, claims_only, cutting, part_of, joining, longer}
use Rattle.table_rule.specs.Words.{at, ModeOf, SharedOf}
use Rattle.table_rule.specs.Counted.{Counted}
use Rattle.percpu_ref.specs.declared.put_kinds.Put.TheVariants.{Kept, Last}
use Rattle.percpu_ref.specs.Holds.{MayPut, own_steps, shared_steps, words_found, put_of, CountsOnce}

-- ## One hold that passes a test

module _ (p : Hold → Bool) (h : Hold) (ok : p h ≡ true) where
  pub first_one : first p (h ∷ []) ≡ Some h
  first_one = ap (λ b. if b then Some h else None) ok

  least_is : place_or (least_place p (h ∷ [])) ≡ h.place
  least_is = ap (λ b. place_or (if b then Some (lesser h.place None) else None)) ok

  is_least_one : is_least p (h ∷ []) h ≡ true
  is_least_one = ap (λ b. b && (h.place == place_or (least_place p (h ∷ [])))) ok ∙ eq-eqb h.place _ (sym least_is)

  pub least_one : least p (h ∷ []) ≡ Some h
  least_one = ap (λ b. if b then Some h else None) is_least_one

  pub without_one : without_least p (h ∷ []) ≡ []
  without_one = ap (λ b. if b then [] else h ∷ []) is_least_one

pub on_disk : (d : ℕ) (h : Hold) → h.disk ≡ d → is_on d h ≡ true
on_disk d h e = eq-eqb h.disk d e

pub may_be_put : (d : ℕ) (h : Hold) → h.disk ≡ d → MayPut h → may_put d h ≡ true
may_be_put d h e may = ap (λ b. b && (if is_bare h.call then true else h.executed)) (eq-eqb h.disk d e)
    ∙ ⊎_elim (λ (t : is_bare h.call ≡ true). ap (λ b. if b then true else h.executed) t)
    (λ (t : h.executed ≡ true). ap (λ b. if is_bare h.call then true else b) t ∙ same (is_bare h.call)) may
  where
    same : (b : Bool) → (if b then true else true) ≡ true
    same true = refl
    same false = refl

-- ## No claim goes with a hold

pub claims_stay : (cs : List Claim) → claims_but (λ q. false) cs ≡ cs
claims_stay [] = refl
claims_stay (c ∷ cs) = ap (λ l. c ∷ l) (claims_stay cs)

pub no_claims : (cs : List Claim) → claims_only (λ q. false) cs ≡ []
no_claims [] = refl
no_claims (c ∷ cs) = no_claims cs

pub nil_right : {A : Type 0} (l : List A) → l ++ [] ≡ l
nil_right [] = refl
nil_right (x ∷ xs) = ap (λ l. x ∷ l) (nil_right xs)

-- ## After a get, whose hold is handed out

abbrev pub got_hold : ℕ → Entry → Hold
got_hold d e = record { disk = d; place = e.place; call = e.call; executed = false }

module _ (d : ℕ) (e : Entry) (v : Told) (f : List (ℕ × ℕ)) (placed : v.view.section ≡ Placed e) (free : v.view.holds ≡ []) where
  abbrev pub counted : Told
  counted = record v { view = after_get d v.view; found = f }

  pub holds_is : counted.view.holds ≡ got_hold d e ∷ []
  holds_is = (λ i. hold_of d (placed i) ++ free i)

  pub some_on : Some_where (is_on d) counted.view.holds
  some_on = (got_hold d e, ap (first (is_on d)) holds_is ∙ first_one (is_on d) (got_hold d e) (on_disk d (got_hold d e) refl))

  pub part_holds : (part_of (take_of.Hold d) counted).view.holds ≡ got_hold d e ∷ []
  part_holds = ap (λ hs. Rattle.ref_state.specs.Steps.listed (least (is_on d) hs)) holds_is ∙ ap Rattle.ref_state.specs.Steps.listed (least_one (is_on d) (got_hold d e) (on_disk d (got_hold d e) refl))

  pub left_over : cutting (take_of.Hold d) counted ≡ record v { view = record v.view { loaded = NotLoaded; section = section_got v.view.section }; found = f }
  left_over = let gone : without_least (is_on d) counted.view.holds ≡ v.view.holds = ap (without_least (is_on d)) holds_is ∙ (without_one (is_on d) (got_hold d e) (on_disk d (got_hold d e) refl) ∙ sym free) in
      λ i. record v { view = record v.view { loaded = NotLoaded; section = section_got v.view.section; holds = gone i }; claims = claims_stay v.claims i; found = f }

-- ## A killed mode was loaded

pub put_last : (n b : ℕ) → n ≢ 0 → b ≡ 1 → Last ≡ put_of n b
put_last zero b ne e = absurd (ne refl)
put_last (suc n) b ne e = sym (ap (λ x. if x then Last else Kept) (eq-eqb b 1 e))

pub found_killed : (d n b : ℕ) (fs : List (ℕ × ℕ)) → n ≢ 0 → (at (SharedOf d), b) ∷ ((at (ModeOf d), n) ∷ fs) ≡ words_found d n b fs
found_killed d zero b fs ne = absurd (ne refl)
found_killed d (suc n) b fs ne = refl

pub killed_own : (n : ℕ) → n ≢ 0 → own_steps n ≡ 0
killed_own zero ne = absurd (ne refl)
killed_own (suc n) ne = refl

pub killed_shared : (n : ℕ) → n ≢ 0 → shared_steps n ≡ 1
killed_shared zero ne = absurd (ne refl)
killed_shared (suc n) ne = refl

-- ## A hold that a seat takes in

-- no hold was there, and the hold's part brings nothing else
pub joined : (v u : Told) → v.view.holds ≡ [] → u.view.entries ≡ [] → u.view.left ≡ 0 → u.claims ≡ []
    → joining v u ≡ record v {
      view = record v.view { holds = u.view.holds; seen = max v.view.seen u.view.seen };
      known = longer v.known u.known;
      heard = v.known ∷ (u.known ∷ (u.heard ++ v.heard));
    }
joined v u none entries left claims =
    let holds : u.view.holds ++ v.view.holds ≡ u.view.holds = ap (λ hs. u.view.holds ++ hs) none ∙ nil_right u.view.holds in
    let left' : v.view.left + u.view.left ≡ v.view.left = omega arith in
    let claims' : v.claims ++ u.claims ≡ v.claims = ap (λ cs. v.claims ++ cs) claims ∙ nil_right v.claims in
    λ i. record v {
      view = record v.view { holds = holds i; left = left' i; seen = max v.view.seen u.view.seen; entries = entries i ++ v.view.entries };
      known = longer v.known u.known;
      heard = v.known ∷ (u.known ∷ (u.heard ++ v.heard));
      claims = claims' i;
    }

-- ## The whole of a put

abbrev pub put_after : ℕ → ℕ → ℕ → Told → Told
put_after d mode before z = let w : Told = record z { view = after_enter z.view } in
    let p : Told = record w { view = after_put d w.view; found = words_found d mode before w.found } in record p { view = after_leave p.view }

module _ (d : ℕ) (v u : Told) (h : Hold) (one : u.view.holds ≡ h ∷ []) (here : h.disk ≡ d) (may : MayPut h) (none : v.view.holds ≡ []) (entries : u.view.entries ≡ []) (left : u.view.left ≡ 0) (claims : u.claims ≡ []) where
  taken_in : (joining v u).view.holds ≡ h ∷ []
  taken_in = (λ i. one i ++ none i)

  pub held_there : Some_where (is_on d) (joining v u).view.holds
  held_there = (h, ap (first (is_on d)) taken_in ∙ first_one (is_on d) h (on_disk d h here))

  pub may_there : Some_where (may_put d) (joining v u).view.holds
  may_there = (h, ap (first (may_put d)) taken_in ∙ first_one (may_put d) h (may_be_put d h here may))

  pub put_told : (mode before : ℕ) → v.view.section ≡ Out → put_after d mode before (joining v u) ≡ record v {
    view = record v.view { word = ((v.view.word + 1) % word_end + 1) % word_end; loaded = NotLoaded; seen = max v.view.seen u.view.seen };
    known = longer v.known u.known;
    heard = v.known ∷ (u.known ∷ (u.heard ++ v.heard));
    found = words_found d mode before v.found;
  }
  put_told mode before closed = let gone : without_least (may_put d) u.view.holds ≡ v.view.holds = ap (without_least (may_put d)) one ∙ (without_one (may_put d) h (may_be_put d h here may) ∙ sym none) in
      ap (put_after d mode before) (joined v u none entries left claims) ∙ λ i. record v {
        view = record v.view { word = ((v.view.word + 1) % word_end + 1) % word_end; section = sym closed i; loaded = NotLoaded; holds = gone i; seen = max v.view.seen u.view.seen };
        known = longer v.known u.known;
        heard = v.known ∷ (u.known ∷ (u.heard ++ v.heard));
        found = words_found d mode before v.found;
      }

pub put_ticks : (mode : ℕ) (a b c d e : Counted) → b ≡ record a { clock = a.clock + 1 } → c ≡ record b { own = b.own + 1 }
    → d ≡ record c { own = c.own + own_steps mode; shared = c.shared + shared_steps mode; row = c.row + 1 } → e ≡ record d { own = d.own + 1 }
    → e ≡ record a { own = a.own + (2 + own_steps mode); shared = a.shared + shared_steps mode; clock = a.clock + 1; row = a.row + 1 }
put_ticks mode a b c d e joins enters counts leaves = let own : ((a.own + 1) + own_steps mode) + 1 ≡ a.own + (2 + own_steps mode) = omega arith in
    leaves ∙ (ap (λ (z : Counted). record z { own = z.own + 1 }) counts
    ∙ (ap (λ (z : Counted). record z { own = (z.own + own_steps mode) + 1; shared = z.shared + shared_steps mode; row = z.row + 1 }) enters
    ∙ (ap (λ (z : Counted). record z { own = ((z.own + 1) + own_steps mode) + 1; shared = z.shared + shared_steps mode; row = z.row + 1 }) joins
    ∙ λ i. record a { own = own i; shared = a.shared + shared_steps mode; clock = a.clock + 1; row = a.row + 1 })))

pub once : CountsOnce
once zero = refl
once (suc m) = refl
