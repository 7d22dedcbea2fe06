-- For an Execute over any number of extents.
use Rattle.std.proofs.Common.{IfNone, ◌≡◌, ◌≢◌, inl, inr, ℕ, ◌+◌, ◌-◌, ◌*◌, ◌<◌, ◌==◌, ◌&&◌, Bool, true, false, cond, List, [], ◌∷◌, ◌++◌, length, get_or, sym, refl, ap, ◌∙◌, subst, arith, Option, Some, None, eq-eqb, ne_eqb, append_assoc}
use mathlib.Core.Logic.{dite}
use native.Mathlib.Decide.{ℕ_discrete}
use Rattle.atomic_table.specs.Table.{Me, rest}
use Rattle.ref_state.specs.declared.kinds.Tag.{Tag}
use Rattle.ref_state.specs.declared.state.Hold.{Hold}
use Rattle.ref_state.specs.declared.state.Turn.{Turn}
use Rattle.ref_state.specs.Steps.{first, without, is_slot, is_home_slot, Some_where, change, is_least, is_held}
use Rattle.ref_state.specs.Soundness.{Every}
use Rattle.ref_state.proofs.Lists.{some_is}
use Rattle.table_rule.specs.declared.rule.Told.{Told}
use Rattle.table_rule.specs.Meant.{Meaning, target, Legal, LegalFrom, is_named}
use Rattle.table_rule.specs.Counted.{Counted}
use Rattle.table_rule.specs.Words.{at, TurnOf}
use Rattle.table_rule.specs.Plays.{Took, Executed, StillStands, executed, IsInHand}
use Rattle.table_rule.proofs.Histories.{target_snoc}
use Rattle.table_rule.proofs.Waiting.{every_all}
use Rattle.extent_executes.specs.Executes.{turn_of, Reached, TookOut, Stopped, Ran, LastTried}

nil_right : {A : Type 0} (xs : List A) → xs ≡ xs ++ []
nil_right [] = refl
nil_right (x ∷ xs) = ap (λ l. x ∷ l) (nil_right xs)

both_every : {A : Type 0} {P Q R : A → Type 0} → ((x : A) → P x → Q x → R x) → (xs : List A) → Every P xs → Every Q xs → Every R xs
both_every h [] a b = tt
both_every h (x ∷ xs) a b = (h x a.0 b.0, both_every h xs a.1 b.1)

head_is : (n : ℕ) (ts : List Turn) → first (is_slot n) (turn_of n ∷ ts) ≡ Some (turn_of n)
head_is n ts = ap (λ b. cond b (Some (turn_of n)) (first (is_slot n) ts)) (eq-eqb n n refl)

head_home : (n : ℕ) (ts : List Turn) → first (is_home_slot n) (turn_of n ∷ ts) ≡ Some (turn_of n)
head_home n ts = ap (λ b. cond (b && true) (Some (turn_of n)) (first (is_home_slot n) ts)) (eq-eqb n n refl)

head_out : (n : ℕ) (ts : List Turn) → without (is_slot n) (turn_of n ∷ ts) ≡ ts
head_out n ts = ap (λ b. cond b ts (turn_of n ∷ without (is_slot n) ts)) (eq-eqb n n refl)

abbrev value_of : {S : Type 0} → List (ℕ × Option S) → Option S
value_of [] = None
value_of (x ∷ xs) = x.1

abbrev pub given : {S : Type 0} → ℕ → Me (Option S) Told → Me (Option S) Told
given n z = (record z.0 { view = record z.0.view { turns = without (is_slot n) z.0.view.turns } }, rest z.1)

abbrev pub lost : {S : Type 0} → ℕ → ℕ → Me (Option S) Told → Me (Option S) Told
lost n w z = (record z.0 { found = (at (TurnOf n), w) ∷ z.0.found }, z.1)

abbrev pub out : {S : Type 0} → ℕ → List Tag → Me (Option S) Told → Me (Option S) Told
out n l z = (record z.0 { view = record z.0.view { turns = turn_of n ∷ z.0.view.turns }; known = z.0.known ++ l; found = (at (TurnOf n), 0) ∷ z.0.found }, (n, None) ∷ z.1)

-- one more extent
pub reached_next : {S : Type 0} (slots : List ℕ) (i : ℕ) (a b : Me (Option S) Told) (l : List Tag) → b ≡ out (get_or slots i 0) l a → i < length slots
    → ((j k : ℕ) → j < k → k < length slots → get_or slots j 0 < get_or slots k 0) → Reached slots i a → Reached slots (i + 1) b
reached_next {S} slots i a b l is near rising r = subst (Reached slots (i + 1)) (sym is) record {
  held = λ j h. dite (ℕ_discrete j i)
      (λ e. subst (λ k. Some_where (is_slot (get_or slots k 0)) (turn_of (get_or slots i 0) ∷ a.0.view.turns) × IsInHand (get_or slots k 0) ((get_or slots i 0, None) ∷ a.1)) (sym e) ((turn_of (get_or slots i 0), head_is (get_or slots i 0) a.0.view.turns), inl refl))
      (λ ne. let x = r.held j (omega arith) in (later (is_slot (get_or slots j 0)) a.0.view.turns (get_or slots i 0 == get_or slots j 0) (turn_of (get_or slots i 0)) x.0, inr x.1));
  free = λ j x y. ap (λ z. cond z (Some (turn_of (get_or slots i 0))) (first (is_slot (get_or slots j 0)) a.0.view.turns)) (ne_eqb (get_or slots i 0) (get_or slots j 0) (λ e. let lt = rising i j (omega arith) y in absurd (omega arith))) ∙ r.free j (omega arith) y;
}
  where
    later : (p : Turn → Bool) (xs : List Turn) (b : Bool) (y : Turn) → Some_where p xs → (z : Turn) × (cond b (Some y) (first p xs) ≡ Some z)
    later p xs true y x = (y, refl)
    later p xs false y x = x

-- ## The last try, and how many steps there were

pub none_or : {A X : Type 0} (o : Option A) → X → IfNone o X
none_or None x = x
none_or (Some y) x = tt

pub tried_first : {S : Type 0} (n word : ℕ) (a b : Me (Option S) Told) → b ≡ lost n word a → LastTried n b
tried_first {S} n word a b e = record { word = word; before = a.0.found; found_is = ap (λ (z : Me (Option S) Told). z.0.found) e }

-- an extent that is put back leaves it
pub tried_next : {S : Type 0} (slots : List ℕ) (n i k : ℕ) (c d : Me (Option S) Told) → d ≡ given k c → LastTried (get_or slots (n + (i + 1)) 0) c → LastTried (get_or slots (n + 1 + i) 0) d
tried_next {S} slots n i k c d back l = let same : n + (i + 1) ≡ n + 1 + i = omega arith in
    subst (λ j. LastTried (get_or slots j 0) d) same record { word = l.word; before = l.before; found_is = ap (λ (z : Me (Option S) Told). z.0.found) back ∙ l.found_is }

pub more_ticks : (n : ℕ) (a b c d : Counted) → b ≡ record a { turn = a.turn + 2 } → c ≡ record b { turn = b.turn + (4 * n + 1) } → d ≡ record c { turn = c.turn + 2 } → d ≡ record a { turn = a.turn + (4 * (n + 1) + 1) }
more_ticks n a b c d first inner last = let sum : a.turn + 2 + (4 * n + 1) + 2 ≡ a.turn + (4 * (n + 1) + 1) = omega arith in
    last ∙ (ap (λ (z : Counted). record z { turn = z.turn + 2 }) inner
    ∙ (ap (λ (z : Counted). record z { turn = z.turn + (4 * n + 1) + 2 }) first ∙ ap (λ k. record a { turn = k }) sum))

module _ {T X Y R S : Type 0} (m : Meaning T X Y R S) where
  -- what a legal history begins with is legal
  legal_start : (t : T) (xs ys : List Tag) → LegalFrom m t (xs ++ ys) → LegalFrom m t xs
  legal_start t [] ys h = tt
  legal_start t (x ∷ xs) ys h = (h.0, legal_start (m.next t x) xs ys h.1)

  still_none : (xs ys : List Tag) → xs ≡ ys → (ts : List Turn) → Every (StillStands m xs ys) ts
  still_none xs ys e ts = every_all (StillStands m xs ys) (λ t x h. subst (λ l. m.stands x t.slot (target m l)) e h) ts

  pub hand_of : (n : ℕ) (a b : Me (Option S) Told) (t : Took m n a b) → (x : S) × (b.1 ≡ (n, Some x) ∷ rest b.1)
  hand_of n a b t = (t.value, t.holds ∙ ap (λ l. (n, Some t.value) ∷ l) (sym (ap rest t.holds)))

  pub took_out : (n : ℕ) (x : S) (a b c : Me (Option S) Told) (t : Took m n a b) → b.1 ≡ (n, Some x) ∷ rest b.1 → c ≡ (b.0, (n, None) ∷ rest b.1) → TookOut m n x a c
  took_out n x a b c t v w =
      let same : t.value ≡ x = some_is (ap value_of (sym t.holds ∙ v)) in
      let known : c.0.known ≡ b.0.known = ap (λ (z : Me (Option S) Told). z.0.known) w in record {
        more = t.rest;
        told = w ∙ λ i. (t.told i, (n, None) ∷ ap rest t.holds i);
        stands_for = subst (λ l. m.stands x n (target m l)) (sym known) (subst (λ y. m.stands y n (target m b.0.known)) same t.stands_for);
        others = subst (λ l. Every (StillStands m a.0.known l) a.0.view.turns) (sym known) t.others;
      }

  pub stopped_first : (slots : List ℕ) (i word : ℕ) (a b : Me (Option S) Told) → i < length slots → word ≢ 0 → b ≡ lost (get_or slots i 0) word a → Stopped m slots a b
  stopped_first slots i word a b near busy e = record {
    slot = get_or slots i 0;
    word = word;
    one_of = (i, near, refl);
    taken = busy;
    more = [];
    looked = [];
    still = still_none a.0.known b.0.known (sym (ap (λ (z : Me (Option S) Told). z.0.known) e)) a.0.view.turns;
    told = e ∙ λ z. (record a.0 { known = nil_right a.0.known z; found = (at (TurnOf (get_or slots i 0)), word) ∷ a.0.found }, a.1);
  }

  pub ran_last : (tag : Tag) (h : Hold) (a b : Me (Option S) Told) (place serial : ℕ) → Executed m tag h a.0 b.0 place serial → b.1 ≡ a.1 → Ran m tag h a b place serial
  ran_last tag h a b place serial e hand = record { between = e.between; looked = []; place_is = e.place_is; legal = e.legal; takes = e.takes; still = e.still; told = λ i. (e.told i, hand i) }

  module _ (n : ℕ) (x : S) (a b c : Me (Option S) Told) (t : TookOut m n x a b) where
    turns_b : b.0.view.turns ≡ turn_of n ∷ a.0.view.turns
    turns_b = ap (λ (z : Me (Option S) Told). z.0.view.turns) t.told

    known_b : b.0.known ≡ a.0.known ++ t.more
    known_b = ap (λ (z : Me (Option S) Told). z.0.known) t.told

    chain : (end : List Tag) → Every (StillStands m b.0.known end) b.0.view.turns → Every (StillStands m a.0.known end) a.0.view.turns
    chain end inner = both_every {P = StillStands m a.0.known b.0.known} {Q = StillStands m b.0.known end} {R = StillStands m a.0.known end} (λ y p q z h. q z (p z h)) a.0.view.turns t.others (subst (Every (StillStands m b.0.known end)) turns_b inner).1

    mine_stands : (end : List Tag) → Every (StillStands m b.0.known end) b.0.view.turns → m.stands x n (target m end)
    mine_stands end inner = (subst (Every (StillStands m b.0.known end)) turns_b inner).0 x t.stands_for

    -- the inner part stopped
    module _ (slots : List ℕ) (s : Stopped m slots b c) where
      abbrev after_stop : Me (Option S) Told → Me (Option S) Told
      after_stop z = (record z.0 { known = z.0.known ++ s.more; found = (at (TurnOf s.slot), s.word) ∷ (s.looked ++ z.0.found) }, z.1)

      c_is : c ≡ after_stop (out n t.more a)
      c_is = s.told ∙ ap after_stop t.told

      pub stop_turn : Some_where (is_home_slot n) c.0.view.turns
      stop_turn = (turn_of n, ap (λ (z : Me (Option S) Told). first (is_home_slot n) z.0.view.turns) c_is ∙ head_home n a.0.view.turns)

      pub stop_empty : c.1 ≡ (n, None) ∷ rest c.1
      stop_empty = let h : c.1 ≡ (n, None) ∷ a.1 = ap (λ (z : Me (Option S) Told). z.1) c_is in h ∙ ap (λ l. (n, None) ∷ l) (sym (ap rest h))

      pub stop_stands : m.stands x n (target m c.0.known)
      stop_stands = mine_stands c.0.known s.still

      pub stopped_next : (d : Me (Option S) Told) → d ≡ given n c → Stopped m slots a d
      stopped_next d back = record {
        slot = s.slot;
        word = s.word;
        one_of = s.one_of;
        taken = s.taken;
        more = t.more ++ s.more;
        looked = s.looked ++ (at (TurnOf n), 0) ∷ [];
        still = subst (λ l. Every (StillStands m a.0.known l) a.0.view.turns) (sym (ap (λ (z : Me (Option S) Told). z.0.known) back)) (chain c.0.known s.still);
        told = back ∙ (ap (given n) c_is ∙ λ i. (record a.0 { view = record a.0.view { turns = head_out n a.0.view.turns i }; known = append_assoc a.0.known t.more s.more i; found = (at (TurnOf s.slot), s.word) ∷ sym (append_assoc s.looked ((at (TurnOf n), 0) ∷ []) a.0.found) i }, a.1));
      }

    -- the inner part ran
    module _ (tag : Tag) (h : Hold) (place serial : ℕ) (r : Ran m tag h b c place serial) where
      abbrev after_run : Me (Option S) Told → Me (Option S) Told
      after_run z = (
        record z.0 {
          view = record z.0.view { left = z.0.view.left - 1; seen = place + 1; entries = executed place serial tag h.place ∷ z.0.view.entries; holds = change (is_least (is_held tag h.disk) z.0.view.holds) (λ y. record y { executed = true }) z.0.view.holds };
          known = (z.0.known ++ r.between) ++ tag ∷ [];
          found = r.looked ++ z.0.found;
        },
        z.1,
      )

      ran_is : c ≡ after_run (out n t.more a)
      ran_is = r.told ∙ ap after_run t.told

      pub ran_turn : Some_where (is_home_slot n) c.0.view.turns
      ran_turn = (turn_of n, ap (λ (z : Me (Option S) Told). first (is_home_slot n) z.0.view.turns) ran_is ∙ head_home n a.0.view.turns)

      pub ran_empty : c.1 ≡ (n, None) ∷ rest c.1
      ran_empty = let e : c.1 ≡ (n, None) ∷ a.1 = ap (λ (z : Me (Option S) Told). z.1) ran_is in e ∙ ap (λ l. (n, None) ∷ l) (sym (ap rest e))

      pub ran_stands : (y : S) → ((log : List Tag) → Legal m log → m.stands x n (target m log) → first (λ (z : Tag × ℕ). is_named tag z.0) (m.commands (target m log)) ≡ Some (h.call, h.disk) → m.stands y n (m.next (target m log) tag)) → m.stands y n (target m c.0.known)
      ran_stands y does = let log : List Tag = b.0.known ++ r.between in
          let legal : Legal m (log ++ tag ∷ []) = subst (λ l. Legal m l) (ap (λ (z : Me (Option S) Told). z.0.known) r.told) r.legal in
          subst (λ l. m.stands y n (target m l)) (sym (ap (λ (z : Me (Option S) Told). z.0.known) r.told))
          (subst (m.stands y n) (sym (target_snoc m log tag)) (does log (legal_start m.start log (tag ∷ []) legal) (mine_stands log r.still) r.takes))

      pub ran_next : (d : Me (Option S) Told) → d ≡ given n c → Ran m tag h a d place serial
      ran_next d back = let grown : b.0.known ++ r.between ≡ a.0.known ++ (t.more ++ r.between) = ap (λ l. l ++ r.between) known_b ∙ append_assoc a.0.known t.more r.between in record {
        between = t.more ++ r.between;
        looked = r.looked ++ (at (TurnOf n), 0) ∷ [];
        place_is = ap length (sym grown) ∙ r.place_is;
        legal = subst (λ l. Legal m l) (sym (ap (λ (z : Me (Option S) Told). z.0.known) back)) r.legal;
        takes = subst (λ l. first (λ (y : Tag × ℕ). is_named tag y.0) (m.commands (target m l)) ≡ Some (h.call, h.disk)) grown r.takes;
        still = subst (λ l. Every (StillStands m a.0.known l) a.0.view.turns) grown (chain (b.0.known ++ r.between) r.still);
        told = back ∙ (ap (given n) ran_is ∙ λ i. (
          record (after_run a).0 {
            view = record (after_run a).0.view { turns = head_out n a.0.view.turns i };
            known = append_assoc a.0.known t.more r.between i ++ tag ∷ [];
            found = sym (append_assoc r.looked ((at (TurnOf n), 0) ∷ []) a.0.found) i;
          },
          a.1,
        ));
      }
