-- A run that was made again up to a place.
use Rattle.std.proofs.Common.{◌≡◌, ◌≢◌, ◌≤◌, ◌<◌, ℕ, zero, suc, ◌+◌, Bool, true, false, IsTrue, eqb, ltb, List, [], ◌∷◌, ◌++◌, length, take, drop, Option, Some, slice_get, refl, sym, ap, subst, ◌∙◌, arith, true≢false, eq-eqb, eqb-true, ltb-true, ltb-false, lt-ltb, take-append-drop, inl}
use Rattle.std.proofs.lemmas.List.{append-nil}
use Rattle.std.proofs.lemmas.List.Elements.{filter-append}
use Rattle.tree_target.specs.Model.{Call, Entry, Target}
use Rattle.tree_target.specs.Kept.{Kept}
use Rattle.tree_target.specs.Steps.{is_lawful, target_after}
use Rattle.tree_target.specs.Legal.{after}
use Rattle.tree_target.specs.Stands.{StandsFor}
use Rattle.run_transcript.specs.Runs.{Placed, Run, callers, target_at, target_after_all, calls_of}
use Rattle.run_verdicts.specs.declared.verdict.Field.{Field}
use Rattle.run_verdicts.specs.declared.verdict.Field.TheVariants as field
use Rattle.run_verdicts.specs.Nexts.{below, next_of, front_of, earlier, is_final_of, AreAllBelow}
use Rattle.run_verdicts.specs.Faults.{InOrder, Agrees, IsOtherwise, IsFault, is_drain_end}
use Rattle.run_verdicts.proofs.Laying.{all, stand, stand-in, stand-append, stand-cons, stand-one, one-of, one-caller, comes-only, at-place, wanted-most, wanted-no, not-some}
use Rattle.run_verdicts.proofs.History.{IsAt, get-history}
use Rattle.check_records.specs.Steps.{Steps, Goes, Departs}
use Rattle.check_records.specs.Seats.{AreLow, AreHigh, IsCut, Laid}

-- the next entry of a caller stands at the place
pub record Here (run : Run) (idx : ℕ → ℕ) (i c : ℕ) (list : List Placed) (e : Placed) : Type 0 where
  pub is_list : slice_get (callers run) c ≡ Some list
  pub at : slice_get list (idx c) ≡ Some e
  pub place : e.place ≡ i

-- ---- lists
pub split-at : (list : List Placed) (k : ℕ) (e : Placed) → slice_get list k ≡ Some e → list ≡ take k list ++ e ∷ drop (suc k) list
split-at [] k e at = absurd (not-some e at)
split-at (x ∷ list) zero e at = let is : x ≡ e = cc in ap (λ (y : Placed). y ∷ list) is
split-at (x ∷ list) (suc k) e at = ap (λ (l : List Placed). x ∷ l) (split-at list k e at)

take-push : (list : List Placed) (k : ℕ) (e : Placed) → slice_get list k ≡ Some e → take (suc k) list ≡ take k list ++ e ∷ []
take-push [] k e at = absurd (not-some e at)
take-push (x ∷ list) zero e at = let is : x ≡ e = cc in ap (λ (y : Placed). y ∷ []) is
take-push (x ∷ list) (suc k) e at = ap (λ (l : List Placed). x ∷ l) (take-push list k e at)

drop-at : (list : List Placed) (k : ℕ) (e : Placed) → slice_get list k ≡ Some e → drop k list ≡ e ∷ drop (suc k) list
drop-at [] k e at = absurd (not-some e at)
drop-at (x ∷ list) zero e at = let is : x ≡ e = cc in ap (λ (y : Placed). y ∷ list) is
drop-at (x ∷ list) (suc k) e at = drop-at list k e at

at-drop : (list : List Placed) (k : ℕ) (e : Placed) (rest : List Placed) → drop k list ≡ e ∷ rest → slice_get list k ≡ Some e
at-drop [] zero e rest h = absurd cc
at-drop [] (suc k) e rest h = absurd cc
at-drop (x ∷ list) zero e rest h = let is : x ≡ e = cc in ap (λ (y : Placed). Some y) is
at-drop (x ∷ list) (suc k) e rest h = at-drop list k e rest h

tail-is : (x : Placed) (xs ys : List Placed) → x ∷ xs ≡ x ∷ ys → xs ≡ ys
tail-is x xs ys h = cc

cancel : (front xs ys : List Placed) → front ++ xs ≡ front ++ ys → xs ≡ ys
cancel [] xs ys h = h
cancel (x ∷ front) xs ys h = cancel front xs ys (tail-is x _ _ h)

take-entry : (h : List Entry) (k : ℕ) (e : Entry) → slice_get h k ≡ Some e → take (suc k) h ≡ take k h ++ e ∷ []
take-entry [] k e at = absurd (not-some e at)
take-entry (x ∷ h) zero e at = let is : x ≡ e = cc in ap (λ (y : Entry). y ∷ []) is
take-entry (x ∷ h) (suc k) e at = ap (λ (l : List Entry). x ∷ l) (take-entry h k e at)

below-low : (i : ℕ) (list : List Placed) → AreLow i list → below i list ≡ list
below-low i [] low = refl
below-low i (e ∷ list) low = let t : ltb e.place i ≡ true = lt-ltb e.place i low.0 in rw (t, below-low i list low.1) refl

below-high : (i : ℕ) (list : List Placed) → AreHigh i list → below i list ≡ []
below-high i [] high = refl
below-high i (e ∷ list) high = let f : ltb e.place i ≡ false = grind (arith, high.0) in rw (f, below-high i list high.1) refl

below-is : (i : ℕ) (front rest : List Placed) → AreLow i front → AreHigh i rest → below i (front ++ rest) ≡ front
below-is i front rest low high = rw (filter-append, below-low i front low, below-high i rest high) (append-nil front)

-- ---- at the place
below-here : (n i : ℕ) (run : Run) (idx : ℕ → ℕ) → Laid n i run idx → (c : ℕ) (list : List Placed) → slice_get (callers run) c ≡ Some list
    → below i list ≡ take (idx c) list
below-here n i run idx laid c list is_list =
    let cut = laid.cut c list is_list in
    ap (below i) (sym (take-append-drop (idx c) list)) ∙ below-is i (take (idx c) list) (drop (idx c) list) cut.low cut.high

-- what is said of the caller's next entry
pub record Says (run : Run) (idx : ℕ → ℕ) (i c : ℕ) (list : List Placed) : Type 0 where
  pub turn : length (take (idx c) list) < front_of run c → i ≡ earlier run c + length (take (idx c) list)
  pub last : is_final_of run c (take (idx c) list) ≡ true → AreAllBelow run i

abbrev pub next_here : Run → (ℕ → ℕ) → ℕ → ℕ → List Placed → Option Call
next_here run idx i c list = next_of run (target_at run i) c (take (idx c) list)

in-order : (n i : ℕ) (run : Run) (idx : ℕ → ℕ) → Laid n i run idx → (c : ℕ) (list : List Placed) (e : Placed) → Here run idx i c list e
    → Says run idx i c list → next_here run idx i c list ≡ Some e.entry.call
    → (is_drain_end e.entry.call ≡ false → IsTrue (is_lawful (target_at run i) e.entry.call)) → InOrder run i e
in-order n i run idx laid c list e here says owed lawful =
    let front : take (idx c) list ≡ below i list = sym (below-here n i run idx laid c list here.is_list) in
    record {
      caller = c;
      list = list;
      is_list = here.is_list;
      comes = record {
        rest = drop (suc (idx c)) list;
        follows = split-at list (idx c) e here.at ∙ ap (λ (l : List Placed). l ++ e ∷ drop (suc (idx c)) list) front;
        place = here.place;
      };
      owed = subst (λ (l : List Placed). next_of run (target_at run i) c l ≡ Some e.entry.call) front owed;
      turn = subst (λ (l : List Placed). length l < front_of run c → i ≡ earlier run c + length l) front says.turn;
      last = subst (λ (l : List Placed). is_final_of run c l ≡ true → AreAllBelow run i) front says.last;
      lawful = lawful;
    }

-- nothing else than the caller's next entry can be in order
pub order-not : (n i : ℕ) (run : Run) (idx : ℕ → ℕ) → Laid n i run idx → (c : ℕ) (list : List Placed) (e : Placed) → Here run idx i c list e
    → (next_here run idx i c list ≡ Some e.entry.call → Says run idx i c list → ⊥) → (x : Placed) → InOrder run i x → ⊥
order-not n i run idx laid c list e here refute x o =
    let once : stand i (all (callers run)) ≤ 1 = omega (arith, laid.places i, wanted-most n i) in
    let one = comes-only (callers run) i o.caller c o.list list (take (idx c) list) x e (drop (suc (idx c)) list) once o.is_list here.is_list (split-at list (idx c) e here.at) here.place o.comes in
    let owed : next_of run (target_at run i) o.caller (take (idx c) list) ≡ Some x.entry.call =
    subst (λ (l : List Placed). next_of run (target_at run i) o.caller l ≡ Some x.entry.call) one.fronts o.owed in
    let turn : length (take (idx c) list) < front_of run o.caller → i ≡ earlier run o.caller + length (take (idx c) list) =
    subst (λ (l : List Placed). length l < front_of run o.caller → i ≡ earlier run o.caller + length l) one.fronts o.turn in
    let last : is_final_of run o.caller (take (idx c) list) ≡ true → AreAllBelow run i =
    subst (λ (l : List Placed). is_final_of run o.caller l ≡ true → AreAllBelow run i) one.fronts o.last in
    refute
    (subst (λ (y : Placed). next_here run idx i c list ≡ Some y.entry.call) one.entries
    (subst (λ (q : ℕ). next_of run (target_at run i) q (take (idx c) list) ≡ Some x.entry.call) one.callers owed))
    (record {
      turn = subst (λ (q : ℕ). length (take (idx c) list) < front_of run q → i ≡ earlier run q + length (take (idx c) list)) one.callers turn;
      last = subst (λ (q : ℕ). is_final_of run q (take (idx c) list) ≡ true → AreAllBelow run i) one.callers last;
    })

-- where no caller's next entry has the place
pub nobody : (n i : ℕ) (run : Run) (idx : ℕ → ℕ) → Laid n i run idx
    → ((c : ℕ) (list : List Placed) (e : Placed) → Here run idx i c list e → ⊥) → (x : Placed) → InOrder run i x → ⊥
nobody n i run idx laid none x o =
    let k = idx o.caller in
    let front = below-here n i run idx laid o.caller o.list o.is_list in
    let both : take k o.list ++ drop k o.list ≡ take k o.list ++ x ∷ o.comes.rest =
    take-append-drop k o.list ∙ o.comes.follows ∙ ap (λ (l : List Placed). l ++ x ∷ o.comes.rest) front in
    none o.caller o.list x (record {
      is_list = o.is_list;
      at = at-drop o.list k x o.comes.rest (cancel (take k o.list) _ _ both);
      place = o.comes.place;
    })

-- ---- a fault
pub fault-order : (n i : ℕ) (run : Run) (idx : ℕ → ℕ) → Laid n i run idx → i < n → ((x : Placed) → InOrder run i x → ⊥) → IsFault n run i field.Order
fault-order n i run idx laid lt none = (laid.agree, inl (lt, none))

lawful-any : (b d : Bool) → d ≡ true → d ≡ false → IsTrue b
lawful-any b d t f = absurd (true≢false (sym t ∙ f))

otherwise : (n i : ℕ) (run : Run) (idx : ℕ → ℕ) → Laid n i run idx → (c : ℕ) (list : List Placed) (e : Placed) → Here run idx i c list e
    → Says run idx i c list → (f : Field) → Departs (next_here run idx i c list) (target_at run i) e.entry f → IsOtherwise run i f
otherwise n i run idx laid c list e here says f d = record {
  entry = e;
  in_order = in-order n i run idx laid c list e here says d.owed (λ other. d.lawful);
  lawful = d.lawful;
  differs = d.differs;
}

pub fault : (n i : ℕ) (run : Run) (idx : ℕ → ℕ) → Laid n i run idx → i < n → (c : ℕ) (list : List Placed) (e : Placed) → Here run idx i c list e
    → Says run idx i c list → (f : Field) (new : Kept) → Steps (next_here run idx i c list) (target_at run i) e.entry (Some f) new → IsFault n run i f
fault n i run idx laid lt c list e here says field.Place new s = absurd s
fault n i run idx laid lt c list e here says field.Order new s = fault-order n i run idx laid lt (order-not n i run idx laid c list e here (λ owed _says. s owed))
fault n i run idx laid lt c list e here says field.Answer new s = (laid.agree, lt, otherwise n i run idx laid c list e here says field.Answer s)
fault n i run idx laid lt c list e here says field.Completion new s = (laid.agree, lt, otherwise n i run idx laid c list e here says field.Completion s)
fault n i run idx laid lt c list e here says field.Bytes new s = (laid.agree, lt, otherwise n i run idx laid c list e here says field.Bytes s)
fault n i run idx laid lt c list e here says field.Errno new s = (laid.agree, lt, otherwise n i run idx laid c list e here says field.Errno s)
fault n i run idx laid lt c list e here says field.Drain new s = (
  laid.agree,
  lt,
  record {
    entry = e;
    in_order = in-order n i run idx laid c list e here says s.owed (lawful-any (is_lawful (target_at run i) e.entry.call) (is_drain_end e.entry.call) s.drain);
    unlawful = s.unlawful;
  },
)

-- ---- one place more
low-more : (i : ℕ) (list : List Placed) → AreLow i list → AreLow (i + 1) list
low-more i [] low = tt
low-more i (e ∷ list) low = (omega (arith, low.0), low-more i list low.1)

low-push : (i : ℕ) (list : List Placed) (e : Placed) → AreLow i list → e.place < i → AreLow i (list ++ e ∷ [])
low-push i [] e low lt = (lt, tt)
low-push i (x ∷ list) e low lt = (low.0, low-push i list e low.1 lt)

high-more : (i : ℕ) (list : List Placed) → AreHigh i list → stand i list ≡ 0 → AreHigh (i + 1) list
high-more i [] high none = tt
high-more i (e ∷ list) high none =
    (by-test (eqb e.place i) refl, high-more i list high.1 (omega (arith, stand-cons i e list, none))) where
      by-test : (b : Bool) → eqb e.place i ≡ b → i + 1 ≤ e.place
      by-test true t = absurd (omega (arith, stand-cons i e list, none, stand-one i e (eqb-true e.place i t)))
      by-test false f = let other : e.place ≢ i = λ is. true≢false (sym (eq-eqb e.place i is) ∙ f) in omega (arith, high.0, other)

-- the callers' indices, of which one has gone on
pub record GoesOn (idx idx' : ℕ → ℕ) (c : ℕ) : Type 0 where
  pub mine : idx' c ≡ suc (idx c)
  pub others : (q : ℕ) → q ≢ c → idx' q ≡ idx q

cut-more : (n i : ℕ) (run : Run) (idx idx' : ℕ → ℕ) → Laid n i run idx → (c : ℕ) (list : List Placed) (e : Placed) → Here run idx i c list e
    → GoesOn idx idx' c → (q : ℕ) (l : List Placed) → slice_get (callers run) q ≡ Some l → IsCut (i + 1) (take (idx' q) l) (drop (idx' q) l)
cut-more n i run idx idx' laid c list e here on q l is_l = by-caller (eqb q c) refl where
  once : stand i (all (callers run)) ≤ 1
  once = omega (arith, laid.places i, wanted-most n i)

  sums : stand i list ≡ stand i (take (idx c) list) + (1 + stand i (drop (suc (idx c)) list))
  sums = ap (stand i) (split-at list (idx c) e here.at) ∙ stand-in i (take (idx c) list) e (drop (suc (idx c)) list) here.place

  few : stand i list ≤ 1
  few = omega (arith, once, one-of (callers run) i c list here.is_list)

  mine : IsCut (i + 1) (take (suc (idx c)) list) (drop (suc (idx c)) list)
  mine =
      let cut = laid.cut c list here.is_list in
      let low : AreLow (i + 1) (take (idx c) list ++ e ∷ []) = low-push (i + 1) (take (idx c) list) e (low-more i _ cut.low) (omega (arith, here.place)) in
      let high : AreHigh i (e ∷ drop (suc (idx c)) list) = subst (λ (x : List Placed). AreHigh i x) (drop-at list (idx c) e here.at) cut.high in
      record {
        low = subst (λ (x : List Placed). AreLow (i + 1) x) (sym (take-push list (idx c) e here.at)) low;
        high = high-more i (drop (suc (idx c)) list) high.1 (omega (arith, sums, few));
      }

  by-caller : (b : Bool) → eqb q c ≡ b → IsCut (i + 1) (take (idx' q) l) (drop (idx' q) l)
  by-caller true t =
      let same : q ≡ c = eqb-true q c t in
      let lists : list ≡ l = (let two : Some list ≡ Some l = sym here.is_list ∙ ap (slice_get (callers run)) (sym same) ∙ is_l in cc) in
      let k : suc (idx c) ≡ idx' q = sym on.mine ∙ ap idx' (sym same) in
      subst (λ (m : ℕ). IsCut (i + 1) (take m l) (drop m l)) k
      (subst (λ (x : List Placed). IsCut (i + 1) (take (suc (idx c)) x) (drop (suc (idx c)) x)) lists mine)
  by-caller false f =
      let other : q ≢ c = λ is. true≢false (sym (eq-eqb q c is) ∙ f) in
      let none : stand i l ≡ 0 = by-stand (ltb 0 (stand i l)) refl in
      let cut = laid.cut q l is_l in
      let rest : stand i (drop (idx q) l) ≡ 0 = omega (arith, none, ap (stand i) (sym (take-append-drop (idx q) l)), stand-append i (take (idx q) l) (drop (idx q) l)) in
      let here_cut : IsCut (i + 1) (take (idx q) l) (drop (idx q) l) = record {
        low = low-more i _ cut.low;
        high = high-more i _ cut.high rest;
      } in
      subst (λ (m : ℕ). IsCut (i + 1) (take m l) (drop m l)) (sym (on.others q other)) here_cut where
        by-stand : (b : Bool) → ltb 0 (stand i l) ≡ b → stand i l ≡ 0
        by-stand true t =
            let other : q ≢ c = λ is. true≢false (sym (eq-eqb q c is) ∙ f) in
            absurd (other (one-caller (callers run) i q c l list once is_l here.is_list (omega (arith, ltb-true 0 (stand i l) t)) (omega (arith, sums))))
        by-stand false g = omega (arith, ltb-false 0 (stand i l) g)

after-one : (t : Target) (xs : List Entry) (e : Entry) → after t (calls_of (xs ++ e ∷ [])) ≡ target_after (after t (calls_of xs)) e.call
after-one t [] e = refl
after-one t (x ∷ xs) e = after-one (target_after t x.call) xs e

pub target-more : (n i : ℕ) (run : Run) (idx : ℕ → ℕ) → Laid n i run idx → i < n → (c : ℕ) (list : List Placed) (e : Placed) → Here run idx i c list e
    → target_at run (i + 1) ≡ target_after (target_at run i) e.entry.call
target-more n i run idx laid lt c list e here =
    let lists : List (List Placed) = callers run in
    let once : stand i (all lists) ≤ 1 = omega (arith, laid.places i, wanted-most n i) in
    let split = split-at list (idx c) e here.at in
    let at : IsAt lists i = record {
      among = record { caller = c; list = list; is_list = here.is_list; at = record { front = take (idx c) list; entry = e; rest = drop (suc (idx c)) list; is = split; place = here.place } };
      alone = at-place lists i c list (take (idx c) list) e (drop (suc (idx c)) list) here.is_list split here.place once;
    } in
    let get : slice_get run.history i ≡ Some e.entry = ap (λ (h : List Entry). slice_get h i) laid.history_is ∙ get-history n lists laid.places i at n lt (omega arith) in
    let up : i + 1 ≡ suc i = omega arith in
    ap (λ (k : ℕ). target_at run k) up
    ∙ ap (λ (h : List Entry). after run.start (calls_of h)) (take-entry run.history i e.entry get)
    ∙ after-one run.start (take i run.history) e.entry

pub laid-more : (n i : ℕ) (run : Run) (idx idx' : ℕ → ℕ) → Laid n i run idx → (c : ℕ) (list : List Placed) (e : Placed) → Here run idx i c list e
    → Says run idx i c list → (new : Kept) → Goes (next_here run idx i c list) (target_at run i) e.entry new → GoesOn idx idx' c → Laid n (i + 1) run idx'
laid-more n i run idx idx' laid c list e here says new g on = record {
  places = laid.places;
  history_is = laid.history_is;
  cut = cut-more n i run idx idx' laid c list e here on;
  agree = record { places = laid.agree.places; below = λ k low. by-place k low (ltb k i) refl };
} where
  this : Agrees run i
  this = record {
    entry = e;
    in_order = in-order n i run idx laid c list e here says g.owed (λ other. g.lawful);
    lawful = g.lawful;
    is = g.is;
  }

  by-place : (k : ℕ) → k < i + 1 → (b : Bool) → ltb k i ≡ b → Agrees run k
  by-place k low true t = laid.agree.below k (ltb-true k i t)
  by-place k low false f = let same : i ≡ k = omega (arith, ltb-false k i f, low) in subst (λ (p : ℕ). Agrees run p) same this

pub stands-more : (n i : ℕ) (run : Run) (idx : ℕ → ℕ) → Laid n i run idx → i < n → (c : ℕ) (list : List Placed) (e : Placed) → Here run idx i c list e
    → (new : Kept) → Goes (next_here run idx i c list) (target_at run i) e.entry new → StandsFor new (target_at run (i + 1))
stands-more n i run idx laid lt c list e here new g =
    subst (λ (t : Target). StandsFor new t) (sym (target-more n i run idx laid lt c list e here)) g.stands

-- ---- at the end
whole-list : (n : ℕ) (list : List Placed) (k : ℕ) → AreHigh n (drop k list) → ((p : ℕ) → n ≤ p → stand p list ≡ 0) → take k list ≡ list
whole-list n list k high none = by-rest (drop k list) refl where
  by-rest : (rest : List Placed) → drop k list ≡ rest → take k list ≡ list
  by-rest [] is = sym (append-nil (take k list)) ∙ ap (λ (l : List Placed). take k list ++ l) (sym is) ∙ take-append-drop k list
  by-rest (e ∷ rest) is =
      let split = split-at list k e (at-drop list k e rest is) in
      let up : AreHigh n (e ∷ rest) = subst (λ (l : List Placed). AreHigh n l) is high in
      absurd (omega (arith, none e.place up.0, ap (stand e.place) split, stand-in e.place (take k list) e (drop (suc k) list) refl))

pub all-taken : (n : ℕ) (run : Run) (idx : ℕ → ℕ) → Laid n n run idx → (c : ℕ) (list : List Placed) → slice_get (callers run) c ≡ Some list → take (idx c) list ≡ list
all-taken n run idx laid c list is_list =
    whole-list n list (idx c) (laid.cut c list is_list).high (λ p le.
    omega (arith, one-of (callers run) p c list is_list, laid.places p, wanted-no n p le))

history-whole : (h : List Entry) (n : ℕ) → length h ≡ n → take n h ≡ h
history-whole [] zero len = refl
history-whole [] (suc n) len = absurd (omega (arith, len))
history-whole (x ∷ h) zero len = absurd (omega (arith, len))
history-whole (x ∷ h) (suc n) len = ap (λ (l : List Entry). x ∷ l) (history-whole h n (omega (arith, len)))

pub target-end : (n : ℕ) (run : Run) → length run.history ≡ n → target_after_all run ≡ target_at run n
target-end n run len = ap (λ (h : List Entry). after run.start (calls_of h)) (sym (history-whole run.history n len))
