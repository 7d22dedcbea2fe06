-- The seats of the queues at the start.
use Rattle.std.proofs.Common.{◌≡◌, ◌≢◌, ◌<◌, ℕ, zero, suc, ◌+◌, Bool, true, false, eqb, ltb, ltb-true, ltb-false, List, [], ◌∷◌, ◌++◌, length, take, drop, get_or, Option, Some, None, option_map, slice_get, refl, sym, ap, ap₂, subst, ◌∙◌, arith, eq-eqb}
use Rattle.std.proofs.lemmas.Option.{slice_get-map}
use Rattle.plan_files.specs.declared.capsules.Capsule as code
use Rattle.plan_files.specs.Capsules.{Capsule, capsules_in}
use Rattle.response_files.specs.Responses.{Response}
use Rattle.tree_target.specs.Kept.{Kept, IsIdle}
use Rattle.run_transcript.specs.declared.capsule_files.CapsuleFile.{CapsuleFile}
use Rattle.run_transcript.specs.Served.{front_len}
use Rattle.run_verdicts.specs.Nexts.{fronts_before}
use Rattle.check_records.specs.declared.cursor.Stage.{Stage}
use Rattle.check_records.specs.declared.cursor.Stage.TheVariants as stages
use Rattle.check_records.specs.declared.cursor.Cursor.{Cursor}
use Rattle.check_records.specs.declared.seats.Seat.{Seat}
use Rattle.run_transcript.specs.Turns.{nothing_done, progress_of}
use Rattle.check_records.specs.Cursors.{capsules_of, progress_at, stage_at, HoldsOwed}
use Rattle.check_records.specs.Told.{queue_told}
use Rattle.check_records.specs.Seats.{AreSeated, files_of}
use Rattle.run_check.specs.Pieces.{AreFirstSeats, IsFirstSeat}
use Rattle.run_check.proofs.Placing.{next_get}

-- ---- fronts
-- so many capsules are fabrics commands, and what comes behind them
abbrev pub FrontSoFar : List ℕ → List code.Capsule → ℕ → List code.Capsule → Type 0
FrontSoFar bytes all n left =
    front_len (capsules_in bytes all) ≡ n + front_len (capsules_in bytes left)

pub front_none : (bytes : List ℕ) (all : List code.Capsule) → FrontSoFar bytes all 0 all
front_none bytes all = omega arith

pub front_more : (bytes : List ℕ) (all left rest : List code.Capsule) (c : code.Capsule) (n : ℕ)
    → left ≡ c ∷ rest → c.sqe.opcode ≡ 127 → FrontSoFar bytes all n left
    → FrontSoFar bytes all (n + 1) rest
front_more bytes all left rest c n is op h =
    let t : eqb c.sqe.opcode 127 ≡ true = eq-eqb c.sqe.opcode 127 op in
    let e : front_len (capsules_in bytes (c ∷ rest)) ≡ 1 + front_len (capsules_in bytes rest) = rw t refl in
    let k : front_len (capsules_in bytes left) ≡ 1 + front_len (capsules_in bytes rest) =
    ap (λ (cs : List code.Capsule). front_len (capsules_in bytes cs)) is ∙ e in
    omega (arith, h, k)

-- at the next capsule of a loop
pub front_next : (bytes : List ℕ) (all : List code.Capsule) (i : ℕ) (d : code.Capsule)
    → i < length all → (get_or all i d).sqe.opcode ≡ 127 → FrontSoFar bytes all i (drop i all)
    → FrontSoFar bytes all (i + 1) (drop (i + 1) all)
front_next bytes all i d lt op h = front_more bytes all (drop i all) (drop (i + 1) all) (get_or all i d)
    i (next_get all i d lt) op h

other : (n : ℕ) → n ≢ 127 → eqb n 127 ≡ false
other n e = grind arith

pub front_ends : (bytes : List ℕ) (all left rest : List code.Capsule) (c : code.Capsule) (n : ℕ)
    → left ≡ c ∷ rest → c.sqe.opcode ≢ 127 → FrontSoFar bytes all n left
    → n ≡ front_len (capsules_in bytes all)
front_ends bytes all left rest c n is op h =
    let t : eqb c.sqe.opcode 127 ≡ false = other c.sqe.opcode op in
    let e : front_len (capsules_in bytes (c ∷ rest)) ≡ 0 = rw t refl in
    let k : front_len (capsules_in bytes left) ≡ 0 =
    ap (λ (cs : List code.Capsule). front_len (capsules_in bytes cs)) is ∙ e in
    omega (arith, h, k)

pub front_found : (bytes : List ℕ) (all : List code.Capsule) (i : ℕ) (d : code.Capsule)
    → i < length all → (get_or all i d).sqe.opcode ≢ 127 → FrontSoFar bytes all i (drop i all)
    → i ≡ front_len (capsules_in bytes all)
front_found bytes all i d lt op h = front_ends bytes all (drop i all) (drop (i + 1) all) (get_or all i d)
    i (next_get all i d lt) op h

pub front_all : (bytes : List ℕ) (all left : List code.Capsule) (n : ℕ) → left ≡ []
    → FrontSoFar bytes all n left → n ≡ front_len (capsules_in bytes all)
front_all bytes all left n is h =
    let k : front_len (capsules_in bytes left) ≡ 0 =
    ap (λ (cs : List code.Capsule). front_len (capsules_in bytes cs)) is in
    omega (arith, h, k)

-- ---- the fronts before
pub before_more : (files : List (List Capsule)) (q : ℕ) (file : List Capsule)
    → slice_get files q ≡ Some file
    → fronts_before (q + 1) files ≡ fronts_before q files + front_len file
before_more [] q file h = absurd cc
before_more (f ∷ files) zero file h =
    let is : f ≡ file = cc in
    let e : front_len f ≡ front_len file = ap front_len is in
    omega (arith, e)
before_more (f ∷ files) (suc q) file h =
    let up : suc q + 1 ≡ suc (q + 1) = omega arith in
    let more = before_more files q file h in
    ap (λ (n : ℕ). fronts_before n (f ∷ files)) up ∙ omega (arith, more)

-- ---- seats
-- the first seats, of the queues below i
abbrev pub SeatsSoFar : List CapsuleFile → ℕ → List Seat → Type 0
SeatsSoFar files i seats = (q : ℕ) (f : CapsuleFile) (s : Seat) → q < i
    → slice_get files q ≡ Some f → slice_get seats q ≡ Some s → IsFirstSeat files q f s

same-file : (a b : CapsuleFile) → Some a ≡ Some b → a ≡ b
same-file a b h = cc

same-seat : (a b : Seat) → Some a ≡ Some b → a ≡ b
same-seat a b h = cc

earlier-get : (seats : List Seat) (s : Seat) (q : ℕ) → q < length seats
    → slice_get (seats ++ s ∷ []) q ≡ slice_get seats q
earlier-get [] s q lt = absurd (omega (arith, lt))
earlier-get (x ∷ seats) s zero lt = refl
earlier-get (x ∷ seats) s (suc q) lt = earlier-get seats s q (omega (arith, lt))

last-get : (seats : List Seat) (s : Seat) → slice_get (seats ++ s ∷ []) (length seats) ≡ Some s
last-get [] s = refl
last-get (x ∷ seats) s = last-get seats s

pub seat_more : (files : List CapsuleFile) (i : ℕ) (seats : List Seat) (f : CapsuleFile) (s : Seat)
    → length seats ≡ i → slice_get files i ≡ Some f → IsFirstSeat files i f s
    → SeatsSoFar files i seats → SeatsSoFar files (i + 1) (seats ++ s ∷ [])
seat_more files i seats f s len at first so_far q g x lt hg hx = by-test (ltb q i) refl where
  by-test : (b : Bool) → ltb q i ≡ b → IsFirstSeat files q g x
  by-test true t =
      let less : q < i = ltb-true q i t in
      so_far q g x less hg (sym (earlier-get seats s q (omega (arith, less, len))) ∙ hx)
  by-test false t =
      let same : q ≡ i = omega (arith, ltb-false q i t, lt) in
      let file : f ≡ g = same-file f g (sym at ∙ ap (slice_get files) (sym same) ∙ hg) in
      let here : slice_get (seats ++ s ∷ []) q ≡ Some s =
      ap (slice_get (seats ++ s ∷ [])) (same ∙ sym len) ∙ last-get seats s in
      let seat : s ≡ x = same-seat s x (sym here ∙ hx) in
      subst (λ (m : ℕ). IsFirstSeat files m g x) (sym same)
      (subst (λ (y : Seat). IsFirstSeat files i g y) seat
      (subst (λ (y : CapsuleFile). IsFirstSeat files i y s) file first))

-- ---- at a target where nothing is held
file-of : (files : List CapsuleFile) (q : ℕ) (file : List Capsule) (o : Option CapsuleFile)
    → slice_get files q ≡ o → slice_get (files_of files) q ≡ Some file
    → (f : CapsuleFile) × (slice_get files q ≡ Some f) × (capsules_of f ≡ file)
file-of files q file None is h =
    absurd (none (sym (slice_get-map capsules_of files q
    ∙ ap (λ (o : Option CapsuleFile). option_map capsules_of o) is) ∙ h)) where
      none : ◌≡◌ {A = Option (List Capsule)} None (Some file) → ⊥
      none h = absurd cc
file-of files q file (Some f) is h = (
  f,
  is,
  some (sym (slice_get-map capsules_of files q
      ∙ ap (λ (o : Option CapsuleFile). option_map capsules_of o) is) ∙ h),
) where
  some : Some (capsules_of f) ≡ Some file → capsules_of f ≡ file
  some h = cc

holds-idle : (k : Kept) (queue n : ℕ) (c : Capsule) (s : Stage) → s ≡ stages.Ready
    → IsIdle k queue → HoldsOwed s k queue n c
holds-idle k queue n c s is idle =
    subst (λ (x : Stage). HoldsOwed x k queue n c) (sym is) idle

at_start : (c : Cursor) → c.taken ≡ 0 → c.stage ≡ stages.Ready → progress_at c ≡ nothing_done
at_start c t s = ap₂ (λ (n : ℕ) (x : Stage). record { taken = n; stage = stage_at x }) t s

pub are_seated : (k : Kept) (files : List CapsuleFile) (responses : List (List Response))
    (seats : List Seat) → ((queue : ℕ) → IsIdle k queue) → AreFirstSeats files seats
    → AreSeated k (files_of files) responses seats
are_seated k files responses seats idle first q file rs s hf hr hs =
    let got = file-of files q file (slice_get files q) refl hf in
    let is = first q got.0 s got.1 hs in
    record {
      ready = record {
        in_file = record {
          inside = omega (arith, is.taken);
          some = λ holding. absurd (apart (sym is.stage ∙ holding));
        };
        holds = holds-idle k (suc q) _ _ s.cursor.stage is.stage (idle (suc q));
      };
      progress = subst (λ (n : ℕ). progress_at s.cursor
          ≡ progress_of (take n (queue_told (suc q) file rs))) (sym is.next)
          (at_start s.cursor is.taken is.stage);
      front = is.front ∙ ap front_len got.2;
      earlier = is.earlier;
    } where
      apart : stages.Ready ≡ stages.Holding → ⊥
      apart h = absurd cc
