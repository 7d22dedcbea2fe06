-- The capsules of a file, one by one.
use Rattle.std.proofs.Common.{◌≡◌, ◌≢◌, ◌≤◌, ◌<◌, ℕ, zero, suc, ◌+◌, true, false, eqb, List, [], ◌∷◌, length, get_or, take, drop, slice_get, Some, refl, sym, ap, subst, ◌∙◌, arith}
use Rattle.std.proofs.Math.Seq.{drop-cons}
use Rattle.std.proofs.lemmas.List.{length-map}
use Rattle.std.specs.List.{sum_by}
use Rattle.std.proofs.lemmas.List.Sums.{sum_by-append}
use Rattle.plan_files.specs.declared.capsules.Capsule as code
use Rattle.plan_files.specs.Capsules.{Capsule, capsule_in, capsules_in}
use Rattle.plan_files.specs.Rooms.{capsule_room}
use Rattle.run_transcript.specs.declared.capsule_files.CapsuleFile.{CapsuleFile}
use Rattle.run_transcript.specs.Served.{front_len}
use Rattle.tree_target.specs.Kept.{Kept}
use Rattle.tree_target.specs.Model.{Target}
use Rattle.run_transcript.specs.Turns.{Progress}
use Rattle.run_serving.specs.declared.output.Output.{Output}
use Rattle.run_serving.specs.Goes.{IsSettled, HasTaken, HasNothing, HasFront, HasAll, Makes, ServesOne}
use Rattle.run_serving.proofs.Making.{makes_none, makes_both, makes_by, makes_from}
use Rattle.run_serving.proofs.Nexts.{settled_ready}
use Rattle.run_serving.specs.Readiness.{IsReadyAt, opcode_at}

-- ---- the front
front_cons : (c : Capsule) (file : List Capsule) → eqb c.entry.opcode 127 ≡ true
    → front_len (c ∷ file) ≡ 1 + front_len file
front_cons c file op = rw op refl

front_none : (c : Capsule) (file : List Capsule) → eqb c.entry.opcode 127 ≡ false
    → front_len (c ∷ file) ≡ 0
front_none c file op = rw op refl

same_opcode : (n : ℕ) → n ≡ 127 → eqb n 127 ≡ true
same_opcode n e = rw e refl

other_opcode : (n : ℕ) → n ≢ 127 → eqb n 127 ≡ false
other_opcode n e = grind arith

-- all are fabrics commands before n, and the one there, if any, is none
pub front_is : (bytes : List ℕ) (cs : List code.Capsule) (n : ℕ) → n ≤ length cs
    → ((k : ℕ) → k < n → opcode_at cs k ≡ 127) → (n < length cs → opcode_at cs n ≢ 127)
    → front_len (capsules_in bytes cs) ≡ n
front_is bytes [] n le before here = omega arith
front_is bytes (c ∷ cs) zero le before here =
    front_none (capsule_in bytes c) (capsules_in bytes cs) (other_opcode c.sqe.opcode
    (here (omega arith)))
front_is bytes (c ∷ cs) (suc n) le before here =
    front_cons (capsule_in bytes c) (capsules_in bytes cs) (same_opcode c.sqe.opcode
    (before 0 (omega arith)))
    ∙ ap (λ m. 1 + m) (front_is bytes cs n (omega arith) (λ k lt. before (suc k) (omega arith))
    (λ lt. here (omega arith)))
    ∙ omega arith

pub opcode-get : (cs : List code.Capsule) (n : ℕ) (d : code.Capsule) → n < length cs
    → opcode_at cs n ≡ (get_or cs n d).sqe.opcode
opcode-get [] n d lt = absurd (omega arith)
opcode-get (c ∷ cs) zero d lt = refl
opcode-get (c ∷ cs) (suc n) d lt = opcode-get cs n d (omega arith)

-- ---- one capsule
pub capsule-at : (bytes : List ℕ) (cs : List code.Capsule) (n : ℕ) (d : code.Capsule)
    → n < length cs → slice_get (capsules_in bytes cs) n ≡ Some (capsule_in bytes (get_or cs n d))
capsule-at bytes [] n d lt = absurd (omega arith)
capsule-at bytes (c ∷ cs) zero d lt = refl
capsule-at bytes (c ∷ cs) (suc n) d lt = capsule-at bytes cs n d (omega arith)

pub capsules-len : (bytes : List ℕ) (cs : List code.Capsule)
    → length (capsules_in bytes cs) ≡ length cs
capsules-len bytes cs = length-map cs (capsule_in bytes)

-- ---- room
sum-cons : (f : code.Capsule → ℕ) (c : code.Capsule) (cs : List code.Capsule)
    → sum_by f (c ∷ cs) ≡ f c + sum_by f cs
sum-cons f c cs = sum_by-append f (c ∷ []) cs ∙ omega arith

room_next : (f : code.Capsule → ℕ) (cs : List code.Capsule) (n : ℕ) (d : code.Capsule)
    → n < length cs → sum_by f (drop n cs) ≡ f (get_or cs n d) + sum_by f (drop (n + 1) cs)
room_next f cs n d lt =
    let e : n + 1 ≡ suc n = omega arith in
    ap (sum_by f) (drop-cons cs n d lt) ∙ sum-cons f (get_or cs n d) (drop (suc n) cs)
    ∙ ap (λ m. f (get_or cs n d) + sum_by f (drop m cs)) (sym e)

-- there is room for the next capsule, and for the final polls
pub room_here : (f : CapsuleFile) (n : ℕ) (o : Output) (d : code.Capsule)
    → n < length f.capsules.items → IsReadyAt f n o
    → length o.records.bytes + (160 + capsule_room (get_or f.capsules.items n d).sqe)
    ≤ o.records.room
room_here f n o d lt is = omega (
  arith,
  is.room,
  room_next (λ c. capsule_room c.sqe) f.capsules.items n d lt,
)

-- after it there is room for the others
pub room_after : (f : CapsuleFile) (n : ℕ) (o o' : Output) (d : code.Capsule)
    → n < length f.capsules.items → IsReadyAt f n o → o'.calls ≤ o.calls + 2
    → length o'.records.bytes ≤ length o.records.bytes
    + capsule_room (get_or f.capsules.items n d).sqe
    → o'.records.room ≡ o.records.room → IsReadyAt f (n + 1) o'
room_after f n o o' d lt is calls len same = record {
  few = omega (arith, is.few, calls);
  room = omega (
    arith,
    is.room,
    len,
    same,
    room_next (λ c. capsule_room c.sqe) f.capsules.items n d lt,
  );
}

-- at its end there is room for the final polls
pub room_left : (f : CapsuleFile) (o : Output) → IsReadyAt f (length f.capsules.items) o
    → length o.records.bytes + 160 ≤ o.records.room
room_left f o is = omega (arith, is.room)

-- ---- one more capsule is served
pub serves_more : (queue : ℕ) (bytes : List ℕ) (cs : List code.Capsule) (n : ℕ)
    (d : code.Capsule) (payload : List ℕ)
    (Pre : Target → ℕ → List Capsule → Progress → Type 0) (k k1 k2 : Kept) (o o1 o2 : Output)
    (n0 n1 n2 n3 : ℕ) → n < length cs → d ≡ get_or cs n d
    → payload ≡ take d.data_len (drop d.data_at bytes) → n2 ≡ n3
    → Makes false queue (capsules_in bytes cs) Pre k o n0 (HasTaken n) k1 o1 n1
    → ServesOne queue n d.sqe payload k1 o1 n1 k2 o2 n2
    → Makes false queue (capsules_in bytes cs) Pre k o n0 (HasTaken (n + 1)) k2 o2 n3
serves_more queue bytes cs n d payload Pre k k1 k2 o o1 o2 n0 n1 n2 n3 lt is taken place a b =
    let one : slice_get (capsules_in bytes cs) n
    ≡ Some (record { entry = d.sqe; payload = payload }) =
    capsule-at bytes cs n d lt
    ∙ ap (λ (c : code.Capsule). Some (capsule_in bytes c)) (sym is)
    ∙ ap (λ (p : List ℕ). let c : Capsule = record { entry = d.sqe; payload = p } in Some c)
    (sym taken) in
    subst (λ (m : ℕ). Makes false queue (capsules_in bytes cs) Pre k o n0 (HasTaken (n + 1)) k2 o2 m)
    place
    (makes_both false queue (capsules_in bytes cs) Pre (HasTaken n) (HasTaken (n + 1)) k k1 k2 o o1
    o2 n0 n1 n2 a (b (capsules_in bytes cs) one))

-- from nothing done on
pub from_nothing : (queue : ℕ) (file : List Capsule)
    (Post : Target → ℕ → List Capsule → Progress → Type 0) (k k1 : Kept) (o o1 : Output)
    (n n1 : ℕ) → Makes false queue file (HasTaken 0) k o n Post k1 o1 n1
    → Makes false queue file HasNothing k o n Post k1 o1 n1
from_nothing queue file Post k k1 o o1 n n1 a =
    makes_from false queue file HasNothing (HasTaken 0) Post k k1 o o1 n n1
    (λ t p st is. settled_ready t queue 0 p is) a

-- to the end of the front, and from there on
pub to_front : (queue : ℕ) (file : List Capsule) (m : ℕ)
    (Pre : Target → ℕ → List Capsule → Progress → Type 0) (k k1 : Kept) (o o1 : Output)
    (n n1 : ℕ) → m ≡ front_len file → Makes false queue file Pre k o n (HasTaken m) k1 o1 n1
    → Makes false queue file Pre k o n HasFront k1 o1 n1
to_front queue file m Pre k k1 o o1 n n1 is a =
    makes_by false queue file Pre (HasTaken m) HasFront k k1 o o1 n n1
    (λ t p st s. subst (λ (x : ℕ). IsSettled t queue x p) is s) a

pub from_front : (queue : ℕ) (file : List Capsule) (m : ℕ) (k : Kept) (o : Output) (n : ℕ)
    → m ≡ front_len file → Makes false queue file HasFront k o n (HasTaken m) k o n
from_front queue file m k o n is =
    makes_none false queue file HasFront (HasTaken m) k o n
    (λ t p st s. subst (λ (x : ℕ). IsSettled t queue x p) (sym is) s)

-- to the end of the file
pub to_end : (queue : ℕ) (file : List Capsule) (m : ℕ)
    (Pre : Target → ℕ → List Capsule → Progress → Type 0) (k k1 : Kept) (o o1 : Output)
    (n n1 : ℕ) → m ≡ length file → Makes false queue file Pre k o n (HasTaken m) k1 o1 n1
    → Makes false queue file Pre k o n HasAll k1 o1 n1
to_end queue file m Pre k k1 o o1 n n1 is a =
    makes_by false queue file Pre (HasTaken m) HasAll k k1 o o1 n n1
    (λ t p st s. subst (λ (x : ℕ). IsSettled t queue x p) is s) a
