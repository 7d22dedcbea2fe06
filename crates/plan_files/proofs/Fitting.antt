-- What stands at the front of a file, and what is read there.
use Rattle.std.proofs.Common.{◌≡◌, ℕ, zero, suc, ◌+◌, ◌≤◌, Bool, true, false, cond, ltb, List, [], ◌∷◌, length, drop, Result, Ok, Err, refl, sym, ap, subst, ◌∙◌, lit≤, arith}
use Rattle.std.specs.List.{AllByRecursion, sum_by}
use Rattle.std.proofs.lemmas.Bool.{ltb-false, le-ltb}
use Rattle.std.proofs.lemmas.List.Sums.{sum_by-cons}
use Rattle.sqe_cqe.specs.Sqe.{payload_len}
use Rattle.plan_files.specs.Capsules.{Capsule, AreCapsules, AreWithin, capsule_of, head_of}
use Rattle.plan_files.specs.Rooms.{capsule_room}
use Rattle.std.specs.Prelude.{IfOk}
use Rattle.plan_files.specs.Binding.{◌>>=◌}
use Rattle.plan_files.specs.CapsuleReading.{Gives, next_capsule, capsules_from, capsules_of, width}
use Rattle.plan_files.specs.declared.capsules.CapsuleError.{CapsuleError}

-- a capsule that is whole and within the limits
pub record Stands (room : ℕ) (bytes : List ℕ) : Type 0 where
  pub short : payload_len (head_of bytes) ≤ 131072
  pub whole : 64 + payload_len (head_of bytes) ≤ length bytes
  pub roomy : room + capsule_room (head_of bytes) ≤ 67108864

pub next_is : (at room : ℕ) (bytes : List ℕ) → Stands room bytes → next_capsule at room bytes
    ≡ Ok (capsule_of bytes)
unfolding next_capsule
next_is at room bytes s =
    let entry : ltb (length bytes) 64 ≡ false = le-ltb _ _ (omega (arith, s.whole)) in
    let short : ltb 131072 (payload_len (head_of bytes)) ≡ false = le-ltb _ _ s.short in
    let whole : ltb (length bytes) (64 + payload_len (head_of bytes)) ≡ false =
    le-ltb _ _ s.whole in
    let roomy : ltb 67108864 (room + capsule_room (head_of bytes)) ≡ false = le-ltb _ _ s.roomy in
    rw (entry, short, whole, roomy) refl

-- the value of a step that did not fail
pub bind_ok : {A B : Type 0} (r : Result A CapsuleError) (f : A → Result B CapsuleError) (y : B)
    → (r >>= f) ≡ Ok y → (x : A) × (r ≡ Ok x) × (f x ≡ Ok y)
bind_ok (Ok x) f y e = (x, refl, e)
bind_ok (Err d) f y e = absurd cc

-- a test that did not fail
test_ok : {A : Type 0} (b : Bool) (d : CapsuleError) (r : Result A CapsuleError) (y : A)
    → cond b (Err d) r ≡ Ok y → (b ≡ false) × (r ≡ Ok y)
test_ok true d r y e = absurd cc
test_ok false d r y e = (refl, e)

pub next_was : (at room : ℕ) (bytes : List ℕ) (c : Capsule) → next_capsule at room bytes ≡ Ok c
    → Stands room bytes × (c ≡ capsule_of bytes)
unfolding next_capsule
next_was at room bytes c e =
    let entry = test_ok (ltb (length bytes) 64) _ _ c e in
    let short = test_ok (ltb 131072 (payload_len (head_of bytes))) _ _ c entry.1 in
    let whole = test_ok (ltb (length bytes) (64 + payload_len (head_of bytes))) _ _ c short.1 in
    let roomy = test_ok (ltb 67108864 (room + capsule_room (head_of bytes))) _ _ c whole.1 in (
      record {
        short = ltb-false _ _ short.0;
        whole = ltb-false _ _ whole.0;
        roomy = ltb-false _ _ roomy.0;
      },
      cc,
    )

abbrev pub room_by : List Capsule → ℕ
room_by cs = sum_by (λ c. capsule_room c.entry) cs

-- what holds of capsules that are read from a point on
pub record AreLeft (left room : ℕ) (bytes : List ℕ) (cs : List Capsule) : Type 0 where
  pub are : AreCapsules bytes cs
  pub count : length cs ≤ left
  pub payload : AllByRecursion (λ c. payload_len c.entry ≤ 131072) cs
  pub output : room + room_by cs ≤ 67108864

pub are_left : (left at room : ℕ) (bytes : List ℕ) (cs : List Capsule) → room ≤ 67108864
    → capsules_from left at room bytes ≡ Ok cs → AreLeft left room bytes cs
unfolding capsules_from
are_left left at room [] cs small e =
    let none : cs ≡ [] = cc in
    subst (λ (r : List Capsule). AreLeft left room [] r) (sym none) (record {
      are = refl;
      count = omega arith;
      payload = tt;
      output = omega arith;
    })
are_left zero at room (b ∷ bytes) cs small e = absurd cc
are_left (suc left) at room (b ∷ bytes) cs small e =
    let first = bind_ok (next_capsule at room (b ∷ bytes)) (λ c. capsules_from left (at + width c)
    (room + capsule_room c.entry) (drop (width c) (b ∷ bytes)) >>= λ cs. Ok (c ∷ cs)) cs e in
    let c = first.0 in
    let rest = bind_ok (capsules_from left (at + width c) (room + capsule_room c.entry)
    (drop (width c) (b ∷ bytes))) (λ cs. Ok (c ∷ cs)) cs first.2 in
    let was = next_was at room (b ∷ bytes) c first.1 in
    let same : c ≡ capsule_of (b ∷ bytes) = was.1 in
    let entry : c.entry ≡ head_of (b ∷ bytes) = ap (λ (x : Capsule). x.entry) same in
    let roomy : room + capsule_room c.entry ≤ 67108864 = rw entry was.0.roomy in
    let tail = are_left left (at + width c) (room + capsule_room c.entry)
    (drop (width c) (b ∷ bytes)) rest.0 roomy rest.1 in
    let all : c ∷ rest.0 ≡ cs = cc in
    let sums = sum_by-cons (λ (c : Capsule). capsule_room c.entry) c rest.0 in
    subst (λ (r : List Capsule). AreLeft (suc left) room (b ∷ bytes) r) all (record {
      are = (was.0.whole, same, rw (← entry) tail.are);
      count = omega (arith, tail.count);
      payload = (rw entry was.0.short, tail.payload);
      output = omega (arith, tail.output, sums);
    })

pub is_read : (left at room : ℕ) (bytes : List ℕ) (cs : List Capsule) → AreLeft left room bytes cs
    → capsules_from left at room bytes ≡ Ok cs
unfolding capsules_from
is_read left at room bytes [] h = rw h.are refl
is_read left at room [] (c ∷ cs) h = absurd (omega (arith, h.are.0))
is_read zero at room (b ∷ bytes) (c ∷ cs) h = absurd (omega (arith, h.count))
is_read (suc left) at room (b ∷ bytes) (c ∷ cs) h =
    let same : c ≡ capsule_of (b ∷ bytes) = h.are.1 in
    let entry : c.entry ≡ head_of (b ∷ bytes) = ap (λ (x : Capsule). x.entry) same in
    let sums = sum_by-cons (λ (c : Capsule). capsule_room c.entry) c cs in
    let stands : Stands room (b ∷ bytes) = record {
      short = rw (← entry) h.payload.0;
      whole = h.are.0;
      roomy = rw (← entry) (omega (arith, h.output, sums));
    } in
    let first : next_capsule at room (b ∷ bytes) ≡ Ok c = next_is at room (b ∷ bytes) stands
    ∙ ap (λ (x : Capsule). Ok x) (sym same) in
    let tail : AreLeft left (room + capsule_room c.entry) (drop (width c) (b ∷ bytes)) cs = record {
      are = rw entry h.are.2;
      count = omega (arith, h.count);
      payload = h.payload.1;
      output = omega (arith, h.output, sums);
    } in
    rw (
      first,
      is_read left (at + width c) (room + capsule_room c.entry)
          (drop (width c) (b ∷ bytes)) cs tail,
    ) refl

-- what is read is spelled so
pub are_spelled : (bytes : List ℕ) (cs : List Capsule) → capsules_of bytes ≡ Ok cs
    → AreCapsules bytes cs × AreWithin cs
are_spelled bytes cs e =
    let l = are_left 65536 0 160 bytes cs (lit≤ tt) e in
    (l.are, record { count = l.count; payload = l.payload; output = l.output })

-- what is spelled so is read
pub are_read : (bytes : List ℕ) (cs : List Capsule) → AreCapsules bytes cs → AreWithin cs
    → capsules_of bytes ≡ Ok cs
are_read bytes cs are within =
    is_read 65536 0 160 bytes cs (record {
      are = are;
      count = within.count;
      payload = within.payload;
      output = within.output;
    })

pub found_spelled : {X : Type 0} (view : X → List Capsule) (bytes : List ℕ)
    (r : Result X CapsuleError) → Gives view r (capsules_of bytes)
    → IfOk r (λ x. AreCapsules bytes (view x))
found_spelled view bytes (Ok x) h = (are_spelled bytes (view x) h).0
found_spelled view bytes (Err e) h = tt

pub found_within : {X : Type 0} (view : X → List Capsule) (bytes : List ℕ)
    (r : Result X CapsuleError) → Gives view r (capsules_of bytes)
    → IfOk r (λ x. AreWithin (view x))
found_within view bytes (Ok x) h = (are_spelled bytes (view x) h).1
found_within view bytes (Err e) h = tt
