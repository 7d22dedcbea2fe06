-- The first fault of a capsule file is the error that reading it gives.
use Rattle.std.proofs.Common.{◌≡◌, ◌≢◌, ◌⊎◌, ◌<◌, ◌≤◌, ℕ, zero, suc, ◌+◌, ◌-◌, Bool, true, false, cond, ltb, List, [], ◌∷◌, ◌++◌, length, take, drop, Result, Ok, Err, refl, sym, ap, subst, ◌∙◌, append_assoc, inl, inr, lit≤, arith}
use Rattle.std.specs.Prelude.{IfErr}
use Rattle.std.proofs.lemmas.Bool.{ltb-false, ltb-true, le-ltb, lt-ltb}
use Rattle.std.proofs.lemmas.List.{take-append-le, take-append-drop, length-drop, length-append, length-take-le}
use Rattle.std.proofs.lemmas.List.Sums.{sum_by-cons}
use Rattle.sqe_cqe.specs.Sqe.{payload_len}
use Rattle.plan_files.specs.Capsules.{Capsule, capsule_of, head_of}
use Rattle.plan_files.specs.Rooms.{capsule_room}
use Rattle.plan_files.specs.Binding.{◌>>=◌}
use Rattle.plan_files.specs.CapsuleReading.{Gives, next_capsule, capsules_from, capsules_of, width}
use Rattle.plan_files.specs.CapsuleFaults.{IsCut, PassesData, PassesOutput, NextFault, FirstFault}
use Rattle.plan_files.specs.declared.capsules.CapsuleError.{CapsuleError}
use Rattle.plan_files.specs.declared.capsules.CapsuleError.TheVariants as errors
use Rattle.plan_files.specs.declared.limits.What.TheVariants.{Capsules, Data, Output}
use Rattle.plan_files.proofs.Fitting.{AreLeft, Stands, room_by, next_is, next_was}

-- ---- one capsule

-- a test on the way to an error gave it, or went on to it
test_err : {A : Type 0} (b : Bool) (d : CapsuleError) (r : Result A CapsuleError) (e : CapsuleError)
    → cond b (Err d) r ≡ Err e
    → ((b ≡ true) × (d ≡ e)) ⊎ ((b ≡ false) × (r ≡ Err e))
test_err true d r e h = inl (refl, cc)
test_err false d r e h = inr (refl, h)

next_fails : (l at room : ℕ) (bytes : List ℕ) (e : CapsuleError) → 0 < length bytes
    → next_capsule at room bytes ≡ Err e
    → NextFault (suc l) room at bytes e
unfolding next_capsule
next_fails l at room bytes e some h =
    let len = payload_len (head_of bytes) in
    let more : 0 < suc l = omega arith in
    let P : CapsuleError → Type 0 = λ x. NextFault (suc l) room at bytes x in
    elim (test_err (ltb (length bytes) 64) _ _ e h) [
      | inl cut ↦ subst P cut.1 (refl, more, (some, inl (ltb-true _ _ cut.0)))
      | inr entry ↦ elim (test_err (ltb 131072 len) _ _ e entry.1) [
        | inl long ↦ subst P long.1
            (inr (inl (
              refl,
              record {
                may = more;
                entry = ltb-false _ _ entry.0;
                is = refl;
                long = ltb-true _ _ long.0;
              },
            )))
        | inr short ↦ elim (test_err (ltb (length bytes) (64 + len)) _ _ e short.1) [
          | inl cut ↦ subst P cut.1 (
            refl,
            more,
            (some, inr (ltb-false _ _ short.0, ltb-true _ _ cut.0)),
          )
          | inr whole ↦ elim (test_err (ltb 67108864 (room + capsule_room (head_of bytes))) _ _ e
              whole.1) [
                | inl over ↦ subst P over.1
                    (inr (inr (
                      refl,
                      record {
                        may = more;
                        short = ltb-false _ _ short.0;
                        whole = ltb-false _ _ whole.0;
                        is = refl;
                        over = ltb-true _ _ over.0;
                      },
                    )))
                | inr fine ↦ absurd (let no : Ok (capsule_of bytes) ≡ Err e = fine.1 in cc)
              ]
        ]
      ]
    ]

cut_next : (at room : ℕ) (bytes : List ℕ) → IsCut bytes → next_capsule at room bytes
    ≡ Err (errors.Cut at)
unfolding next_capsule
cut_next at room bytes cut = elim cut.1 [
  | inl entry ↦ rw (lt-ltb (length bytes) 64 entry) refl
  | inr data_cut ↦ by_entry (ltb (length bytes) 64) refl data_cut.0 data_cut.1
] where
  by_entry : (t : Bool) → ltb (length bytes) 64 ≡ t → payload_len (head_of bytes) ≤ 131072
      → length bytes < 64 + payload_len (head_of bytes)
      → next_capsule at room bytes ≡ Err (errors.Cut at)
  by_entry true is short lt = rw is refl
  by_entry false is short lt = rw (
    is,
    le-ltb 131072 (payload_len (head_of bytes)) short,
    lt-ltb (length bytes) (64 + payload_len (head_of bytes)) lt,
  ) refl

long_next : (more at room : ℕ) (bytes : List ℕ) (count : ℕ) → PassesData more bytes count
    → next_capsule at room bytes ≡ Err (errors.TooLong Data count)
unfolding next_capsule
long_next more at room bytes count p =
    let long : 131072 < payload_len (head_of bytes) = omega (arith, p.is, p.long) in
    rw (le-ltb (length bytes) 64 p.entry, lt-ltb 131072 (payload_len (head_of bytes)) long)
    (ap (λ n. Err (errors.TooLong Data n)) (sym p.is))

over_next : (more at room : ℕ) (bytes : List ℕ) (count : ℕ) → PassesOutput more room bytes count
    → next_capsule at room bytes ≡ Err (errors.TooLong Output count)
unfolding next_capsule
over_next more at room bytes count p =
    let entry : 64 ≤ length bytes = omega (arith, p.whole) in
    let over : 67108864 < room + capsule_room (head_of bytes) = omega (arith, p.is, p.over) in
    rw (
      le-ltb (length bytes) 64 entry,
      le-ltb 131072 (payload_len (head_of bytes)) p.short,
      le-ltb (length bytes) (64 + payload_len (head_of bytes)) p.whole,
      lt-ltb 67108864 (room + capsule_room (head_of bytes)) over,
    )
    (ap (λ n. Err (errors.TooLong Output n)) (sym p.is))

-- ---- capsules in bytes that go on

head_same : (done left : List ℕ) → 64 ≤ length done → head_of (done ++ left) ≡ head_of done
unfolding head_of
head_same done left le = rw (take-append-le 64 done left le) refl

drop_in : (n : ℕ) (done left : List ℕ) → n ≤ length done → drop n (done ++ left) ≡ drop n done
    ++ left
drop_in zero done left le = refl
drop_in (suc n) [] left le = absurd (omega (arith, le))
drop_in (suc n) (b ∷ done) left le = drop_in n done left (omega (arith, le))

capsule_same : (done left : List ℕ) → 64 + payload_len (head_of done) ≤ length done
    → capsule_of (done ++ left) ≡ capsule_of done
capsule_same done left le =
    let head = head_same done left (omega (arith, le)) in
    let after = drop_in 64 done left (omega (arith, le)) in
    let data_in = take-append-le (payload_len (head_of done)) (drop 64 done) left
    (omega (arith, le, length-drop 64 done)) in
    rw (head, after, data_in) refl

-- ---- from a point on

-- the next capsule's fault is what reading gives there
stops : (more at room : ℕ) (bytes : List ℕ) (e : CapsuleError) → NextFault more room at bytes e
    → capsules_from more at room bytes ≡ Err e
unfolding capsules_from
stops more at room bytes errors.Memory f = absurd f
stops more at room [] (errors.Cut a) f = absurd (omega (arith, f.2.0))
stops zero at room (b ∷ bytes) (errors.Cut a) f = absurd (omega (arith, f.1))
stops (suc l) at room (b ∷ bytes) (errors.Cut a) f = rw (cut_next at room (b ∷ bytes) f.2)
    (ap (λ n. Err (errors.Cut n)) (sym f.0))
stops more at room [] (errors.TooLong what count) f =
    elim f [
      | inl p ↦ absurd (omega (arith, p.1.some))
      | inr q ↦ elim q [
        | inl p ↦ absurd (omega (arith, p.1.entry))
        | inr p ↦ absurd (omega (arith, p.1.whole))
      ]
    ]
stops zero at room (b ∷ bytes) (errors.TooLong what count) f =
    elim f [
      | inl p ↦ rw (p.0, p.1.is) refl
      | inr q ↦ elim q [
        | inl p ↦ absurd (omega (arith, p.1.may))
        | inr p ↦ absurd (omega (arith, p.1.may))
      ]
    ]
stops (suc l) at room (b ∷ bytes) (errors.TooLong what count) f =
    elim f [
      | inl p ↦ absurd (omega (arith, p.1.none))
      | inr q ↦ elim q [
        | inl p ↦ rw (long_next (suc l) at room (b ∷ bytes) count p.1, p.0) refl
        | inr p ↦ rw (over_next (suc l) at room (b ∷ bytes) count p.1, p.0) refl
      ]
    ]

-- what fails after capsules that are read fails with them
fails_after : (more at room : ℕ) (done left : List ℕ) (cs : List Capsule) (e : CapsuleError)
    → AreLeft more room done cs
    → capsules_from (more - length cs) (at + length done) (room + room_by cs) left ≡ Err e
    → capsules_from more at room (done ++ left) ≡ Err e
unfolding capsules_from
fails_after more at room done left [] e h f =
    let m : more - 0 ≡ more = omega arith in
    let a : at + 0 ≡ at = omega arith in
    let r : room + 0 ≡ room = omega arith in
    rw h.are (rw (h.are, m, a, r) at f)
fails_after more at room [] left (c ∷ cs) e h f = absurd (omega (arith, h.are.0))
fails_after zero at room (b ∷ done) left (c ∷ cs) e h f = absurd (omega (arith, h.count))
fails_after (suc l) at room (b ∷ done) left (c ∷ cs) e h f =
    let same : c ≡ capsule_of (b ∷ done) = h.are.1 in
    let entry : c.entry ≡ head_of (b ∷ done) = ap (λ (x : Capsule). x.entry) same in
    let sums = sum_by-cons (λ (c : Capsule). capsule_room c.entry) c cs in
    let head = head_same (b ∷ done) left (omega (arith, h.are.0)) in
    let whole : 64 + payload_len (head_of (b ∷ done)) ≤ length ((b ∷ done) ++ left) =
    omega (arith, h.are.0, length-append (b ∷ done) left) in
    let stands : Stands room ((b ∷ done) ++ left) = record {
      short = rw (head, ← entry) h.payload.0;
      whole = rw head whole;
      roomy = rw (head, ← entry) (omega (arith, h.output, sums));
    } in
    let first : next_capsule at room ((b ∷ done) ++ left) ≡ Ok c =
    next_is at room ((b ∷ done) ++ left) stands
    ∙ ap (λ (x : Capsule). Ok x) (capsule_same (b ∷ done) left h.are.0 ∙ sym same) in
    let tail : AreLeft l (room + capsule_room c.entry) (drop (width c) (b ∷ done)) cs = record {
      are = rw entry h.are.2;
      count = omega (arith, h.count);
      payload = h.payload.1;
      output = omega (arith, h.output, sums);
    } in
    let wide : width c ≤ length (b ∷ done) = rw entry h.are.0 in
    let m : suc l - suc (length cs) ≡ l - length cs = omega arith in
    let a : at + width c + length (drop (width c) (b ∷ done)) ≡ at + length (b ∷ done) =
    omega (arith, wide, length-drop (width c) (b ∷ done)) in
    let r : room + capsule_room c.entry + room_by cs ≡ room + room_by (c ∷ cs) =
    omega (arith, sums) in
    let again : capsules_from (l - length cs) (at + width c + length (drop (width c) (b ∷ done)))
    (room + capsule_room c.entry + room_by cs) left ≡ Err e = rw (a, r, ← m) f in
    let rest = fails_after l (at + width c) (room + capsule_room c.entry)
    (drop (width c) (b ∷ done)) left cs e tail again in
    rw (first, drop_in (width c) (b ∷ done) left wide, rest) refl

-- a fault after capsules that are read, from a point on
record FaultsFrom (more at room : ℕ) (bytes : List ℕ) (e : CapsuleError) : Type 0 where
  done : List ℕ
  left : List ℕ
  is : bytes ≡ done ++ left
  cs : List Capsule
  read : AreLeft more room done cs
  next : NextFault (more - length cs) (room + room_by cs) (at + length done) left e

-- a fault of the next capsule
faults_here : (more at room : ℕ) (bytes : List ℕ) (e : CapsuleError) → room ≤ 67108864
    → NextFault more room at bytes e → FaultsFrom more at room bytes e
faults_here more at room bytes e small f =
    let m : more - 0 ≡ more = omega arith in
    let a : at + 0 ≡ at = omega arith in
    let r : room + 0 ≡ room = omega arith in
    record {
      done = [];
      left = bytes;
      is = refl;
      cs = [];
      read = record { are = refl; count = omega arith; payload = tt; output = omega arith };
      next = rw (m, a, r) f;
    }

-- a fault after one more capsule
faults_later : (l at room : ℕ) (bytes : List ℕ) (e : CapsuleError) → Stands room bytes
    → FaultsFrom l (at + width (capsule_of bytes)) (room + capsule_room (head_of bytes))
    (drop (width (capsule_of bytes)) bytes) e → FaultsFrom (suc l) at room bytes e
faults_later l at room bytes e s rest =
    let w = 64 + payload_len (head_of bytes) in
    let done = take w bytes ++ rest.done in
    let is : bytes ≡ done ++ rest.left = sym (take-append-drop w bytes)
    ∙ ap (λ (x : List ℕ). take w bytes ++ x) rest.is
    ∙ sym (append_assoc (take w bytes) rest.done rest.left) in
    let cut : length (take w bytes) ≡ w = length-take-le w bytes s.whole in
    let size : length done ≡ w + length rest.done = length-append (take w bytes) rest.done
    ∙ ap (λ n. n + length rest.done) cut in
    let head : head_of bytes ≡ head_of done = ap head_of is
    ∙ head_same done rest.left (omega (arith, size)) in
    let whole : 64 + payload_len (head_of done) ≤ length done = rw (← head) (omega (arith, size)) in
    let same : capsule_of bytes ≡ capsule_of done = ap capsule_of is
    ∙ capsule_same done rest.left whole in
    let after : drop w done ≡ rest.done = drop_all_of (take w bytes) rest.done w cut in
    let sums = sum_by-cons (λ (c : Capsule). capsule_room c.entry) (capsule_of bytes) rest.cs in
    let m : suc l - suc (length rest.cs) ≡ l - length rest.cs = omega arith in
    let a : at + length done ≡ at + w + length rest.done = omega (arith, size) in
    let r : room + room_by (capsule_of bytes ∷ rest.cs) ≡ room + capsule_room (head_of bytes)
    + room_by rest.cs = omega (arith, sums) in
    record {
      done = done;
      left = rest.left;
      is = is;
      cs = capsule_of bytes ∷ rest.cs;
      read = record {
        are = (whole, same, rw (← head, after) rest.read.are);
        count = omega (arith, rest.read.count);
        payload = (s.short, rest.read.payload);
        output = omega (arith, rest.read.output, sums);
      };
      next = rw (m, a, r) rest.next;
    } where
      drop_all_of : (a b : List ℕ) (n : ℕ) → length a ≡ n → drop n (a ++ b) ≡ b
      drop_all_of [] b zero h = refl
      drop_all_of [] b (suc n) h = absurd (omega (arith, h))
      drop_all_of (x ∷ a) b zero h = absurd (omega (arith, h))
      drop_all_of (x ∷ a) b (suc n) h = drop_all_of a b n (omega (arith, h))

-- a step that failed, or one after it
bind_err : {A B : Type 0} (r : Result A CapsuleError) (f : A → Result B CapsuleError)
    (e : CapsuleError) → (r >>= f) ≡ Err e
    → (r ≡ Err e) ⊎ ((x : A) × (r ≡ Ok x) × (f x ≡ Err e))
bind_err (Ok x) f e h = inr (x, refl, h)
bind_err (Err d) f e h = let same : d ≡ e = cc in inl (ap (λ x. Err x) same)

faults_from : (more at room : ℕ) (bytes : List ℕ) (e : CapsuleError) → room ≤ 67108864
    → capsules_from more at room bytes ≡ Err e → FaultsFrom more at room bytes e
unfolding capsules_from
faults_from more at room [] e small h = absurd cc
faults_from zero at room (b ∷ bytes) e small h =
    let is : errors.TooLong Capsules 65537 ≡ e = cc in
    let full : NextFault zero room at (b ∷ bytes) (errors.TooLong Capsules 65537) =
    inl (refl, record { none = refl; some = omega arith; is = refl }) in
    faults_here zero at room (b ∷ bytes) e small
    (subst (λ (x : CapsuleError). NextFault zero room at (b ∷ bytes) x) is full)
faults_from (suc l) at room (b ∷ bytes) e small h =
    elim (bind_err (next_capsule at room (b ∷ bytes)) (λ c. capsules_from l (at + width c)
    (room + capsule_room c.entry) (drop (width c) (b ∷ bytes)) >>= λ cs. Ok (c ∷ cs)) e h) [
      | inl first ↦ faults_here (suc l) at room (b ∷ bytes) e small
          (next_fails l at room (b ∷ bytes) e (omega arith) first)
      | inr went ↦
          let was = next_was at room (b ∷ bytes) went.0 went.1 in
          elim (bind_err (capsules_from l (at + width went.0) (room + capsule_room went.0.entry)
          (drop (width went.0) (b ∷ bytes))) (λ cs. Ok (went.0 ∷ cs)) e went.2) [
            | inl rest ↦ faults_later l at room (b ∷ bytes) e was.0
                (faults_from l (at + width (capsule_of (b ∷ bytes)))
                (room + capsule_room (head_of (b ∷ bytes))) (drop (width (capsule_of (b ∷ bytes)))
                (b ∷ bytes)) e was.0.roomy (rw was.1 at rest))
            | inr none ↦ absurd (let no : Ok (went.0 ∷ none.0) ≡ Err e = none.2 in cc)
          ]
    ]

-- ---- the file

pub fault_was : (bytes : List ℕ) (e : CapsuleError) → capsules_of bytes ≡ Err e → FirstFault bytes e
fault_was bytes e h =
    let f = faults_from 65536 0 160 bytes e (lit≤ tt) h in
    let a : 0 + length f.done ≡ length f.done = omega arith in
    record {
      done = f.done;
      left = f.left;
      is = f.is;
      cs = f.cs;
      are = f.read.are;
      within = record { count = f.read.count; payload = f.read.payload; output = f.read.output };
      next = rw a at f.next;
    }

pub is_fault : (bytes : List ℕ) (e : CapsuleError) → FirstFault bytes e → capsules_of bytes ≡ Err e
is_fault bytes e f =
    let read : AreLeft 65536 160 f.done f.cs = record {
      are = f.are;
      count = f.within.count;
      payload = f.within.payload;
      output = f.within.output;
    } in
    let a : 0 + length f.done ≡ length f.done = omega arith in
    let stop : capsules_from (65536 - length f.cs) (0 + length f.done) (160 + room_by f.cs) f.left
    ≡ Err e =
    rw a (stops (65536 - length f.cs) (length f.done) (160 + room_by f.cs) f.left e f.next) in
    rw f.is (fails_after 65536 0 160 f.done f.left f.cs e read stop)

-- the error that a call answered is the first fault
pub found_fault : {X : Type 0} (view : X → List Capsule) (bytes : List ℕ)
    (r : Result X CapsuleError) → Gives view r (capsules_of bytes)
    → IfErr r (λ e. e ≢ errors.Memory → FirstFault bytes e)
found_fault view bytes (Ok x) h = tt
found_fault view bytes (Err errors.Memory) h = λ other. absurd (other refl)
found_fault view bytes (Err (errors.Cut at)) h = λ other. fault_was bytes (errors.Cut at) h
found_fault view bytes (Err (errors.TooLong what count)) h =
    λ other. fault_was bytes (errors.TooLong what count) h
