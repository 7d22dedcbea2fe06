-- Generated capsules are sound, and within the limits on a file.
use Rattle.std.proofs.Common.{◌≡◌, ◌≤◌, ◌<◌, ◌⊎◌, ◌%◌, ◌/◌, ◌*◌, ◌-◌, ℕ, zero, suc, ◌+◌, Bool, true, false, cond, eqb, leb, List, [], ◌∷◌, ◌++◌, length, map, refl, arith, inl, inr}
use Rattle.std.proofs.lemmas.Bool.{eqb-true, eqb-false, eq-eqb, cases_lt, cases_Bool}
use Rattle.std.proofs.lemmas.List.FromFn.{length-map-range_with_len}
use Rattle.std.proofs.lemmas.List.Sums.{sum_by-cons}
use Rattle.std.specs.List.{AllByRecursion, range_with_len, sum_by}
use Rattle.sqe_cqe.specs.Sqe.{sqe_fields, payload_len, direction_of}
use Rattle.sqe_cqe.specs.declared.sqe.Sqe.{Sqe}
use Rattle.plan_files.specs.Capsules.{Capsule}
use Rattle.plan_files.specs.Rooms.{capsule_room}
use Rattle.gen_files.specs.Entries.{plain_entry}
use Rattle.gen_files.specs.Commands.{command_entry, command_data, nsid_of, block_of, blocks_of, pattern}
use Rattle.gen_reading.specs.Capsules.{with_payload}
use Rattle.response_files.proofs.Fields.{AreFitting}
use Rattle.gen_reading.proofs.Whole.{IsSound}

-- an entry by the numbers that differ
abbrev pub made : ℕ → ℕ → ℕ → ℕ → ℕ → ℕ → ℕ → Sqe
made opcode cid nsid len a b c = record (plain_entry opcode cid) {
  nsid = nsid;
  sgl_len = len;
  cdw10 = a;
  cdw11 = b;
  cdw12 = c;
}

pub made_fits : (opcode cid nsid len a b c : ℕ) → opcode < 256 → cid < 65536 → nsid < 4294967296
    → len < 4294967296 → a < 4294967296 → b < 4294967296 → c < 4294967296
    → AreFitting (sqe_fields (made opcode cid nsid len a b c))
made_fits opcode cid nsid len a b c o i n l x y z = (
  omega (arith, o),
  (
    omega arith,
    (
      omega (arith, i),
      (
        omega (arith, n),
        (
          omega arith,
          (
            omega arith,
            (
              omega arith,
              (
                omega arith,
                (
                  omega (arith, l),
                  (
                    omega arith,
                    (
                      omega arith,
                      (
                        omega arith,
                        (
                          omega arith,
                          (
                            omega (arith, x),
                            (
                              omega (arith, y),
                              (
                                omega (arith, z),
                                (omega arith, (omega arith, (omega arith, tt))),
                              ),
                            ),
                          ),
                        ),
                      ),
                    ),
                  ),
                ),
              ),
            ),
          ),
        ),
      ),
    ),
  ),
)

-- a generated capsule: it is sound, its data are short, and its response needs at most so much room
pub record IsFine (room : ℕ) (c : Capsule) : Type 0 where
  pub sound : IsSound c
  pub short : payload_len c.entry ≤ 131072
  pub roomy : capsule_room c.entry ≤ room

-- ---- commands

abbrev opcode_by : Bool → Bool → ℕ
opcode_by write zeroes = cond write 1 (cond zeroes 8 2)

-- byte for byte, what a command with these two tests is made of
abbrev command_by : Bool → Bool → ℕ → ℕ → ℕ → ℕ → Sqe
command_by write zeroes cid nsid size at = made (opcode_by write zeroes) cid nsid
    (cond zeroes 0 size) at 0 0

opcode_small : (write zeroes : Bool) → opcode_by write zeroes < 256
opcode_small true zeroes = omega arith
opcode_small false true = omega arith
opcode_small false false = omega arith

moved_small : (zeroes : Bool) (size : ℕ) → size ≤ 4096 → cond zeroes 0 size ≤ 4096
moved_small true size s = omega arith
moved_small false size s = s

length_pattern : (k size : ℕ) → length (pattern k size) ≡ size
length_pattern k size = length-map-range_with_len (λ j. (k + j) % 256) 0 size

payload_is : (write zeroes : Bool) (k cid nsid size at : ℕ) → (write ≡ true → zeroes ≡ false)
    → length (cond write (pattern k size) [])
    ≡ payload_len (command_by write zeroes cid nsid size at)
unfolding payload_len direction_of
payload_is true true k cid nsid size at other = let e = other refl in absurd cc
payload_is true false k cid nsid size at other = length_pattern k size
payload_is false true k cid nsid size at other = refl
payload_is false false k cid nsid size at other = refl

payload_short : (write zeroes : Bool) (cid nsid size at : ℕ) → size ≤ 4096
    → payload_len (command_by write zeroes cid nsid size at) ≤ 131072
unfolding payload_len direction_of
payload_short true true cid nsid size at s = omega arith
payload_short true false cid nsid size at s = omega (arith, s)
payload_short false true cid nsid size at s = omega arith
payload_short false false cid nsid size at s = omega arith

room_by : (b : Bool) (size : ℕ) → size ≤ 4096 → 96 + cond b size 0 ≤ 4192
room_by true size s = omega (arith, s)
room_by false size s = omega arith

room_is : (write zeroes : Bool) (cid nsid size at : ℕ) → size ≤ 4096
    → capsule_room (command_by write zeroes cid nsid size at) ≤ 4192
unfolding capsule_room direction_of
room_is true zeroes cid nsid size at s = omega arith
room_is false true cid nsid size at s = omega arith
room_is false false cid nsid size at s = room_by (leb size 131072) size s

-- a Write and a Write Zeroes have no data for the host
room_low : (write zeroes : Bool) (cid nsid size at : ℕ) → (write ≡ true) ⊎ (zeroes ≡ true)
    → capsule_room (command_by write zeroes cid nsid size at) ≤ 96
unfolding capsule_room direction_of
room_low true zeroes cid nsid size at some = omega arith
room_low false true cid nsid size at some = omega arith
room_low false false cid nsid size at some = elim some [
  | inl e ↦ absurd cc
  | inr e ↦ absurd cc
]

block_small : (one : Bool) → cond one 512 4096 ≤ 4096
block_small true = omega arith
block_small false = omega arith

place_small : (one : Bool) (n : ℕ) → n % cond one 2048 256 < 4294967296
place_small true n = omega arith
place_small false n = omega arith

abbrev writes : ℕ → Bool
writes k = eqb (k % 4) 2

abbrev zeroes : ℕ → Bool
zeroes k = eqb (k % 4) 3

one_kind : (k : ℕ) → writes k ≡ true → zeroes k ≡ false
one_kind k e = elim (cases_Bool (zeroes k)) [
  | inl t ↦ absurd (omega (arith, eqb-true (k % 4) 2 e, eqb-true (k % 4) 3 t))
  | inr f ↦ f
]

command_is : (k drawn : ℕ) → command_entry k drawn
    ≡ command_by (writes k) (zeroes k) (k + 1) (nsid_of k) (block_of k) (drawn / 256 % blocks_of k)
unfolding command_entry
command_is k drawn = refl

data_are : (k : ℕ) → command_data k ≡ cond (writes k) (pattern k (block_of k)) []
unfolding command_data
data_are k = refl

pub command_fine : (k drawn : ℕ) → k < 16384
    → IsFine 4192 (with_payload (command_entry k drawn) (command_data k))
command_fine k drawn lt =
    let size : block_of k ≤ 4096 = block_small (eqb (nsid_of k) 1) in
    let place : drawn / 256 % blocks_of k < 4294967296 =
    place_small (eqb (nsid_of k) 1) (drawn / 256) in
    let moved = moved_small (zeroes k) (block_of k) size in
    rw (command_is k drawn, data_are k) (record {
      sound = record {
        fit = made_fits _ _ _ _ _ _ _ (opcode_small (writes k) (zeroes k)) (omega (arith, lt))
            (omega arith) (omega (arith, moved)) place (omega arith) (omega arith);
        four = refl;
        len = payload_is (writes k) (zeroes k) k (k + 1) (nsid_of k) (block_of k)
            (drawn / 256 % blocks_of k) (one_kind k);
      };
      short = payload_short (writes k) (zeroes k) _ _ (block_of k) _ size;
      roomy = room_is (writes k) (zeroes k) _ _ (block_of k) _ size;
    })

is_two_or_three : (k : ℕ) → 2 ≤ k % 4 → (writes k ≡ true) ⊎ (zeroes k ≡ true)
is_two_or_three k le = elim (cases_Bool (writes k)) [
  | inl t ↦ inl t
  | inr f ↦ inr (eq-eqb (k % 4) 3 (three f))
] where
  three : writes k ≡ false → k % 4 ≡ 3
  three f = omega (arith, le, eqb-false (k % 4) 2 f)

pub command_low : (k drawn : ℕ) → 2 ≤ k % 4 → capsule_room (command_entry k drawn) ≤ 96
command_low k drawn le = rw (command_is k drawn) (room_low (writes k) (zeroes k) _ _ _ _
    (is_two_or_three k le))

-- ---- many of them

pub all_range : {X : Type 0} (P : X → Type 0) (f : ℕ → X) (a n : ℕ)
    → ((k : ℕ) → k < a + n → P (f k)) → AllByRecursion P (map f (range_with_len a n))
all_range P f a zero h = tt
all_range P f a (suc n) h = (
  h a (omega arith),
  all_range P f (a + 1) n (λ k lt. h k (omega (arith, lt))),
)

pub all_both : {X : Type 0} (P : X → Type 0) (xs ys : List X) → AllByRecursion P xs
    → AllByRecursion P ys → AllByRecursion P (xs ++ ys)
all_both P [] ys p q = q
all_both P (x ∷ xs) ys p q = (p.0, all_both P xs ys p.1 q)

pub all_give : {X : Type 0} (P Q : X → Type 0) (xs : List X) → ((x : X) → P x → Q x)
    → AllByRecursion P xs → AllByRecursion Q xs
all_give P Q [] h p = tt
all_give P Q (x ∷ xs) h p = (h x p.0, all_give P Q xs h p.1)

-- the room of so many capsules, each of which needs at most so much
pub rooms : (cs : List Capsule) (most : ℕ)
    → AllByRecursion (λ (c : Capsule). capsule_room c.entry ≤ most) cs
    → sum_by (λ (c : Capsule). capsule_room c.entry) cs ≤ length cs * most
rooms [] most h = omega arith
rooms (c ∷ cs) most h =
    let sums = sum_by-cons (λ (c : Capsule). capsule_room c.entry) c cs in
    let rest = rooms cs most h.1 in
    omega (arith, sums, rest, h.0)

-- what the reads among four commands need more than the mean, from command k on
abbrev pub spare : ℕ → ℕ
spare k = 2048 * ((2 - k % 4) + (k % 4 - 2))

-- two of four commands have data for the host
pub commands_room : (f : ℕ → Capsule) (a n : ℕ)
    → ((k : ℕ) → k < a + n → capsule_room (f k).entry ≤ 4192)
    → ((k : ℕ) → 2 ≤ k % 4 → capsule_room (f k).entry ≤ 96)
    → sum_by (λ (c : Capsule). capsule_room c.entry) (map f (range_with_len a n))
    ≤ 2144 * n + spare a
commands_room f a zero most low = omega arith
commands_room f a (suc n) most low =
    let sums = sum_by-cons (λ (c : Capsule). capsule_room c.entry) (f a)
    (map f (range_with_len (a + 1) n)) in
    let rest = commands_room f (a + 1) n (λ k lt. most k (omega (arith, lt))) low in
    elim (cases_lt (a % 4) 2) [
      | inl lt ↦ omega (arith, sums, rest, most a (omega arith), lt)
      | inr le ↦ omega (arith, sums, rest, low a le, le)
    ]

pub spare_small : (k : ℕ) → spare k ≤ 4096
spare_small k = omega arith
