-- The parts of a job on the extents of a disk.
use Rattle.std.proofs.Common.{◌≡◌, ◌≤◌, ◌<◌, ℕ, zero, suc, ◌+◌, ◌-◌, ◌*◌, ◌/◌, ◌^◌, min, max, Bool, if◌then◌else◌, List, [], ◌∷◌, length, take, drop, replicate, refl, sym, ap, add-zero, zero-add, subst, ◌∙◌, inl, inr, arith}
use Rattle.std.proofs.Math.Nat.{mul-div_cancel, one-le-pow, mul-le-mul_right, add-mul}
use Rattle.std.proofs.lemmas.Bool.{cases_lt}
use Rattle.std.proofs.lemmas.List.{take-replicate, drop-replicate, length-replicate, drop-drop, take-take, drop-take, length-drop}
use Rattle.std.proofs.lemmas.Grind.{flat_map-append}
use Rattle.std.proofs.lemmas.List.Sums.{sum_by-append}
use Rattle.std.specs.List.{flat_map, range_with_len, sum_by}
use Rattle.mem_bdev.specs.Blocks.{Blocks, cut, with_blocks, written, zeroed, zero_blocks, range_bytes}
use Rattle.mem_bdev.proofs.Cuts.{length-cut, take-cut, drop-cut, cut-front}
use Rattle.io_commands.specs.declared.jobs.Job.{Job}
use Rattle.io_commands.specs.declared.jobs.Job.TheVariants.{Read, Write, Zero, Flush}
use Rattle.io_commands.specs.Jobs.{HasData, blocks_after, bytes_read, end_of, given_len}
use Rattle.disk_extents.specs.Extents.{Part, edge, extent, extent_number}
use Rattle.disk_extents.specs.Parts.{end_of_part, met_first, met_end, on_part, piece_of, part_after, part_read, part_len}
use Rattle.disk_extents.specs.Together.{PartsAreTheJob, start_of, touched}
use Rattle.disk_extents.proofs.Edges.{edge-rises, edge-small, within, numbered, numbers-rise, telescope, by_test}
use Rattle.disk_extents.proofs.Splices.{spliced, length-spliced, length-piece, piece-met, piece-apart}

-- an extent of a disk with these blocks
abbrev extent_as : ℕ → ℕ → ℕ → List (List ℕ) → Part
extent_as n shift e xs = record { first = edge n e; held = record { shift = shift; blocks = take (edge n (e + 1) - edge n e) (drop (edge n e) xs) } }

pub part-end : (d : Blocks) (e : ℕ) → end_of_part (extent d e) ≡ edge (length d.blocks) (e + 1)
part-end d e =
    let n = length d.blocks in
    let up = edge-rises n e in
    let small = edge-small n (e + 1) in
    let len = length-piece d.blocks (edge n e) (edge n (e + 1) - edge n e) (omega arith) in
    omega arith

-- an extent of a disk some of whose blocks were replaced
pub spliced-extent : (d : Blocks) (e lba count : ℕ) (ys : List (List ℕ)) → length ys ≡ count → lba + count ≤ length d.blocks
    → (met_first (extent d e) lba < met_end (extent d e) lba count → extent (with_blocks d lba ys) e
    ≡ record {
      first = (extent d e).first;
      held = with_blocks (extent d e).held (met_first (extent d e) lba - (extent d e).first)
          (take (met_end (extent d e) lba count - met_first (extent d e) lba) (drop (met_first (extent d e) lba - lba) ys));
    })
    × (met_end (extent d e) lba count ≤ met_first (extent d e) lba → extent (with_blocks d lba ys) e ≡ extent d e)
spliced-extent d e lba count ys many inside =
    let n = length d.blocks in
    let lo = edge n e in
    let len = edge n (e + 1) - edge n e in
    let up = edge-rises n e in
    let small = edge-small n (e + 1) in
    let last = part-end d e in
    let fits : lba + length ys ≤ length d.blocks = omega arith in
    let whole : lo + len ≤ length d.blocks = omega arith in
    let same : extent (with_blocks d lba ys) e ≡ extent_as n d.shift e (spliced d.blocks lba ys) =
    ap (λ (m : ℕ). extent_as m d.shift e (spliced d.blocks lba ys)) (length-spliced d.blocks ys lba fits) in
    let with : List (List ℕ) → Part = λ bs. record { first = lo; held = record { shift = d.shift; blocks = bs } } in (
      λ meets. same ∙ ap with (piece-met [] d.blocks ys lba lo len (met_first (extent d e) lba) (met_end (extent d e) lba count) fits whole refl (omega arith) meets),
      λ apart. same ∙ ap with (piece-apart [] d.blocks ys lba lo len fits whole (omega arith)),
    )

-- a job on what a part has of its range
after-on : (x y : Part) (disk lba count : ℕ) (job : ℕ → ℕ → Job) (payload : List ℕ)
    → (met_first x lba < met_end x lba count → record { first = x.first; held = blocks_after x.held (job (met_first x lba - x.first) (met_end x lba count - met_first x lba)) payload } ≡ y)
    → (met_end x lba count ≤ met_first x lba → x ≡ y)
    → record { first = x.first; held = blocks_after x.held (on_part x disk lba count job) payload } ≡ y
after-on x y disk lba count job payload meets apart =
    let P : Bool → Type 0 = λ b. record { first = x.first; held = blocks_after x.held (if b then job (met_first x lba - x.first) (met_end x lba count - met_first x lba) else Flush disk) payload } ≡ y in
    elim (by_test (met_first x lba) (met_end x lba count)) [
      | inl t ↦ subst P (sym t.0) (meets t.1)
      | inr t ↦ subst P (sym t.0) (apart t.1)
    ]

some-bytes : (shift : ℕ) → 0 < 2 ^ shift
some-bytes shift = omega (arith, one-le-pow shift 2 (omega arith))

-- the blocks that a piece of a Write's data is cut into
pub cut-piece : (size count k m : ℕ) (payload : List ℕ) → 0 < size → length payload ≡ count * size → k + m ≤ count
    → cut (length (take (m * size) (drop (k * size) payload)) / size) size (take (m * size) (drop (k * size) payload)) ≡ take m (drop k (cut (length payload / size) size payload))
cut-piece size count k m payload some len fits =
    let all : length payload / size ≡ count = rw len (mul-div_cancel count some) in
    let parts : k * size + m * size ≤ count * size = omega (arith, mul-le-mul_right size fits, add-mul k m size) in
    let mine : length (take (m * size) (drop (k * size) payload)) ≡ m * size = length-piece payload (k * size) (m * size) (omega arith) in
    let few : length (take (m * size) (drop (k * size) payload)) / size ≡ m = rw mine (mul-div_cancel m some) in
    let enough : m * size ≤ length (drop (k * size) payload) = omega (arith, length-drop (k * size) payload) in
    let regroup : k + (count - k) ≡ count = omega arith in
    let tail : drop k (cut count size payload) ≡ cut (count - k) size (drop (k * size) payload) = rw regroup at (drop-cut k (count - k) size payload) in
    rw (few, all, tail, take-cut m (count - k) size (drop (k * size) payload) (omega arith)) (cut-front m size (drop (k * size) payload) enough)

pub zero-piece : (shift count k m : ℕ) → k + m ≤ count → take m (drop k (zero_blocks shift count)) ≡ zero_blocks shift m
zero-piece shift count k m fits =
    rw (drop-replicate {X = List ℕ} k count (replicate (2 ^ shift) 0)) (take-replicate {X = List ℕ} m (count - k) (replicate (2 ^ shift) 0) (omega arith))

write_after : (d : Blocks) (e disk lba count : ℕ) (payload : List ℕ) → lba + count ≤ length d.blocks → length payload ≡ count * 2 ^ d.shift
    → part_after (extent d e) (Write disk lba count) payload ≡ extent (written d lba payload) e
write_after d e disk lba count payload inside len =
    let x = extent d e in
    let size = 2 ^ d.shift in
    let ys = cut (length payload / size) size payload in
    let all : length payload / size ≡ count = rw len (mul-div_cancel count (some-bytes d.shift)) in
    let many : length ys ≡ count = length-cut (length payload / size) size payload ∙ all in
    let both = spliced-extent d e lba count ys many inside in
    let k = met_first x lba - lba in
    let m = met_end x lba count - met_first x lba in
    after-on x _ disk lba count (Write disk) (piece_of x (Write disk lba count) payload)
    (λ meets. ap (λ (bs : List (List ℕ)). record { first = x.first; held = with_blocks x.held (met_first x lba - x.first) bs }) (cut-piece size count k m payload (some-bytes d.shift) len (omega arith)) ∙ sym (both.0 meets))
    (λ apart. sym (both.1 apart))

zero_after : (d : Blocks) (e disk lba count : ℕ) (payload : List ℕ) → lba + count ≤ length d.blocks
    → part_after (extent d e) (Zero disk lba count) payload ≡ extent (zeroed d lba count) e
zero_after d e disk lba count payload inside =
    let x = extent d e in
    let ys = zero_blocks d.shift count in
    let many : length ys ≡ count = length-replicate {A = List ℕ} count (replicate (2 ^ d.shift) 0) in
    let both = spliced-extent d e lba count ys many inside in
    let k = met_first x lba - lba in
    let m = met_end x lba count - met_first x lba in
    after-on x _ disk lba count (Zero disk) []
    (λ meets. ap (λ (bs : List (List ℕ)). record { first = x.first; held = with_blocks x.held (met_first x lba - x.first) bs }) (sym (zero-piece d.shift count k m (omega arith))) ∙ sym (both.0 meets))
    (λ apart. sym (both.1 apart))

read_after : (x : Part) (disk lba count : ℕ) (payload : List ℕ) → part_after x (Read disk lba count) payload ≡ x
read_after x disk lba count payload = after-on x x disk lba count (Read disk) [] (λ meets. refl) (λ apart. refl)

after_is : (d : Blocks) (job : Job) (payload : List ℕ) (e : ℕ) → end_of job ≤ length d.blocks → HasData job d.shift (length payload)
    → part_after (extent d e) job payload ≡ extent (blocks_after d job payload) e
after_is d (Read disk lba count) payload e inside len = read_after (extent d e) disk lba count payload
after_is d (Write disk lba count) payload e inside len = write_after d e disk lba count payload inside len
after_is d (Zero disk lba count) payload e inside len = zero_after d e disk lba count payload inside
after_is d (Flush disk) payload e inside len = refl

-- a range none of whose blocks lies in the extent doesn't meet it
untouched : (d : Blocks) (e lba count : ℕ) → lba + count ≤ length d.blocks → e < 8
    → ((i : ℕ) → lba ≤ i → i < lba + count → extent_number (length d.blocks) i ≡ e → ⊥)
    → met_end (extent d e) lba count ≤ met_first (extent d e) lba
untouched d e lba count inside small none =
    let last = part-end d e in
    let from = met_first (extent d e) lba in
    let top = edge-small (length d.blocks) (e + 1) in
    elim (cases_lt from (met_end (extent d e) lba count)) [
      | inl meets ↦ absurd (none from (omega arith) (omega arith) (numbered (length d.blocks) from e (omega arith) small (omega arith, omega arith)))
      | inr apart ↦ apart
    ]

others_stay : (d : Blocks) (job : Job) (payload : List ℕ) (e : ℕ) → end_of job ≤ length d.blocks → HasData job d.shift (length payload) → e < 8
    → ((i : ℕ) → start_of job ≤ i → i < end_of job → extent_number (length d.blocks) i ≡ e → ⊥) → extent (blocks_after d job payload) e ≡ extent d e
others_stay d (Read disk lba count) payload e inside len small none = refl
others_stay d (Write disk lba count) payload e inside len small none =
    let size = 2 ^ d.shift in
    let ys = cut (length payload / size) size payload in
    let all : length payload / size ≡ count = rw len (mul-div_cancel count (some-bytes d.shift)) in
    let many : length ys ≡ count = length-cut (length payload / size) size payload ∙ all in
    (spliced-extent d e lba count ys many inside).1 (untouched d e lba count inside small none)
others_stay d (Zero disk lba count) payload e inside len small none =
    let ys = zero_blocks d.shift count in
    let many : length ys ≡ count = length-replicate {A = List ℕ} count (replicate (2 ^ d.shift) 0) in
    (spliced-extent d e lba count ys many inside).1 (untouched d e lba count inside small none)
others_stay d (Flush disk) payload e inside len small none = refl

zero-mul' : (k : ℕ) → 0 ≡ 0 * k
zero-mul' k = grind arith

-- where the range has come to at the edge of an extent
abbrev come_to : ℕ → ℕ → ℕ → ℕ → ℕ
come_to n lba count e = max lba (min (lba + count) (edge n e))

come-rises : (n lba count e : ℕ) → come_to n lba count e ≤ come_to n lba count (e + 1)
come-rises n lba count e = omega (arith, edge-rises n e)

piece-of-piece : {X : Type 0} (xs : List X) (f len k m : ℕ) → k + m ≤ len → take m (drop k (take len (drop f xs))) ≡ take m (drop (f + k) xs)
piece-of-piece xs f len k m fits =
    let regroup : k + (len - k) ≡ len = omega arith in
    let moved : drop k (take len (drop f xs)) ≡ take (len - k) (drop k (drop f xs)) = rw regroup at (drop-take k (len - k) (drop f xs)) in
    rw (moved, drop-drop k f xs) (take-take m (len - k) (drop (f + k) xs) (omega arith))

-- what an extent gives of a Read, and how many bytes these are
abbrev given_between : Blocks → ℕ → ℕ → List ℕ
given_between d from till = flat_map (λ (b : List ℕ). b) (take (till - from) (drop from d.blocks))

read-on : (d : Blocks) (e disk lba count : ℕ) → lba + count ≤ length d.blocks
    → part_read (extent d e) (Read disk lba count) ≡ given_between d (come_to (length d.blocks) lba count e) (come_to (length d.blocks) lba count (e + 1))
read-on d e disk lba count inside =
    let n = length d.blocks in
    let x = extent d e in
    let lo = edge n e in
    let hi = edge n (e + 1) in
    let from = met_first x lba in
    let till = met_end x lba count in
    let last = part-end d e in
    let up = edge-rises n e in
    let P : Bool → Type 0 = λ b. bytes_read x.held (if b then Read disk (from - lo) (till - from) else Flush disk) ≡ given_between d (come_to n lba count e) (come_to n lba count (e + 1)) in
    elim (by_test from till) [
      | inl t ↦
          let begins : lo + (from - lo) ≡ come_to n lba count e = omega arith in
          let many : till - from ≡ come_to n lba count (e + 1) - come_to n lba count e = omega arith in
          let there : take (till - from) (drop (lo + (from - lo)) d.blocks) ≡ take (come_to n lba count (e + 1) - come_to n lba count e) (drop (come_to n lba count e) d.blocks) = rw (begins, many) refl in
          subst P (sym t.0) (ap (flat_map (λ (b : List ℕ). b)) (piece-of-piece d.blocks lo (hi - lo) (from - lo) (till - from) (omega arith) ∙ there))
      | inr t ↦
          let none : come_to n lba count (e + 1) - come_to n lba count e ≡ 0 = omega arith in
          subst P (sym t.0) (rw none refl)
    ]

len-on : (d : Blocks) (e disk lba count : ℕ) → lba + count ≤ length d.blocks
    → part_len (extent d e) (Read disk lba count) ≡ (come_to (length d.blocks) lba count (e + 1) - come_to (length d.blocks) lba count e) * 2 ^ d.shift
len-on d e disk lba count inside =
    let n = length d.blocks in
    let x = extent d e in
    let lo = edge n e in
    let from = met_first x lba in
    let till = met_end x lba count in
    let last = part-end d e in
    let up = edge-rises n e in
    let P : Bool → Type 0 = λ b. given_len (if b then Read disk (from - lo) (till - from) else Flush disk) d.shift ≡ (come_to n lba count (e + 1) - come_to n lba count e) * 2 ^ d.shift in
    elim (by_test from till) [
      | inl t ↦
          let many : till - from ≡ come_to n lba count (e + 1) - come_to n lba count e = omega arith in
          subst P (sym t.0) (ap (λ (k : ℕ). k * 2 ^ d.shift) many)
      | inr t ↦
          let none : come_to n lba count (e + 1) - come_to n lba count e ≡ 0 = omega arith in
          subst P (sym t.0) (rw none (zero-mul' (2 ^ d.shift)))
    ]

-- lists of lists, put together
flat-cong : {X A : Type 0} (f g : X → List A) → ((x : X) → f x ≡ g x) → (xs : List X) → flat_map f xs ≡ flat_map g xs
flat-cong f g same [] = refl
flat-cong f g same (x ∷ xs) = rw (same x, flat-cong f g same xs) refl

flat-flat : {X A : Type 0} (f : X → List (List A)) (xs : List X) → flat_map (λ (b : List A). b) (flat_map f xs) ≡ flat_map (λ x. flat_map (λ (b : List A). b) (f x)) xs
flat-flat f [] = refl
flat-flat f (x ∷ xs) = flat_map-append (λ b. b) (f x) (flat_map f xs) ∙ rw (flat-flat f xs) refl

flat-none : {X A : Type 0} (f : X → List A) → ((x : X) → f x ≡ []) → (xs : List X) → flat_map f xs ≡ []
flat-none f none [] = refl
flat-none f none (x ∷ xs) = rw (none x) (flat-none f none xs)

sum-cons : {X : Type 0} (f : X → ℕ) (x : X) (xs : List X) → sum_by f (x ∷ xs) ≡ f x + sum_by f xs
sum-cons f x xs = sum_by-append f (x ∷ []) xs ∙ rw (zero-add (f x)) refl

sum-none : {X : Type 0} (f : X → ℕ) → ((x : X) → f x ≡ 0) → (xs : List X) → sum_by f xs ≡ 0
sum-none f none [] = refl
sum-none f none (x ∷ xs) = sum-cons f x xs ∙ omega (arith, none x, sum-none f none xs)

-- steps between places that rise, added up
sum-telescope : (c : ℕ → ℕ) → ((e : ℕ) → c e ≤ c (e + 1)) → (f : ℕ → ℕ) (size : ℕ) → ((e : ℕ) → f e ≡ (c (e + 1) - c e) * size) → (a k : ℕ)
    → (c a ≤ c (a + k)) × (sum_by f (range_with_len a k) ≡ (c (a + k) - c a) * size)
sum-telescope c rises f size steps a zero =
    let none : c (a + 0) - c a ≡ 0 = rw add-zero (omega arith) in
    (rw add-zero (omega arith), rw none (zero-mul' size))
sum-telescope c rises f size steps a (suc k) =
    let rest = sum-telescope c rises f size steps (a + 1) k in
    let same : a + 1 + k ≡ a + suc k = omega arith in
    let up = rises a in
    let first : c (a + 1) ≤ c (a + suc k) = rw same at rest.0 in
    let tail = rw same at rest.1 in
    let parts : c (a + suc k) - c a ≡ c (a + 1) - c a + (c (a + suc k) - c (a + 1)) = omega arith in
    (omega arith, sum-cons f a (range_with_len (a + 1) k) ∙ rw (steps a, tail, parts) (sym (add-mul (c (a + 1) - c a) (c (a + suc k) - c (a + 1)) size)))

-- the touched extents of a range that isn't empty
record Ends (d : Blocks) (lba count : ℕ) : Type 0 where
  ordered : extent_number (length d.blocks) lba ≤ extent_number (length d.blocks) (lba + count - 1) + 1
  first : come_to (length d.blocks) lba count (extent_number (length d.blocks) lba) ≡ lba
  last : come_to (length d.blocks) lba count (extent_number (length d.blocks) (lba + count - 1) + 1) ≡ lba + count

ends_are : (d : Blocks) (lba count : ℕ) → lba + count ≤ length d.blocks → lba < lba + count → Ends d lba count
ends_are d lba count inside some =
    let n = length d.blocks in
    let low = within n lba (extent_number n lba) (omega arith) (omega arith) refl in
    let high = within n (lba + count - 1) (extent_number n (lba + count - 1)) (omega arith) (omega arith) refl in
    record {
      ordered = omega (arith, numbers-rise n lba (lba + count - 1) (omega arith));
      first = omega (arith, low.0);
      last = omega (arith, high.1);
    }

no-read : (x : Part) (disk lba count : ℕ) (job : ℕ → ℕ → Job) → ((l k : ℕ) → bytes_read x.held (job l k) ≡ []) → bytes_read x.held (on_part x disk lba count job) ≡ []
no-read x disk lba count job none =
    let P : Bool → Type 0 = λ b. bytes_read x.held (if b then job (met_first x lba - x.first) (met_end x lba count - met_first x lba) else Flush disk) ≡ [] in
    elim (by_test (met_first x lba) (met_end x lba count)) [ inl t ↦ subst P (sym t.0) (none _ _) | inr t ↦ subst P (sym t.0) refl ]

bytes_are : (d : Blocks) (job : Job) → end_of job ≤ length d.blocks → flat_map (λ e. part_read (extent d e) job) (touched (length d.blocks) job) ≡ bytes_read d job
bytes_are d (Read disk lba count) inside =
    let n = length d.blocks in
    let c : ℕ → ℕ = come_to n lba count in
    let a = extent_number n lba in
    let b = extent_number n (lba + count - 1) + 1 in
    let F : ℕ → List ℕ = λ e. part_read (extent d e) (Read disk lba count) in
    let G : ℕ → List ℕ = λ e. given_between d (c e) (c (e + 1)) in
    let H : ℕ → List (List ℕ) = λ e. take (c (e + 1) - c e) (drop (c e) d.blocks) in
    let P : Bool → Type 0 = λ t. flat_map F (range_with_len (if t then a else 0) ((if t then b else 0) - (if t then a else 0))) ≡ range_bytes d lba count in
    elim (by_test lba (lba + count)) [
      | inl t ↦
          let ends = ends_are d lba count inside t.1 in
          let whole : a + (b - a) ≡ b = omega (arith, ends.ordered) in
          let all = rw (whole, ends.first, ends.last) at (telescope c (come-rises n lba count) d.blocks a (b - a)).1 in
          let many : lba + count - lba ≡ count = omega arith in
          let there : take (lba + count - lba) (drop lba d.blocks) ≡ take count (drop lba d.blocks) = rw many refl in
          subst P (sym t.0) (flat-cong F G (λ e. read-on d e disk lba count inside) (range_with_len a (b - a)) ∙ sym (flat-flat H (range_with_len a (b - a))) ∙ ap (flat_map (λ (r : List ℕ). r)) (all ∙ there))
      | inr t ↦ let none : count ≡ 0 = omega arith in subst P (sym t.0) (rw none refl)
    ]
bytes_are d (Write disk lba count) inside = flat-none _ (λ e. no-read (extent d e) disk lba count (Write disk) (λ l k. refl)) (touched (length d.blocks) (Write disk lba count))
bytes_are d (Zero disk lba count) inside = flat-none _ (λ e. no-read (extent d e) disk lba count (Zero disk) (λ l k. refl)) (touched (length d.blocks) (Zero disk lba count))
bytes_are d (Flush disk) inside = refl

no-len : (x : Part) (disk lba count : ℕ) (job : ℕ → ℕ → Job) → ((l k : ℕ) → given_len (job l k) x.held.shift ≡ 0) → given_len (on_part x disk lba count job) x.held.shift ≡ 0
no-len x disk lba count job none =
    let P : Bool → Type 0 = λ b. given_len (if b then job (met_first x lba - x.first) (met_end x lba count - met_first x lba) else Flush disk) x.held.shift ≡ 0 in
    elim (by_test (met_first x lba) (met_end x lba count)) [ inl t ↦ subst P (sym t.0) (none _ _) | inr t ↦ subst P (sym t.0) refl ]

len_is : (d : Blocks) (job : Job) → end_of job ≤ length d.blocks → sum_by (λ e. part_len (extent d e) job) (touched (length d.blocks) job) ≡ given_len job d.shift
len_is d (Read disk lba count) inside =
    let n = length d.blocks in
    let c : ℕ → ℕ = come_to n lba count in
    let a = extent_number n lba in
    let b = extent_number n (lba + count - 1) + 1 in
    let F : ℕ → ℕ = λ e. part_len (extent d e) (Read disk lba count) in
    let P : Bool → Type 0 = λ t. sum_by F (range_with_len (if t then a else 0) ((if t then b else 0) - (if t then a else 0))) ≡ count * 2 ^ d.shift in
    elim (by_test lba (lba + count)) [
      | inl t ↦
          let ends = ends_are d lba count inside t.1 in
          let whole : a + (b - a) ≡ b = omega (arith, ends.ordered) in
          let all = rw (whole, ends.first, ends.last) at (sum-telescope c (come-rises n lba count) F (2 ^ d.shift) (λ e. len-on d e disk lba count inside) a (b - a)).1 in
          let many : lba + count - lba ≡ count = omega arith in
          subst P (sym t.0) (all ∙ rw many refl)
      | inr t ↦ let none : count ≡ 0 = omega arith in subst P (sym t.0) (rw none (zero-mul' (2 ^ d.shift)))
    ]
len_is d (Write disk lba count) inside = sum-none _ (λ e. no-len (extent d e) disk lba count (Write disk) (λ l k. refl)) (touched (length d.blocks) (Write disk lba count))
len_is d (Zero disk lba count) inside = sum-none _ (λ e. no-len (extent d e) disk lba count (Zero disk) (λ l k. refl)) (touched (length d.blocks) (Zero disk lba count))
len_is d (Flush disk) inside = refl

pub parts_together : PartsAreTheJob
parts_together d job payload inside data_len = record {
  after = λ e lt. after_is d job payload e inside data_len;
  others = λ e lt none. others_stay d job payload e inside data_len lt (λ i from till number. none (i, from, till, number));
  bytes = bytes_are d job inside;
  len = len_is d job inside;
}
