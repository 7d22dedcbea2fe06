-- Disks keep their shapes, and what is held fits them.
use Rattle.std.proofs.Common.{◌≡◌, ℕ, zero, suc, ◌+◌, ◌*◌, ◌/◌, ◌^◌, ◌≤◌, ◌<◌, List, [], ◌∷◌, ◌++◌, length, take, drop, Option, Some, None, refl, sym, ap, subst, ◌∙◌, slice_get, slice_set, arith}
use Rattle.std.proofs.Math.Nat.{mul-div_cancel, one-le-pow}
use Rattle.std.proofs.lemmas.List.{length-append, length-take, length-drop, length-replicate}
use Rattle.mem_bdev.specs.Blocks.{Blocks, cut, with_blocks, zero_blocks}
use Rattle.io_commands.specs.declared.jobs.Job.{Job}
use Rattle.io_commands.specs.declared.jobs.Job.TheVariants.{Read, Write, Zero, Flush}
use Rattle.io_commands.specs.Jobs.{disk_of, blocks_after, given_len, FitsDisk, HasData}
use Rattle.tree_target.specs.Steps.{worked_on, worked}
use Rattle.tree_target.specs.Kept.{FitsOn, HasDataOn, given_on}

-- ---- one disk
length_cut : (n size : ℕ) (bytes : List ℕ) → length (cut n size bytes) ≡ n
length_cut zero size bytes = refl
length_cut (suc n) size bytes = ap (λ k. suc k) (length_cut n size (drop size bytes))

put_len : (d : Blocks) (lba : ℕ) (new : List (List ℕ)) → lba + length new ≤ length d.blocks
    → length (with_blocks d lba new).blocks ≡ length d.blocks
put_len d lba new inside =
    let a = length-append (take lba d.blocks) (new ++ drop (lba + length new) d.blocks) in
    let b = length-append new (drop (lba + length new) d.blocks) in
    let c = length-take lba d.blocks in
    let e = length-drop (lba + length new) d.blocks in
    omega (arith, a, b, c, e, inside)

whole_count : (count shift len : ℕ) → len ≡ count * 2 ^ shift → len / 2 ^ shift ≡ count
whole_count count shift len e =
    let some : 0 < 2 ^ shift = omega (arith, one-le-pow shift 2 (omega arith)) in
    ap (λ (n : ℕ). n / 2 ^ shift) e ∙ mul-div_cancel count some

pub job_len : (d : Blocks) (job : Job) (payload : List ℕ)
    → FitsDisk job d.shift (length d.blocks) → HasData job d.shift (length payload)
    → length (blocks_after d job payload).blocks ≡ length d.blocks
job_len d (Read disk lba count) payload fits asked = refl
job_len d (Write disk lba count) payload fits asked =
    let n = whole_count count d.shift (length payload) asked in
    let m = length_cut (length payload / 2 ^ d.shift) (2 ^ d.shift) payload in
    let inside = fits.inside in
    put_len d lba (cut (length payload / 2 ^ d.shift) (2 ^ d.shift) payload)
    (omega (arith, n, m, inside))
job_len d (Zero disk lba count) payload fits asked =
    let m : length (zero_blocks d.shift count) ≡ count = length-replicate count _ in
    let inside = fits.inside in
    put_len d lba (zero_blocks d.shift count) (omega (arith, m, inside))
job_len d (Flush disk) payload fits asked = refl

job_shift : (d : Blocks) (job : Job) (payload : List ℕ) → (blocks_after d job payload).shift
    ≡ d.shift
job_shift d (Read disk lba count) payload = refl
job_shift d (Write disk lba count) payload = refl
job_shift d (Zero disk lba count) payload = refl
job_shift d (Flush disk) payload = refl

-- ---- all disks
pub record Shape : Type 0 where
  pub shift : ℕ
  pub count : ℕ

abbrev pub shape_of : Option Blocks → Option Shape
shape_of None = None
shape_of (Some d) = Some (record { shift = d.shift; count = length d.blocks })

shape_same : (s t n m : ℕ) → s ≡ t → n ≡ m → (let x : Shape = record { shift = s; count = n } in x)
    ≡ (let y : Shape = record { shift = t; count = m } in y)
shape_same s t n m e f = rw (e, f) refl

set_shape : (blocks : List Blocks) (at i : ℕ) (d e : Blocks) → slice_get blocks at ≡ Some d
    → shape_of (Some e) ≡ shape_of (Some d)
    → shape_of (slice_get (slice_set blocks at e) i) ≡ shape_of (slice_get blocks i)
set_shape [] at i d e here same = refl
set_shape (b ∷ blocks) zero zero d e here same = same ∙ ap shape_of (sym here)
set_shape (b ∷ blocks) zero (suc i) d e here same = refl
set_shape (b ∷ blocks) (suc at) zero d e here same = refl
set_shape (b ∷ blocks) (suc at) (suc i) d e here same = set_shape blocks at i d e here same

worked_here : (job : Job) (payload : List ℕ) (blocks : List Blocks) (i : ℕ) (o : Option Blocks)
    → slice_get blocks (disk_of job) ≡ o → FitsOn job o → HasDataOn job o (length payload)
    → shape_of (slice_get (worked_on job payload blocks o) i) ≡ shape_of (slice_get blocks i)
worked_here job payload blocks i None here fits asked = absurd fits
worked_here job payload blocks i (Some d) here fits asked =
    set_shape blocks (disk_of job) i d (blocks_after d job payload) here
    (ap (λ (s : Shape). Some s) (shape_same _ _ _ _ (job_shift d job payload)
    (job_len d job payload fits asked)))

pub worked_shape : (job : Job) (payload : List ℕ) (blocks : List Blocks) (i : ℕ)
    → FitsOn job (slice_get blocks (disk_of job))
    → HasDataOn job (slice_get blocks (disk_of job)) (length payload)
    → shape_of (slice_get (worked job payload blocks) i) ≡ shape_of (slice_get blocks i)
worked_shape job payload blocks i fits asked =
    worked_here job payload blocks i (slice_get blocks (disk_of job)) refl fits asked

set_len : (blocks : List Blocks) (at : ℕ) (e : Blocks) → length (slice_set blocks at e)
    ≡ length blocks
set_len [] at e = refl
set_len (b ∷ blocks) zero e = refl
set_len (b ∷ blocks) (suc at) e = ap (λ n. suc n) (set_len blocks at e)

worked_on_len : (job : Job) (payload : List ℕ) (blocks : List Blocks) (o : Option Blocks)
    → length (worked_on job payload blocks o) ≡ length blocks
worked_on_len job payload blocks None = refl
worked_on_len job payload blocks (Some d) =
    set_len blocks (disk_of job) (blocks_after d job payload)

pub worked_len : (job : Job) (payload : List ℕ) (blocks : List Blocks)
    → length (worked job payload blocks) ≡ length blocks
worked_len job payload blocks =
    worked_on_len job payload blocks (slice_get blocks (disk_of job))

-- ---- what depends on the shape alone
abbrev fits_by : Job → Option Shape → Type 0
fits_by job None = ⊥
fits_by job (Some s) = FitsDisk job s.shift s.count

to_fits : (job : Job) (o : Option Blocks) → FitsOn job o → fits_by job (shape_of o)
to_fits job None f = f
to_fits job (Some d) f = f

from_fits : (job : Job) (o : Option Blocks) → fits_by job (shape_of o) → FitsOn job o
from_fits job None f = f
from_fits job (Some d) f = f

pub fits_along : (job : Job) (o p : Option Blocks) → shape_of p ≡ shape_of o → FitsOn job o
    → FitsOn job p
fits_along job o p same f = from_fits job p (subst (fits_by job) (sym same) (to_fits job o f))

abbrev data_by : Job → ℕ → Option Shape → Type 0
data_by job len None = Unit {0}
data_by job len (Some s) = HasData job s.shift len

to_data : (job : Job) (len : ℕ) (o : Option Blocks) → HasDataOn job o len
    → data_by job len (shape_of o)
to_data job len None f = f
to_data job len (Some d) f = f

from_data : (job : Job) (len : ℕ) (o : Option Blocks) → data_by job len (shape_of o)
    → HasDataOn job o len
from_data job len None f = f
from_data job len (Some d) f = f

pub data_along : (job : Job) (len : ℕ) (o p : Option Blocks) → shape_of p ≡ shape_of o
    → HasDataOn job o len → HasDataOn job p len
data_along job len o p same f =
    from_data job len p (subst (data_by job len) (sym same) (to_data job len o f))

abbrev given_by : Job → Option Shape → ℕ
given_by job None = 0
given_by job (Some s) = given_len job s.shift

given_is : (job : Job) (o : Option Blocks) → given_on job o ≡ given_by job (shape_of o)
given_is job None = refl
given_is job (Some d) = refl

pub given_along : (job : Job) (o p : Option Blocks) → shape_of p ≡ shape_of o
    → given_on job p ≡ given_on job o
given_along job o p same = given_is job p ∙ (ap (given_by job) same ∙ sym (given_is job o))
