-- The extents in slots, and which of them an Execute leaves.
use Rattle.std.proofs.Common.{◌≡◌, ◌≢◌, ℕ, zero, suc, ◌/◌, ◌%◌, ◌<◌, ◌==◌, ◌&&◌, nat_lt, nat_le, Bool, true, false, List, [], ◌∷◌, length, Option, Some, None, slice_set, refl, sym, ap, subst, ◌∙◌, arith}
use Rattle.std.specs.List.{slice_get}
use mathlib.Core.Logic.{dite}
use native.Mathlib.Decide.{ℕ_discrete}
use Rattle.std.proofs.lemmas.Bool.{both_ways, lt-ltb}
use Rattle.std.proofs.Common.{le-leb, eq-eqb}
use Rattle.mem_bdev.specs.Blocks.{Blocks}
use Rattle.io_commands.specs.declared.jobs.Job.{Job}
use Rattle.io_commands.specs.Jobs.{disk_of, blocks_after, FitsDisk, HasData}
use Rattle.disk_extents.specs.Extents.{Part, extent}
use Rattle.disk_extents.specs.Parts.{part_after}
use Rattle.disk_extents.specs.Together.{Touches, first_touched, end_touched, IsTogether}
use Rattle.disk_extents.proofs.Edges.{touched_those}
use Rattle.disk_extents.proofs.Jobs.{parts_together}
use Rattle.tree_target.specs.Steps.{worked_on, worked}
use Rattle.target_states.specs.Extents.{extent_in, slot_in, is_touched}
use Rattle.target_states.proofs.Keeping.{HasSize}

-- ---- lists
set_here : (xs : List Blocks) (i : ℕ) (x y : Blocks) → slice_get xs i ≡ Some x
    → slice_get (slice_set xs i y) i ≡ Some y
set_here [] i x y e = absurd (no_disk x e) where
  no_disk : (d : Blocks) → None ≡ Some d → ⊥
  no_disk d e = cc
set_here (b ∷ xs) zero x y e = refl
set_here (b ∷ xs) (suc i) x y e = set_here xs i x y e

set_other : (xs : List Blocks) (i j : ℕ) (y : Blocks) → j ≢ i
    → slice_get (slice_set xs i y) j ≡ slice_get xs j
set_other [] i j y ne = refl
set_other (b ∷ xs) zero zero y ne = absurd (ne refl)
set_other (b ∷ xs) zero (suc j) y ne = refl
set_other (b ∷ xs) (suc i) zero y ne = refl
set_other (b ∷ xs) (suc i) (suc j) y ne = set_other xs i j y (λ e. ne (ap (λ (n : ℕ). suc n) e))

-- ---- what isn't touched
untouched : (blocks : ℕ) (job : Job) (e : ℕ)
    → (nat_le (first_touched blocks job) e && nat_lt e (end_touched blocks job)) ≡ false
    → Touches blocks job e → ⊥
untouched blocks job e off t =
    let r = (touched_those blocks e job).0 t in
    let low : nat_le (first_touched blocks job) e ≡ true = le-leb _ _ r.0 in
    let high : nat_lt e (end_touched blocks job) ≡ true = lt-ltb _ _ r.1 in
    both_ways _ off (both low high)
  where
    both : {a b : Bool} → a ≡ true → b ≡ true → (a && b) ≡ true
    both p q = rw (p, q) refl

below_eight : (n : ℕ) → n % 8 < 8
below_eight n = omega arith

pub fits_size : (job : Job) (shift count : ℕ) (o : Option Blocks) → (size : HasSize o shift count)
    → FitsDisk job shift count → FitsDisk job size.disk.shift (length size.disk.blocks)
fits_size job shift count o size fits =
    subst (λ (k : ℕ). FitsDisk job k (length size.disk.blocks)) (sym size.shift_is)
    (subst (λ (k : ℕ). FitsDisk job shift k) (sym size.count_is) fits)

pub data_size : (job : Job) (shift count len : ℕ) (o : Option Blocks)
    → (size : HasSize o shift count) → HasData job shift len → HasData job size.disk.shift len
data_size job shift count len o size asked =
    subst (λ (k : ℕ). HasData job k len) (sym size.shift_is) asked

-- ---- an Execute on the disk with this number
here_left : (blocks : List Blocks) (job : Job) (payload : List ℕ) (n : ℕ) (d : Blocks)
    → slice_get blocks (disk_of job) ≡ Some d → n / 8 ≡ disk_of job
    → FitsDisk job d.shift (length d.blocks) → HasData job d.shift (length payload)
    → (nat_le (first_touched (length d.blocks) job) (n % 8)
    && nat_lt (n % 8) (end_touched (length d.blocks) job)) ≡ false
    → slot_in (slice_set blocks (disk_of job) (blocks_after d job payload)) n ≡ slot_in blocks n
here_left blocks job payload n d there on fits asked off =
    let after : Blocks = blocks_after d job payload in
    let t : IsTogether d job payload = parts_together d job payload fits.inside asked in
    let same : extent after (n % 8) ≡ extent d (n % 8) =
    t.others (n % 8) (below_eight n) (untouched (length d.blocks) job (n % 8) off) in
    ap (λ (k : ℕ). extent_in (n % 8)
    (slice_get (slice_set blocks (disk_of job) after) k)) on
    ∙ (ap (extent_in (n % 8)) (set_here blocks (disk_of job) d after there)
    ∙ (ap (λ (x : Part). Some x) same
    ∙ (ap (extent_in (n % 8)) (sym there)
    ∙ ap (λ (k : ℕ). extent_in (n % 8) (slice_get blocks k)) (sym on))))

pub worked_left : (blocks : List Blocks) (job : Job) (payload : List ℕ) (n shift count : ℕ)
    → HasSize (slice_get blocks (disk_of job)) shift count → FitsDisk job shift count
    → HasData job shift (length payload)
    → ((n / 8 == disk_of job) && is_touched job (n % 8) (Some (shift, count))) ≡ false
    → slot_in (worked job payload blocks) n ≡ slot_in blocks n
worked_left blocks job payload n shift count size fits asked off =
    ap (λ (o : Option Blocks). slot_in (worked_on job payload blocks o) n) size.is
    ∙ dite (ℕ_discrete (n / 8) (disk_of job))
    (λ on. here_left blocks job payload n size.disk size.is on
    (fits_size job shift count _ size fits)
    (data_size job shift count (length payload) _ size asked)
    (subst (λ (k : ℕ). (nat_le (first_touched k job) (n % 8)
    && nat_lt (n % 8) (end_touched k job)) ≡ false) (sym size.count_is) (second on off)))
    (λ ne. ap (extent_in (n % 8)) (set_other blocks (disk_of job) (n / 8)
    (blocks_after size.disk job payload) ne))
  where
    second : {a : ℕ} {b : ℕ} {c : Bool} → a ≡ b → ((a == b) && c) ≡ false → c ≡ false
    second {a} {b} {c} e h = sym (ap (λ x. x && c) (eq-eqb a b e)) ∙ h

-- ---- each extent of the disk after its part of the job
some_part : (x y : Part) → Some x ≡ Some y → x ≡ y
some_part x y e = cc

stands_here : (blocks : List Blocks) (job : Job) (payload : List ℕ) (n : ℕ) (d : Blocks) (x : Part)
    → slice_get blocks (disk_of job) ≡ Some d → n / 8 ≡ disk_of job
    → FitsDisk job d.shift (length d.blocks) → HasData job d.shift (length payload)
    → slot_in blocks n ≡ Some x
    → slot_in (slice_set blocks (disk_of job) (blocks_after d job payload)) n
    ≡ Some (part_after x job payload)
stands_here blocks job payload n d x there on fits asked stands =
    let after : Blocks = blocks_after d job payload in
    let t : IsTogether d job payload = parts_together d job payload fits.inside asked in
    let here : slot_in blocks n ≡ Some (extent d (n % 8)) =
    ap (λ (k : ℕ). extent_in (n % 8) (slice_get blocks k)) on ∙ ap (extent_in (n % 8)) there in
    let is : extent d (n % 8) ≡ x = some_part (extent d (n % 8)) x (sym here ∙ stands) in
    ap (λ (k : ℕ). extent_in (n % 8)
    (slice_get (slice_set blocks (disk_of job) after) k)) on
    ∙ (ap (extent_in (n % 8)) (set_here blocks (disk_of job) d after there)
    ∙ (ap (λ (y : Part). Some y) (sym (t.after (n % 8) (below_eight n)))
    ∙ ap (λ (y : Part). Some (part_after y job payload)) is))

pub parts_stand : (blocks : List Blocks) (job : Job) (payload : List ℕ) (n shift count : ℕ)
    (x : Part) → HasSize (slice_get blocks (disk_of job)) shift count → FitsDisk job shift count
    → HasData job shift (length payload) → n / 8 ≡ disk_of job → slot_in blocks n ≡ Some x
    → slot_in (worked job payload blocks) n ≡ Some (part_after x job payload)
parts_stand blocks job payload n shift count x size fits asked on stands =
    ap (λ (o : Option Blocks). slot_in (worked_on job payload blocks o) n) size.is
    ∙ stands_here blocks job payload n size.disk x size.is on (fits_size job shift count _ size fits)
    (data_size job shift count (length payload) _ size asked) stands
