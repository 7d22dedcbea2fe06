-- What a part asks of its extent and of the job's data, and what it leaves.
use Rattle.std.proofs.Common.{◌≡◌, ◌≤◌, ◌<◌, ℕ, ◌+◌, ◌-◌, ◌*◌, ◌/◌, ◌^◌, Bool, if◌then◌else◌, List, length, replicate, Option, Some, refl, sym, ap, subst, ◌∙◌, inl, inr, arith}
use Rattle.std.proofs.Math.Nat.{mul-div_cancel, one-le-pow, mul-le-mul_right, add-mul}
use Rattle.std.proofs.lemmas.List.{length-replicate}
use Rattle.mem_bdev.specs.Blocks.{Blocks, cut, zero_blocks}
use Rattle.mem_bdev.proofs.Cuts.{length-cut}
use Rattle.io_commands.specs.declared.jobs.Job.{Job}
use Rattle.io_commands.specs.declared.jobs.Job.TheVariants.{Read, Write, Zero, Flush}
use Rattle.io_commands.specs.Jobs.{HasData, blocks_after, end_of}
use Rattle.disk_extents.specs.Extents.{Part}
use Rattle.disk_extents.specs.Held.{held_in, IsHeld}
use Rattle.disk_extents.specs.Parts.{met_first, met_end, on_part, part_of, piece_of}
use Rattle.disk_extents.proofs.Edges.{by_test}
use Rattle.disk_extents.proofs.Splices.{length-piece, length-spliced}

-- the bytes of what an extent has of a Write's range
pub piece-fits : (lba count from till size len : ℕ) → lba ≤ from → till ≤ lba + count → from < till → len ≡ count * size
    → (from - lba) * size + (till - from) * size ≤ len
piece-fits lba count from till size len low high some is =
    let parts : from - lba + (till - from) ≤ count = omega arith in
    omega (arith, mul-le-mul_right size parts, add-mul (from - lba) (till - from) size)

-- a fact of a job's part, by whether the extent has some of the range
by_meeting : (x : Part) (disk lba count : ℕ) (job : ℕ → ℕ → Job) (P : Job → Type 0)
    → (met_first x lba < met_end x lba count → P (job (met_first x lba - x.first) (met_end x lba count - met_first x lba))) → P (Flush disk) → P (on_part x disk lba count job)
by_meeting x disk lba count job P meets apart =
    let Q : Bool → Type 0 = λ b. P (if b then job (met_first x lba - x.first) (met_end x lba count - met_first x lba) else Flush disk) in
    elim (by_test (met_first x lba) (met_end x lba count)) [ inl t ↦ subst Q (sym t.0) (meets t.1) | inr t ↦ subst Q (sym t.0) apart ]

pub part-has-data : (x : Part) (job : Job) (payload : List ℕ) → HasData job x.held.shift (length payload) → HasData (part_of x job) x.held.shift (length (piece_of x job payload))
part-has-data x (Read disk lba count) payload data_len = by_meeting x disk lba count (Read disk) (λ j. HasData j x.held.shift 0) (λ meets. tt) tt
part-has-data x (Write disk lba count) payload data_len =
    let size = 2 ^ x.held.shift in
    let from = met_first x lba in
    let till = met_end x lba count in
    by_meeting x disk lba count (Write disk) (λ j. HasData j x.held.shift (length (piece_of x (Write disk lba count) payload)))
    (λ meets. length-piece payload ((from - lba) * size) ((till - from) * size) (piece-fits lba count from till size (length payload) (omega arith) (omega arith) meets data_len))
    tt
part-has-data x (Zero disk lba count) payload data_len = by_meeting x disk lba count (Zero disk) (λ j. HasData j x.held.shift 0) (λ meets. tt) tt
part-has-data x (Flush disk) payload data_len = tt

pub part-inside : (x : Part) (job : Job) → end_of (part_of x job) ≤ length x.held.blocks
part-inside x (Read disk lba count) = by_meeting x disk lba count (Read disk) (λ j. end_of j ≤ length x.held.blocks) (λ meets. omega arith) (omega arith)
part-inside x (Write disk lba count) = by_meeting x disk lba count (Write disk) (λ j. end_of j ≤ length x.held.blocks) (λ meets. omega arith) (omega arith)
part-inside x (Zero disk lba count) = by_meeting x disk lba count (Zero disk) (λ j. end_of j ≤ length x.held.blocks) (λ meets. omega arith) (omega arith)
part-inside x (Flush disk) = omega arith

-- a job leaves the shape of what it is done on
pub keeps-shift : (d : Blocks) (job : Job) (payload : List ℕ) → (blocks_after d job payload).shift ≡ d.shift
keeps-shift d (Read disk lba count) payload = refl
keeps-shift d (Write disk lba count) payload = refl
keeps-shift d (Zero disk lba count) payload = refl
keeps-shift d (Flush disk) payload = refl

pub keeps-length : (d : Blocks) (job : Job) (payload : List ℕ) → end_of job ≤ length d.blocks → HasData job d.shift (length payload) → length (blocks_after d job payload).blocks ≡ length d.blocks
keeps-length d (Read disk lba count) payload inside len = refl
keeps-length d (Write disk lba count) payload inside len =
    let size = 2 ^ d.shift in
    let all : length payload / size ≡ count = rw len (mul-div_cancel count (omega (arith, one-le-pow d.shift 2 (omega arith)))) in
    let many : length (cut (length payload / size) size payload) ≡ count = length-cut (length payload / size) size payload ∙ all in
    length-spliced d.blocks (cut (length payload / size) size payload) lba (omega arith)
keeps-length d (Zero disk lba count) payload inside len =
    let many : length (zero_blocks d.shift count) ≡ count = length-replicate {A = List ℕ} count (replicate (2 ^ d.shift) 0) in
    length-spliced d.blocks (zero_blocks d.shift count) lba (omega arith)
keeps-length d (Flush disk) payload inside len = refl

pub held-after : (first end size shift : ℕ) (d new : Blocks) (job : Job) (payload : List ℕ) → IsHeld first end size shift (Some d) → new ≡ blocks_after d job payload
    → end_of job ≤ length d.blocks → HasData job d.shift (length payload) → IsHeld first end size shift (Some new)
held-after first end size shift d new job payload held is inside data_len =
    let same : new.shift ≡ d.shift = rw is (keeps-shift d job payload) in
    let many : length new.blocks ≡ length d.blocks = rw is (keeps-length d job payload inside data_len) in
    record {
      size_is = held.size_is;
      size_small = held.size_small;
      shift_is = same ∙ held.shift_is;
      end_is = omega (arith, held.end_is);
      small = held.small;
    }

-- what an extent shows is what it keeps
pub held-size : (first end size shift : ℕ) (disk : Option Blocks) (x : Part) → IsHeld first end size shift disk → held_in shift disk ≡ x.held → size ≡ 2 ^ x.held.shift
held-size first end size shift disk x held view = held.size_is ∙ ap (λ (s : ℕ). 2 ^ s) (sym held.shift_is ∙ ap (λ (b : Blocks). b.shift) view)
