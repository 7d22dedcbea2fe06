-- The lines of a text are its parts between line ends, but for an empty last one.
use Rattle.std.proofs.Common.{◌≡◌, ◌<◌, ℕ, true, false, cond, eqb, List, [], ◌∷◌, length, refl, sym, arith}
use Rattle.std.specs.Prelude.{◌==◌}
use Rattle.std.specs.List.{slice_split, onto_first}
use Rattle.text_lines.specs.Lines.{lines_of}

last_part : List ℕ → List (List ℕ)
last_part [] = []
last_part (b ∷ bytes) = (b ∷ bytes) ∷ []

trimmed : List (List ℕ) → List (List ℕ)
unfolding last_part
trimmed [] = []
trimmed (part ∷ []) = last_part part
trimmed (part ∷ next ∷ parts) = part ∷ trimmed (next ∷ parts)

-- a part in front of a list of parts that isn't empty stays
kept : (b : ℕ) (parts : List (List ℕ)) → onto_first b (trimmed parts) ≡ trimmed (onto_first b parts)
unfolding trimmed last_part
kept b [] = refl
kept b ([] ∷ []) = refl
kept b ((c ∷ cs) ∷ []) = refl
kept b (part ∷ next ∷ parts) = refl

-- a split has a part
parts_of : (bytes : List ℕ) → (part : List ℕ) × (parts : List (List ℕ))
    × (slice_split (λ b. b == 10) bytes ≡ part ∷ parts)
parts_of [] = ([], [], refl)
parts_of (b ∷ bytes) =
    elim (eqb b 10) as (λ t. (part : List ℕ) × (parts : List (List ℕ))
    × (cond t ([] ∷ slice_split (λ b. b == 10) bytes)
    (onto_first b (slice_split (λ b. b == 10) bytes)) ≡ part ∷ parts)) [
      | true ↦ ([], slice_split (λ b. b == 10) bytes, refl)
      | false ↦ let s = parts_of bytes in (b ∷ s.0, s.1, rw s.2 refl)
    ]

skipped : (part next : List ℕ) (parts rest : List (List ℕ)) → rest ≡ next ∷ parts
    → part ∷ trimmed rest ≡ trimmed (part ∷ rest)
unfolding trimmed
skipped part next parts rest e = rw e refl

lines_trimmed : (bytes : List ℕ) → lines_of bytes ≡ trimmed (slice_split (λ b. b == 10) bytes)
unfolding trimmed last_part
lines_trimmed [] = refl
lines_trimmed (b ∷ bytes) =
    elim (eqb b 10) as (λ t. cond t ([] ∷ lines_of bytes) (onto_first b (lines_of bytes))
    ≡ trimmed (cond t ([] ∷ slice_split (λ b. b == 10) bytes)
    (onto_first b (slice_split (λ b. b == 10) bytes)))) [
      | true ↦ let s = parts_of bytes in
          rw (lines_trimmed bytes) (skipped [] s.0 s.1 (slice_split (λ b. b == 10) bytes) s.2)
      | false ↦ rw (lines_trimmed bytes) (kept b (slice_split (λ b. b == 10) bytes))
    ]

-- the first line, where a line end follows it
pub first_line : (bytes line rest : List ℕ) → slice_split (λ b. b == 10) bytes ≡ line
    ∷ slice_split (λ b. b == 10) rest → lines_of bytes ≡ line ∷ lines_of rest
first_line bytes line rest e =
    let s = parts_of rest in
    rw (
      lines_trimmed bytes,
      lines_trimmed rest,
      e,
    ) (sym (skipped line s.0 s.1 (slice_split (λ b. b == 10) rest) s.2))

-- the only line, which has no end
pub only_line : (bytes : List ℕ) → 0 < length bytes → slice_split (λ b. b == 10) bytes ≡ bytes ∷ []
    → lines_of bytes ≡ bytes ∷ []
unfolding trimmed last_part
only_line [] some e = absurd (omega arith)
only_line (b ∷ bytes) some e = rw (lines_trimmed (b ∷ bytes), e) refl
