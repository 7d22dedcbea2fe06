-- The calls of a journal read line after line, as a loop does.
use Rattle.std.proofs.Common.{◌≡◌, ℕ, ◌+◌, List, [], ◌∷◌, ◌++◌, Option, Some, None, Result, Ok, Err, refl, sym, ap, subst, ◌∙◌, append_assoc}
use Rattle.std.proofs.lemmas.List.{append-nil}
use Rattle.journal_text.specs.declared.lines.JournalLine.{JournalLine}
use Rattle.response_files.specs.JournalReading.{◌>>=◌, or_bad, call_in, calls_from}
use Rattle.response_files.specs.declared.journal.JournalError.{JournalError}
use Rattle.response_files.specs.declared.journal.JournalError.TheVariants as errors

-- what was read before, and what is still read
abbrev pub after_those : List JournalLine → Result (List JournalLine) JournalError
    → Result (List JournalLine) JournalError
after_those done read = read >>= λ calls. Ok (done ++ calls)

regroup : (done : List JournalLine) (c : JournalLine)
    (read : Result (List JournalLine) JournalError)
    → after_those done (read >>= λ calls. Ok (c ∷ calls)) ≡ after_those (done ++ c ∷ []) read
regroup done c (Ok calls) = ap (λ (all : List JournalLine). Ok all) (simp append_assoc)
regroup done c (Err e) = refl

pub goes_on : (done : List JournalLine) (n : ℕ) (line : List ℕ) (lines rest : List (List ℕ))
    (c : JournalLine) (total : Result (List JournalLine) JournalError) → lines ≡ line ∷ rest
    → call_in line ≡ Some c → after_those done (calls_from n lines) ≡ total
    → after_those (done ++ c ∷ []) (calls_from (n + 1) rest) ≡ total
unfolding calls_from
goes_on done n line lines rest c total cut said so_far =
    let here : after_those done (calls_from n (line ∷ rest)) ≡ total =
    subst (λ (ls : List (List ℕ)). after_those done (calls_from n ls) ≡ total) cut so_far in
    let one : after_those done (or_bad n (Some c) >>= λ call. calls_from (n + 1) rest >>=
    λ calls. Ok (call ∷ calls)) ≡ total =
    subst (λ (o : Option JournalLine). after_those done (or_bad n o >>= λ call.
    calls_from (n + 1) rest >>= λ calls. Ok (call ∷ calls)) ≡ total) said here in
    sym (regroup done c (calls_from (n + 1) rest)) ∙ one

pub ends : (done : List JournalLine) (n : ℕ) (line : List ℕ) (lines rest : List (List ℕ))
    (total : Result (List JournalLine) JournalError) → lines ≡ line ∷ rest
    → call_in line ≡ None → after_those done (calls_from n lines) ≡ total
    → total ≡ Err (errors.BadLine n)
unfolding calls_from
ends done n line lines rest total cut said so_far =
    let here : after_those done (calls_from n (line ∷ rest)) ≡ total =
    subst (λ (ls : List (List ℕ)). after_those done (calls_from n ls) ≡ total) cut so_far in
    let one : after_those done (or_bad n None >>= λ call. calls_from (n + 1) rest >>=
    λ calls. Ok (call ∷ calls)) ≡ total =
    subst (λ (o : Option JournalLine). after_those done (or_bad n o >>= λ call.
    calls_from (n + 1) rest >>= λ calls. Ok (call ∷ calls)) ≡ total) said here in
    sym one

pub is_done : (done : List JournalLine) (n : ℕ) (lines : List (List ℕ))
    (total : Result (List JournalLine) JournalError) → lines ≡ []
    → after_those done (calls_from n lines) ≡ total → total ≡ Ok done
unfolding calls_from
is_done done n lines total none so_far =
    let one : after_those done (calls_from n lines) ≡ Ok done =
    rw none (ap (λ (calls : List JournalLine). Ok calls) (append-nil done)) in
    sym so_far ∙ one
