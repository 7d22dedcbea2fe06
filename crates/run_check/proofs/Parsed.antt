-- What was read of one file of records, for the calls above.
use Rattle.std.proofs.Common.{◌≡◌, ◌≢◌, ◌≤◌, ◌<◌, ℕ, ◌+◌, ◌^◌, Bool, true, false, eqb, eqb-true, List, [], ◌∷◌, length, map, Option, Some, None, slice_get, refl, sym, ◌∙◌, arith, inl, inr}
use Rattle.std.specs.Prelude.{All, ◌||◌, ◌&&◌}
use Rattle.std.specs.List.{AllByRecursion, onto_first}
use Rattle.std.proofs.lemmas.Bool.{cases_lt}
use Rattle.std.proofs.lemmas.Option.{slice_get_within}
use Rattle.std.proofs.lemmas.List.Elements.{All-from_recursion}
use Rattle.text_lines.specs.Lines.{lines_of}
use Rattle.sqe_cqe.specs.declared.cqe.Cqe.{Cqe}
use Rattle.run_records.specs.declared.records.Answer.{Answer}
use Rattle.run_records.specs.declared.records.Answer.TheVariants as answers
use Rattle.response_files.specs.declared.journal.JournalError.{JournalError}
use Rattle.response_files.specs.declared.journal.JournalError.TheVariants as journals
use Rattle.response_files.specs.Journals.{IsFirstBad}
use Rattle.response_files.specs.Responses.{IsResponse, is_answered, is_blank, response_in}
use Rattle.response_files.specs.declared.responses.Record.{Record}
use Rattle.run_transcript.specs.Printing.{no_completion}
use Rattle.check_records.specs.Steps.{IsBlankBy, IsBlankUnlessAnswered}

-- ---- lines
onto_length : (b : ℕ) (ls : List (List ℕ)) → length (onto_first b ls) ≤ length ls + 1
onto_length b [] = omega arith
onto_length b (l ∷ ls) = omega arith

lines_length : (bytes : List ℕ) → length (lines_of bytes) ≤ length bytes
lines_length [] = omega arith
lines_length (b ∷ bytes) = by (eqb b 10) refl (lines_length bytes) where
  by : (t : Bool) → eqb b 10 ≡ t → length (lines_of bytes) ≤ length bytes
      → length (lines_of (b ∷ bytes)) ≤ length (b ∷ bytes)
  by true e le = rw e (omega (arith, le))
  by false e le = rw e (omega (arith, le, onto_length b (lines_of bytes)))

-- the first bad line of a journal within its limit has a number below 2 ^ 32
pub bad_line_small : (bytes : List ℕ) (line : ℕ) → length bytes ≤ 4194304 → IsFirstBad bytes line
    → line < 2 ^ 32
bad_line_small bytes line le bad = by (slice_get (lines_of bytes) bad.at) refl where
  by : (o : Option (List ℕ)) → slice_get (lines_of bytes) bad.at ≡ o → line < 2 ^ 32
  by None is = elim (cases_lt bad.at 2) [
    | inl lt ↦ omega (arith, bad.number_is, lt)
    | inr ge ↦ absurd (bad.bad (rw is ge))
  ]
  by (Some l) is =
      let lt : bad.at < length (lines_of bytes) = slice_get_within (lines_of bytes) bad.at l is in
      omega (arith, bad.number_is, lt, lines_length bytes, le)

apart : (line : ℕ) → journals.BadLine line ≡ journals.Memory → ⊥
apart line h = absurd cc

same : (a b : ℕ) → journals.BadLine a ≡ journals.BadLine b → a ≡ b
same a b h = cc

-- so has the line that reading ends at
pub told_line_small : (bytes : List ℕ) (line : ℕ) (e : JournalError) → e ≡ journals.BadLine line
    → (e ≢ journals.Memory → (n : ℕ) × (e ≡ journals.BadLine n) × IsFirstBad bytes n)
    → length bytes ≤ 4194304 → line < 2 ^ 32
told_line_small bytes line e is fault le =
    let bad = fault (λ memory. apart line (sym is ∙ memory)) in
    let small = bad_line_small bytes bad.0 le bad.2 in
    omega (arith, same line bad.0 (sym is ∙ bad.1), small)

-- ---- records
and_left : (a b : Bool) → (a && b) ≡ true → a ≡ true
and_left true b e = refl
and_left false b e = absurd cc

and_right : (a b : Bool) → (a && b) ≡ true → b ≡ true
and_right true b e = e
and_right false b e = absurd cc

-- a completion of which each field is 0
all_zero : (result sq_head sq_id cid status : ℕ) → result ≡ 0 → sq_head ≡ 0 → sq_id ≡ 0 → cid ≡ 0
    → status ≡ 0
    → ◌≡◌ {A = Cqe} (record {
      result = result;
      sq_head = sq_head;
      sq_id = sq_id;
      cid = cid;
      status = status;
    }) no_completion
all_zero result sq_head sq_id cid status a b c d e = rw (a, b, c, d, e) refl

blank_is : (c : Cqe) → is_blank c ≡ true → c ≡ no_completion
unfolding is_blank
blank_is c e =
    let x1 = eqb c.result 0 in
    let x2 = eqb c.sq_head 0 in
    let x3 = eqb c.sq_id 0 in
    let x4 = eqb c.cid 0 in
    let x5 = eqb c.status 0 in
    let e4 = and_left (x1 && x2 && x3 && x4) x5 e in
    let e3 = and_left (x1 && x2 && x3) x4 e4 in
    let e2 = and_left (x1 && x2) x3 e3 in
    all_zero c.result c.sq_head c.sq_id c.cid c.status (eqb-true c.result 0 (and_left x1 x2 e2))
    (eqb-true c.sq_head 0 (and_right x1 x2 e2)) (eqb-true c.sq_id 0 (and_right (x1 && x2) x3 e3))
    (eqb-true c.cid 0 (and_right (x1 && x2 && x3) x4 e4))
    (eqb-true c.status 0 (and_right (x1 && x2 && x3 && x4) x5 e))

blank_by : (a : Answer) (c : Cqe) → (is_answered a || is_blank c) ≡ true → IsBlankBy a c
blank_by answers.Held c e = blank_is c e
blank_by answers.Answered c e = tt
blank_by answers.Waiting c e = blank_is c e
blank_by answers.NoEvent c e = blank_is c e

blanks : (bytes : List ℕ) (records : List Record)
    → AllByRecursion IsResponse (map (response_in bytes) records)
    → AllByRecursion (λ (r : Record). IsBlankUnlessAnswered r.head) records
blanks bytes [] a = tt
blanks bytes (r ∷ records) a =
    (blank_by r.head.answer r.head.cqe a.0.head.blank, blanks bytes records a.1)

pub all_blank : (bytes : List ℕ) (records : List Record)
    → AllByRecursion IsResponse (map (response_in bytes) records)
    → All (λ (r : Record). IsBlankUnlessAnswered r.head) records
all_blank bytes records a = All-from_recursion (λ (r : Record). IsBlankUnlessAnswered r.head) records
    (blanks bytes records a)
