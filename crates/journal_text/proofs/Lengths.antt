-- How long a journal can be.
use Rattle.std.proofs.Common.{◌≡◌, ◌≤◌, ◌<◌, ℕ, ◌+◌, ◌*◌, ◌^◌, ◌&&◌, leb, Bool, true, false, List, [], ◌∷◌, ◌++◌, length, length-append, arith, lit≤, refl}
use Rattle.std.specs.Prelude.{codes}
use Rattle.std.specs.Fmt.{decimal}
use Rattle.std.specs.List.{sum_by}
use Rattle.std.proofs.lemmas.Bool.{leb-true}
use Rattle.std.proofs.lemmas.Fmt.{length-decimal-le}
use Rattle.std.proofs.lemmas.List.Sums.{sum_by-cons}
use Rattle.configfs_tree.specs.Errnos.{name_of}
use Rattle.configfs_tree.specs.declared.edits.Errno.{Errno}
use Rattle.configfs_tree.specs.declared.edits.Errno.TheVariants.{EPERM, ENOENT, EACCES, EBUSY, EEXIST, EINVAL, ENOTEMPTY, ENOSPC}
use Rattle.journal_text.specs.Rooms.{edit_count, done_count, edits_in, dones_in, is_within, line_room, lines_room, journal_room, room_of}
use Rattle.journal_text.specs.Text.{answer_word, call_text, edit_text, done_text, line_text, head_text}
use Rattle.journal_text.specs.declared.lines.Answer.{Answer}
use Rattle.journal_text.specs.declared.lines.Answer.TheVariants.{Accepted, Refused}
use Rattle.journal_text.specs.declared.lines.JournalLine.{JournalLine}
use Rattle.journal_text.specs.declared.lines.JournalLine.TheVariants.{Edit, Done}

short_name : (errno : Errno) → length (name_of errno) ≤ 9
short_name EPERM = lit≤ tt
short_name ENOENT = lit≤ tt
short_name EACCES = lit≤ tt
short_name EBUSY = lit≤ tt
short_name EEXIST = lit≤ tt
short_name EINVAL = lit≤ tt
short_name ENOTEMPTY = lit≤ tt
short_name ENOSPC = lit≤ tt

short_word : (answer : Answer) → length (answer_word answer) ≤ 9
short_word Accepted = lit≤ tt
short_word (Refused errno) = short_name errno

short_number : (n : ℕ) → n < 2 ^ 32 → length (decimal n) ≤ 10
short_number n small = length-decimal-le 10 n (omega arith) (omega (arith, small)) (omega
    (arith, small))

numbers_len : (place line : ℕ) → place < 2 ^ 32 → line < 2 ^ 32
    → length ((32 ∷ decimal place) ++ (32 ∷ decimal line)) ≤ 22
numbers_len place line p l = omega (
  arith,
  short_number place p,
  short_number line l,
  length-append (32 ∷ decimal place) (32 ∷ decimal line),
)

call_len : (word : List ℕ) (place line : ℕ) → length word ≡ 4 → place < 2 ^ 32 → line < 2 ^ 32
    → length (call_text word place line) ≤ 26
call_len word place line four p l = omega (
  arith,
  four,
  numbers_len place line p l,
  length-append word ((32 ∷ decimal place) ++ (32 ∷ decimal line)),
)

ended_len : (word tail : List ℕ) (place line most : ℕ) → length word ≡ 4 → place < 2 ^ 32
    → line < 2 ^ 32 → length tail ≤ most → length (call_text word place line ++ tail) ≤ 26 + most
ended_len word tail place line most four p l short = omega (
  arith,
  short,
  call_len word place line four p l,
  length-append (call_text word place line) tail,
)

edit_len : (word name tail : List ℕ) (place line : ℕ) → length word ≡ 4 → place < 2 ^ 32
    → line < 2 ^ 32 → length name ≤ 9 → length tail ≤ 1
    → length (call_text word place line ++ (32 ∷ name) ++ tail) ≤ 37
edit_len word name tail place line four p l short one = omega (
  arith,
  short,
  one,
  ended_len word (32 ∷ name) place line 10 four p l (omega (arith, short)),
  length-append (call_text word place line ++ (32 ∷ name)) tail,
)

pub edit_text_len : (place line : ℕ) (answer : Answer) → place < 2 ^ 32 → line < 2 ^ 32
    → length (edit_text place line answer) ≤ 37
edit_text_len place line answer p l = edit_len (codes "edit") (answer_word answer) (10 ∷ [])
    place line refl p l (short_word answer) (lit≤ tt)

pub done_text_len : (place line : ℕ) → place < 2 ^ 32 → line < 2 ^ 32
    → length (done_text place line) ≤ 27
done_text_len place line p l = ended_len (codes "done") (10 ∷ []) place line 1 refl p l (lit≤ tt)

pub head_len : (places : ℕ) → places < 2 ^ 32 → length (head_text places) ≤ 34
head_len places small = omega (
  arith,
  short_number places small,
  length-append (codes "nvmet-journal 1\nplaces" ++ (32 ∷ decimal places)) (10 ∷ []),
  length-append (codes "nvmet-journal 1\nplaces") (32 ∷ decimal places),
)

one_room : (line : JournalLine) → line_room line ≡ edit_count line * 37 + done_count line * 27
one_room (Edit place line answer) = refl
one_room (Done place line) = refl

lines_need : (lines : List JournalLine)
    → lines_room lines ≡ edits_in lines * 37 + dones_in lines * 27
lines_need [] = refl
lines_need (line ∷ lines) = omega (
  arith,
  one_room line,
  lines_need lines,
  sum_by-cons line_room line lines,
  sum_by-cons edit_count line lines,
  sum_by-cons done_count line lines,
)

and-parts : (a b : Bool) → (a && b) ≡ true → (a ≡ true) × (b ≡ true)
and-parts true true e = (refl, refl)
and-parts true false e = absurd cc
and-parts false b e = absurd cc

pub fits : (lines : List JournalLine) (edits : ℕ) → is_within lines edits ≡ true
    → journal_room lines ≤ room_of edits
fits lines edits within =
    let p = and-parts (leb (edits_in lines) edits) (leb (dones_in lines) edits) within in
    let few : edits_in lines ≤ edits = leb-true _ _ p.0 in
    let ends : dones_in lines ≤ edits = leb-true _ _ p.1 in
    omega (arith, lines_need lines, few, ends)
