-- A line of a journal says a call exactly where it is the call's words, with a space between each two.
use Rattle.std.proofs.Common.{◌≡◌, ◌<◌, ◌≤◌, ◌+◌, ◌%◌, ◌^◌, ℕ, true, false, eqb, ltb, List, [], ◌∷◌, ◌++◌, Some, refl, sym, ap, ◌∙◌, append_assoc, arith, inl, inr, lit≤}
use Rattle.std.specs.Prelude.{codes}
use Rattle.std.specs.Fmt.{decimal}
use Rattle.std.specs.List.{list_all, join_with_byte, AllByRecursion}
use Rattle.std.specs.Option.{option_and_then}
use Rattle.std.specs.Str.{bytes_eq}
use Rattle.std.proofs.lemmas.Bool.{and_parts, ltb-true, lt-ltb, ne_eqb}
use Rattle.std.proofs.lemmas.List.Splits.{join_with_byte-slice_split}
use Rattle.std.proofs.lemmas.Slice.Eq.{bytes_eq-Decides}
use Rattle.std.proofs.lemmas.Fmt.{decimal_by_steps}
use Rattle.configfs_tree.specs.declared.edits.Errno.TheVariants.{EPERM, ENOENT, EACCES, EBUSY, EEXIST, EINVAL, ENOTEMPTY, ENOSPC}
use Rattle.text_lines.specs.Lines.{words_of}
use Rattle.journal_text.specs.Text.{answer_word, line_text}
use Rattle.journal_text.specs.declared.lines.Answer.{Answer}
use Rattle.journal_text.specs.declared.lines.Answer.TheVariants.{Accepted, Refused}
use Rattle.journal_text.specs.declared.lines.JournalLine.{JournalLine}
use Rattle.journal_text.specs.declared.lines.JournalLine.TheVariants.{Edit, Done}
use Rattle.response_files.specs.Journals.{IsNumbered}
use Rattle.response_files.specs.JournalReading.{number_in, all_answers, answer_among, answer_in, done_said, edit_said, call_said, call_in, places_said, places_in}
use Rattle.response_files.proofs.Numbers.{number_was, number_again}
use Rattle.response_files.proofs.Choosing.{chosen, none_some, then_some}

-- ---- bytes above a limit

abbrev pub AllAbove : ℕ → List ℕ → Type 0
AllAbove low xs = list_all (λ b. ltb low b) xs ≡ true

pub above_append : (low : ℕ) (xs ys : List ℕ) → AllAbove low xs → AllAbove low ys
    → AllAbove low (xs ++ ys)
above_append low [] ys s t = t
above_append low (b ∷ xs) ys s t =
    let p = and_parts (ltb low b) (list_all (λ b. ltb low b) xs) s in
    rw (p.0, above_append low xs ys p.1 t) refl

pub above_less : (low less : ℕ) (xs : List ℕ) → less ≤ low → AllAbove low xs → AllAbove less xs
above_less low less [] le s = refl
above_less low less (b ∷ xs) le s =
    let p = and_parts (ltb low b) (list_all (λ b. ltb low b) xs) s in
    let over : low < b = ltb-true low b p.0 in
    rw (lt-ltb less b (omega arith), above_less low less xs le p.1) refl

-- a decimal text has no space
pub above_decimal : (n : ℕ) → n < 2 ^ 32 → AllAbove 32 (decimal n)
above_decimal n h = decimal_by_steps (λ m ds. AllAbove 32 ds) (λ m few. digit m)
    (λ m ds more above. above_append 32 ds ((48 + m % 10) ∷ []) above (digit (m % 10))) n
    (omega arith) where
      digit : (m : ℕ) → AllAbove 32 ((48 + m) ∷ [])
      digit m = rw (lt-ltb 32 (48 + m) (omega arith)) refl

pub above_answer : (a : Answer) → AllAbove 32 (answer_word a)
above_answer Accepted = refl
above_answer (Refused EPERM) = refl
above_answer (Refused ENOENT) = refl
above_answer (Refused EACCES) = refl
above_answer (Refused EBUSY) = refl
above_answer (Refused EEXIST) = refl
above_answer (Refused EINVAL) = refl
above_answer (Refused ENOTEMPTY) = refl
above_answer (Refused ENOSPC) = refl

-- ---- words joined, and cut again

no_space : (b : ℕ) → ltb 32 b ≡ true → eqb b 32 ≡ false
no_space b e = let over : 32 < b = ltb-true 32 b e in ne_eqb b 32 (λ is. absurd (omega (arith, is)))

words_front : (word rest : List ℕ) → AllAbove 32 word
    → words_of (word ++ (32 ∷ rest)) ≡ word ∷ words_of rest
words_front [] rest s = refl
words_front (b ∷ word) rest s =
    let p = and_parts (ltb 32 b) (list_all (λ b. ltb 32 b) word) s in
    rw (no_space b p.0, words_front word rest p.1) refl

words_only : (word : List ℕ) → AllAbove 32 word → words_of word ≡ word ∷ []
words_only [] s = refl
words_only (b ∷ word) s =
    let p = and_parts (ltb 32 b) (list_all (λ b. ltb 32 b) word) s in
    rw (no_space b p.0, words_only word p.1) refl

words_joined : (word : List ℕ) (words : List (List ℕ)) → AllAbove 32 word
    → AllByRecursion (AllAbove 32) words
    → words_of (join_with_byte 32 (word ∷ words)) ≡ word ∷ words
words_joined word [] s all = words_only word s
words_joined word (next ∷ words) s all =
    words_front word (join_with_byte 32 (next ∷ words)) s
    ∙ ap (λ (ws : List (List ℕ)). word ∷ ws) (words_joined next words all.0 all.1)

-- words without a space and the spaces between them end no line
pub above_joined : (word : List ℕ) (words : List (List ℕ)) → AllAbove 32 word
    → AllByRecursion (AllAbove 32) words → AllAbove 10 (join_with_byte 32 (word ∷ words))
above_joined word [] s all = above_less 32 10 word (lit≤ tt) s
above_joined word (next ∷ words) s all =
    above_append 10 word (32 ∷ join_with_byte 32 (next ∷ words)) (above_less 32 10 word (lit≤ tt) s)
    (above_joined next words all.0 all.1)

-- ---- the words of a call

abbrev pub call_words : JournalLine → List (List ℕ)
call_words (Edit place line answer) = codes "edit" ∷ decimal place ∷ decimal line
    ∷ answer_word answer ∷ []
call_words (Done place line) = codes "done" ∷ decimal place ∷ decimal line ∷ []

-- a call's line, without its end
abbrev pub call_row : JournalLine → List ℕ
call_row call = join_with_byte 32 (call_words call)

pub row_ended : (call : JournalLine) → line_text call ≡ call_row call ++ 10 ∷ []
row_ended (Edit place line answer) = simp append_assoc refl
row_ended (Done place line) = simp append_assoc refl

same_bytes : (xs ys : List ℕ) → bytes_eq xs ys ≡ true → xs ≡ ys
same_bytes xs ys e = (bytes_eq-Decides xs ys).0 e

among_was : (word : List ℕ) (answers : List Answer) (a : Answer)
    → answer_among word answers ≡ Some a → word ≡ answer_word a
among_was word [] a e = absurd cc
among_was word (x ∷ answers) a e =
    elim (chosen (bytes_eq word (answer_word x)) (Some x) (answer_among word answers) (Some a) e) [
      | inl is ↦ let same : x ≡ a = (let h = is.1 in cc) in
          same_bytes word (answer_word x) is.0 ∙ ap answer_word same
      | inr isnt ↦ among_was word answers a isnt.1
    ]

answer_again : (a : Answer) → answer_in (answer_word a) ≡ Some a
answer_again Accepted = refl
answer_again (Refused EPERM) = refl
answer_again (Refused ENOENT) = refl
answer_again (Refused EACCES) = refl
answer_again (Refused EBUSY) = refl
answer_again (Refused EEXIST) = refl
answer_again (Refused EINVAL) = refl
answer_again (Refused ENOTEMPTY) = refl
answer_again (Refused ENOSPC) = refl

-- ---- what a line says was spelled

pub record IsSaid (words : List (List ℕ)) (call : JournalLine) : Type 0 where
  pub words_are : words ≡ call_words call
  pub numbered : IsNumbered call

done_words : (kind place line : List ℕ) (p l : ℕ) → kind ≡ codes "done" → place ≡ decimal p
    → line ≡ decimal l → kind ∷ place ∷ line ∷ [] ≡ call_words (Done p l)
done_words kind place line p l k e f = rw (k, e, f) refl

edit_words : (kind place line answer : List ℕ) (p l : ℕ) (a : Answer) → kind ≡ codes "edit"
    → place ≡ decimal p → line ≡ decimal l → answer ≡ answer_word a
    → kind ∷ place ∷ line ∷ answer ∷ [] ≡ call_words (Edit p l a)
edit_words kind place line answer p l a k e f g = rw (k, e, f, g) refl

done_was : (kind place line : List ℕ) (call : JournalLine) → done_said kind place line ≡ Some call
    → IsSaid (kind ∷ place ∷ line ∷ []) call
unfolding done_said
done_was kind place line call e =
    elim (chosen (bytes_eq kind (codes "done")) _ _ (Some call) e) [
      | inr isnt ↦ absurd (none_some call isnt.1)
      | inl is ↦
          let p = then_some (λ p. option_and_then (λ l. Some (Done p l)) (number_in line))
          (number_in place) call is.1 in
          let l = then_some (λ l. Some (Done p.0 l)) (number_in line) call p.2 in
          let same : Done p.0 l.0 ≡ call = (let h = l.2 in cc) in
          let np = number_was place p.0 p.1 in
          let nl = number_was line l.0 l.1 in
          said same (record {
            words_are = done_words kind place line p.0 l.0 (same_bytes kind (codes "done") is.0)
                np.0 nl.0;
            numbered = (np.1, nl.1);
          })
    ] where
      said : {x : JournalLine} → x ≡ call → IsSaid (kind ∷ place ∷ line ∷ []) x
          → IsSaid (kind ∷ place ∷ line ∷ []) call
      said {x} same s = rw (← same) s

edit_was : (kind place line answer : List ℕ) (call : JournalLine)
    → edit_said kind place line answer ≡ Some call
    → IsSaid (kind ∷ place ∷ line ∷ answer ∷ []) call
unfolding edit_said
edit_was kind place line answer call e =
    elim (chosen (bytes_eq kind (codes "edit")) _ _ (Some call) e) [
      | inr isnt ↦ absurd (none_some call isnt.1)
      | inl is ↦
          let p = then_some (λ p. option_and_then (λ l. option_and_then (λ a. Some (Edit p l a))
          (answer_in answer)) (number_in line)) (number_in place) call is.1 in
          let l = then_some (λ l. option_and_then (λ a. Some (Edit p.0 l a)) (answer_in answer))
          (number_in line) call p.2 in
          let a = then_some (λ a. Some (Edit p.0 l.0 a)) (answer_in answer) call l.2 in
          let same : Edit p.0 l.0 a.0 ≡ call = (let h = a.2 in cc) in
          let np = number_was place p.0 p.1 in
          let nl = number_was line l.0 l.1 in
          said same (record {
            words_are = edit_words kind place line answer p.0 l.0 a.0
                (same_bytes kind (codes "edit") is.0) np.0 nl.0
                (among_was answer all_answers a.0 a.1);
            numbered = (np.1, nl.1);
          })
    ] where
      said : {x : JournalLine} → x ≡ call → IsSaid (kind ∷ place ∷ line ∷ answer ∷ []) x
          → IsSaid (kind ∷ place ∷ line ∷ answer ∷ []) call
      said {x} same s = rw (← same) s

said_was : (words : List (List ℕ)) (call : JournalLine) → call_said words ≡ Some call
    → IsSaid words call
said_was [] call e = absurd (none_some call e)
said_was (kind ∷ []) call e = absurd (none_some call e)
said_was (kind ∷ place ∷ []) call e = absurd (none_some call e)
said_was (kind ∷ place ∷ line ∷ []) call e = done_was kind place line call e
said_was (kind ∷ place ∷ line ∷ answer ∷ []) call e = edit_was kind place line answer call e
said_was (kind ∷ place ∷ line ∷ answer ∷ more ∷ rest) call e = absurd (none_some call e)

pub call_was : (line : List ℕ) (call : JournalLine) → call_in line ≡ Some call
    → (line ≡ call_row call) × IsNumbered call
call_was line call e =
    let s = said_was (words_of line) call e in (
      sym (join_with_byte-slice_split 32 line) ∙ ap (λ (ws : List (List ℕ)). join_with_byte 32 ws)
          s.words_are,
      s.numbered,
    )

-- ---- what is spelled is said

words_again : (call : JournalLine) → IsNumbered call → words_of (call_row call) ≡ call_words call
words_again (Edit place line answer) is =
    words_joined (codes "edit") (decimal place ∷ decimal line ∷ answer_word answer ∷ []) refl
    (above_decimal place is.0, (above_decimal line is.1, (above_answer answer, tt)))
words_again (Done place line) is =
    words_joined (codes "done") (decimal place ∷ decimal line ∷ []) refl
    (above_decimal place is.0, (above_decimal line is.1, tt))

said_again : (call : JournalLine) → IsNumbered call → call_said (call_words call) ≡ Some call
unfolding done_said edit_said
said_again (Edit place line answer) is =
    rw (number_again place is.0, number_again line is.1, answer_again answer) refl
said_again (Done place line) is = rw (number_again place is.0, number_again line is.1) refl

pub call_again : (call : JournalLine) → IsNumbered call → call_in (call_row call) ≡ Some call
call_again call is = ap call_said (words_again call is) ∙ said_again call is

-- ---- the number of places

abbrev pub places_row : ℕ → List ℕ
places_row places = codes "places" ++ (32 ∷ decimal places)

places_words : (words : List (List ℕ)) (n : ℕ) → places_said words ≡ Some n
    → (words ≡ codes "places" ∷ decimal n ∷ []) × (n < 2 ^ 32)
places_words [] n e = absurd (none_some n e)
places_words (kind ∷ []) n e = absurd (none_some n e)
places_words (kind ∷ number ∷ []) n e =
    elim (chosen (bytes_eq kind (codes "places")) _ _ (Some n) e) [
      | inr isnt ↦ absurd (none_some n isnt.1)
      | inl is ↦ let was = number_was number n is.1 in
          (two kind number (same_bytes kind (codes "places") is.0) was.0, was.1)
    ] where
      two : (kind number : List ℕ) → kind ≡ codes "places" → number ≡ decimal n
          → kind ∷ number ∷ [] ≡ codes "places" ∷ decimal n ∷ []
      two kind number k e = rw (k, e) refl
places_words (kind ∷ number ∷ more ∷ rest) n e = absurd (none_some n e)

pub places_was : (line : List ℕ) (n : ℕ) → places_in line ≡ Some n
    → (line ≡ places_row n) × (n < 2 ^ 32)
places_was line n e =
    let was = places_words (words_of line) n e in (
      sym (join_with_byte-slice_split 32 line) ∙ ap (λ (ws : List (List ℕ)). join_with_byte 32 ws)
          was.0,
      was.1,
    )

pub places_again : (n : ℕ) → n < 2 ^ 32 → places_in (places_row n) ≡ Some n
places_again n h =
    let words : words_of (places_row n) ≡ codes "places" ∷ decimal n ∷ [] =
    words_joined (codes "places") (decimal n ∷ []) refl (above_decimal n h, tt) in
    ap places_said words ∙ number_again n h
