-- The head that 32 bytes say.
use Rattle.std.proofs.Common.{◌≡◌, ◌≢◌, ◌⊎◌, ℕ, Bool, true, false, ◌&&◌, ◌||◌, eqb, List, take, drop, Option, Some, None, refl, sym, ap, subst, ◌∙◌, arith, inl, inr}
use Rattle.std.specs.Option.{option_and_then}
use Rattle.std.proofs.lemmas.Bool.{eqb-true, and_parts, and_cases, or_parts}
use Rattle.std.proofs.lemmas.Option.{cond_some}
use Rattle.sqe_cqe.specs.Fields.{field}
use Rattle.sqe_cqe.specs.Cqe.{cqe_of}
use Rattle.sqe_cqe.specs.declared.cqe.Cqe.{Cqe}
use Rattle.run_records.specs.Records.{answer_code, kind_code}
use Rattle.run_records.specs.declared.records.Kind.{Kind}
use Rattle.run_records.specs.declared.records.Kind.TheVariants.{Submit, Execute, Poll, Control}
use Rattle.run_records.specs.declared.records.Answer.{Answer}
use Rattle.run_records.specs.declared.records.Answer.TheVariants.{Held, Answered, Waiting, NoEvent}
use Rattle.run_records.specs.declared.records.Head.{Head}
use Rattle.response_files.specs.Responses.{IsCoded, may_answer, is_answered, is_blank}
use Rattle.response_files.specs.ResponseReading.{kind_coded, answer_coded, head_with, is_well, head_if_well, head_in}
use Rattle.response_files.proofs.Choosing.{chosen}

-- ---- codes

pub kind_again : (k : Kind) → kind_coded (kind_code k) ≡ Some k
kind_again Submit = refl
kind_again Execute = refl
kind_again Poll = refl
kind_again Control = refl

pub answer_again : (a : Answer) → answer_coded (answer_code a) ≡ Some a
answer_again Held = refl
answer_again Answered = refl
answer_again Waiting = refl
answer_again NoEvent = refl

kind_is : (n : ℕ) (k : Kind) (x : Kind) (code : ℕ) → eqb code n ≡ true → kind_code x ≡ n
    → ◌≡◌ {A = Option Kind} (Some x) (Some k) → kind_code k ≡ code
kind_is n k x code e is same =
    let one : x ≡ k = cc in
    ap kind_code (sym one) ∙ is ∙ sym (eqb-true code n e)

pub kind_was : (code : ℕ) (k : Kind) → kind_coded code ≡ Some k → kind_code k ≡ code
kind_was code k e =
    elim (chosen (eqb code 1) _ _ (Some k) e) [
      | inl a ↦ kind_is 1 k Submit code a.0 refl a.1
      | inr a ↦ elim (chosen (eqb code 2) _ _ (Some k) a.1) [
        | inl b ↦ kind_is 2 k Execute code b.0 refl b.1
        | inr b ↦ elim (chosen (eqb code 3) _ _ (Some k) b.1) [
          | inl c ↦ kind_is 3 k Poll code c.0 refl c.1
          | inr c ↦ elim (chosen (eqb code 4) _ _ (Some k) c.1) [
            | inl d ↦ kind_is 4 k Control code d.0 refl d.1
            | inr d ↦ let h = d.1 in absurd cc
          ]
        ]
      ]
    ]

answer_is : (n : ℕ) (k : Answer) (x : Answer) (code : ℕ) → eqb code n ≡ true → answer_code x ≡ n
    → ◌≡◌ {A = Option Answer} (Some x) (Some k) → answer_code k ≡ code
answer_is n k x code e is same =
    let one : x ≡ k = cc in
    ap answer_code (sym one) ∙ is ∙ sym (eqb-true code n e)

pub answer_was : (code : ℕ) (k : Answer) → answer_coded code ≡ Some k → answer_code k ≡ code
answer_was code k e =
    elim (chosen (eqb code 0) _ _ (Some k) e) [
      | inl a ↦ answer_is 0 k Held code a.0 refl a.1
      | inr a ↦ elim (chosen (eqb code 1) _ _ (Some k) a.1) [
        | inl b ↦ answer_is 1 k Answered code b.0 refl b.1
        | inr b ↦ elim (chosen (eqb code 2) _ _ (Some k) b.1) [
          | inl c ↦ answer_is 2 k Waiting code c.0 refl c.1
          | inr c ↦ elim (chosen (eqb code 3) _ _ (Some k) c.1) [
            | inl d ↦ answer_is 3 k NoEvent code d.0 refl d.1
            | inr d ↦ let h = d.1 in absurd cc
          ]
        ]
      ]
    ]

-- ---- what a head that was read says

pub record Stands (bytes : List ℕ) (h : Head) : Type 0 where
  pub place : h.place ≡ field 0 4 bytes
  pub kind : kind_code h.kind ≡ field 4 1 bytes
  pub answer : answer_code h.answer ≡ field 5 1 bytes
  pub zeros : field 6 2 bytes ≡ 0
  pub number : h.number ≡ field 8 4 bytes
  pub len : h.len ≡ field 12 4 bytes
  pub cqe : h.cqe ≡ cqe_of (take 16 (drop 16 bytes))
  pub may : may_answer h.kind h.answer ≡ true
  pub blank : (is_answered h.answer || is_blank h.cqe) ≡ true

record Well (bytes : List ℕ) (h : Head) : Type 0 where
  zeros : field 6 2 bytes ≡ 0
  may : may_answer h.kind h.answer ≡ true
  blank : (is_answered h.answer || is_blank h.cqe) ≡ true

well_parts : (bytes : List ℕ) (h : Head) → is_well bytes h ≡ true → Well bytes h
unfolding is_well
well_parts bytes h e =
    let p = and_parts (eqb (field 6 2 bytes) 0 && may_answer h.kind h.answer)
    (is_answered h.answer || is_blank h.cqe) e in
    let q = and_parts (eqb (field 6 2 bytes) 0) (may_answer h.kind h.answer) p.0 in
    record { zeros = eqb-true (field 6 2 bytes) 0 q.0; may = q.1; blank = p.1 }

stands_if : (bytes : List ℕ) (k : Kind) (a : Answer) (h : Head)
    → kind_coded (field 4 1 bytes) ≡ Some k → answer_coded (field 5 1 bytes) ≡ Some a
    → head_if_well bytes (head_with bytes k a) ≡ Some h → Stands bytes h
unfolding head_if_well
stands_if bytes k a h ek ea e =
    let c = cond_some (is_well bytes (head_with bytes k a)) (head_with bytes k a) h e in
    let w = well_parts bytes (head_with bytes k a) c.0 in
    let s : Stands bytes (head_with bytes k a) = record {
      place = refl;
      kind = kind_was (field 4 1 bytes) k ek;
      answer = answer_was (field 5 1 bytes) a ea;
      zeros = w.zeros;
      number = refl;
      len = refl;
      cqe = refl;
      may = w.may;
      blank = w.blank;
    } in
    subst (λ (x : Head). Stands bytes x) c.1 s

by_answer : (bytes : List ℕ) (k : Kind) (h : Head) (o : Option Answer)
    → kind_coded (field 4 1 bytes) ≡ Some k → answer_coded (field 5 1 bytes) ≡ o
    → option_and_then (λ answer. head_if_well bytes (head_with bytes k answer)) o ≡ Some h
    → Stands bytes h
by_answer bytes k h None ek ea e = absurd cc
by_answer bytes k h (Some a) ek ea e = stands_if bytes k a h ek ea e

by_kind : (bytes : List ℕ) (h : Head) (o : Option Kind) → kind_coded (field 4 1 bytes) ≡ o
    → option_and_then (λ kind. option_and_then (λ answer. head_if_well bytes
    (head_with bytes kind answer)) (answer_coded (field 5 1 bytes))) o ≡ Some h
    → Stands bytes h
by_kind bytes h None ek e = absurd cc
by_kind bytes h (Some k) ek e = by_answer bytes k h (answer_coded (field 5 1 bytes)) ek refl e

pub head_stands : (bytes : List ℕ) (h : Head) → head_in bytes ≡ Some h → Stands bytes h
unfolding head_in
head_stands bytes h e = by_kind bytes h (kind_coded (field 4 1 bytes)) refl e

same_head : (a b : Head) → a.place ≡ b.place → a.kind ≡ b.kind → a.answer ≡ b.answer
    → a.number ≡ b.number → a.len ≡ b.len → a.cqe ≡ b.cqe → a ≡ b
same_head a b p k w n l c =
    subst (λ (x : Cqe). ◌≡◌ {A = Head} a (record {
      place = b.place;
      kind = b.kind;
      answer = b.answer;
      number = b.number;
      len = b.len;
      cqe = x;
    })) c (subst (λ (x : ℕ). ◌≡◌ {A = Head} a (record {
      place = b.place;
      kind = b.kind;
      answer = b.answer;
      number = b.number;
      len = x;
      cqe = a.cqe;
    })) l (subst (λ (x : ℕ). ◌≡◌ {A = Head} a (record {
      place = b.place;
      kind = b.kind;
      answer = b.answer;
      number = x;
      len = a.len;
      cqe = a.cqe;
    })) n (subst (λ (x : Answer). ◌≡◌ {A = Head} a (record {
      place = b.place;
      kind = b.kind;
      answer = x;
      number = a.number;
      len = a.len;
      cqe = a.cqe;
    })) w (subst (λ (x : Kind). ◌≡◌ {A = Head} a (record {
      place = b.place;
      kind = x;
      answer = a.answer;
      number = a.number;
      len = a.len;
      cqe = a.cqe;
    })) k (subst (λ (x : ℕ). ◌≡◌ {A = Head} a (record {
      place = x;
      kind = a.kind;
      answer = a.answer;
      number = a.number;
      len = a.len;
      cqe = a.cqe;
    })) p refl)))))

pub stands_read : (bytes : List ℕ) (h : Head) → Stands bytes h → head_in bytes ≡ Some h
unfolding head_in head_if_well is_well
stands_read bytes h s =
    let same : head_with bytes h.kind h.answer ≡ h = same_head (head_with bytes h.kind h.answer) h
    (sym s.place) refl refl (sym s.number) (sym s.len) (sym s.cqe) in
    let blank : (is_answered h.answer || is_blank (cqe_of (take 16 (drop 16 bytes)))) ≡ true =
    rw (← s.cqe) s.blank in
    rw (
      ← s.kind,
      ← s.answer,
      kind_again h.kind,
      answer_again h.answer,
      s.zeros,
      s.may,
      blank,
    ) (ap (λ (x : Head). Some x) same)

-- ---- why no head is read

abbrev pub Faulty : List ℕ → Type 0
Faulty bytes = (field 6 2 bytes ≢ 0)
    ⊎ ((IsCoded (field 4 1 bytes) (field 5 1 bytes) → ⊥)
    ⊎ ((field 5 1 bytes ≢ 1) × (is_blank (cqe_of (take 16 (drop 16 bytes))) ≡ false)))

answered_code : (a : Answer) (n : ℕ) → answer_code a ≡ n → is_answered a ≡ false → n ≢ 1
answered_code Held n e f = λ g. absurd (omega (arith, e, g))
answered_code Answered n e f = absurd cc
answered_code Waiting n e f = λ g. absurd (omega (arith, e, g))
answered_code NoEvent n e f = λ g. absurd (omega (arith, e, g))

answered_is : (a : Answer) (n : ℕ) → answer_code a ≡ n → n ≢ 1 → is_answered a ≡ false
answered_is Held n e f = refl
answered_is Answered n e f = absurd (f (sym e))
answered_is Waiting n e f = refl
answered_is NoEvent n e f = refl

same_kind : (a b : Kind) → kind_code a ≡ kind_code b → a ≡ b
same_kind a b e =
    let s : ◌≡◌ {A = Option Kind} (Some a) (Some b) = sym (kind_again a) ∙ ap kind_coded e
    ∙ kind_again b in cc

same_answer : (a b : Answer) → answer_code a ≡ answer_code b → a ≡ b
same_answer a b e =
    let s : ◌≡◌ {A = Option Answer} (Some a) (Some b) = sym (answer_again a) ∙ ap answer_coded e
    ∙ answer_again b in cc

-- no head is read where there is a fault
pub faulty_unread : (bytes : List ℕ) (h : Head) → Faulty bytes → Stands bytes h → ⊥
faulty_unread bytes h (inl zeros) s = zeros s.zeros
faulty_unread bytes h (inr (inl coded)) s = coded (h.kind, h.answer, s.kind, s.answer, s.may)
faulty_unread bytes h (inr (inr blank)) s =
    let not : is_answered h.answer ≡ false = answered_is h.answer (field 5 1 bytes) s.answer
    blank.0 in
    let none : is_blank h.cqe ≡ false = ap is_blank s.cqe ∙ blank.1 in
    let both : (false || false) ≡ true = rw (not, none) at s.blank in
    absurd cc

not_well : (bytes : List ℕ) (k : Kind) (a : Answer) → kind_code k ≡ field 4 1 bytes
    → answer_code a ≡ field 5 1 bytes → is_well bytes (head_with bytes k a) ≡ false
    → Faulty bytes
unfolding is_well
not_well bytes k a ek ea e =
    let blank : Bool = is_blank (cqe_of (take 16 (drop 16 bytes))) in
    elim (and_cases (eqb (field 6 2 bytes) 0 && may_answer k a) (is_answered a || blank) e) [
      | inl f ↦ elim (and_cases (eqb (field 6 2 bytes) 0) (may_answer k a) f) [
        | inl z ↦ inl (λ zero. absurd (let t : eqb 0 0 ≡ false = rw zero at z in cc))
        | inr m ↦ inr (inl (λ coded.
            let sk = same_kind coded.0 k (coded.2 ∙ sym ek) in
            let sa = same_answer coded.1 a (coded.3 ∙ sym ea) in
            let t : may_answer k a ≡ true = subst (λ (x : Kind). may_answer x a ≡ true) sk
            (subst (λ (x : Answer). may_answer coded.0 x ≡ true) sa coded.4) in
            absurd (let no : true ≡ false = sym t ∙ m in cc)))
      ]
      | inr f ↦
          let p = or_parts (is_answered a) blank f in
          inr (inr (answered_code a (field 5 1 bytes) ea p.0, p.1))
    ]

-- a head isn't read where it has a fault
fault_if : (bytes : List ℕ) (k : Kind) (a : Answer) → kind_coded (field 4 1 bytes) ≡ Some k
    → answer_coded (field 5 1 bytes) ≡ Some a
    → head_if_well bytes (head_with bytes k a) ≡ None → Faulty bytes
unfolding head_if_well
fault_if bytes k a ek ea e =
    elim (chosen (is_well bytes (head_with bytes k a)) _ _ None e) [
      | inl was ↦ let h = was.1 in absurd cc
      | inr not ↦ not_well bytes k a (kind_was (field 4 1 bytes) k ek)
          (answer_was (field 5 1 bytes) a ea) not.0
    ]

fault_by_answer : (bytes : List ℕ) (k : Kind) (o : Option Answer)
    → kind_coded (field 4 1 bytes) ≡ Some k → answer_coded (field 5 1 bytes) ≡ o
    → option_and_then (λ answer. head_if_well bytes (head_with bytes k answer)) o ≡ None
    → Faulty bytes
fault_by_answer bytes k None ek ea e = inr (inl (λ coded.
    let s = sym (answer_again coded.1) ∙ ap answer_coded coded.3 ∙ ea in absurd cc))
fault_by_answer bytes k (Some a) ek ea e = fault_if bytes k a ek ea e

fault_by_kind : (bytes : List ℕ) (o : Option Kind) → kind_coded (field 4 1 bytes) ≡ o
    → option_and_then (λ kind. option_and_then (λ answer. head_if_well bytes
    (head_with bytes kind answer)) (answer_coded (field 5 1 bytes))) o ≡ None
    → Faulty bytes
fault_by_kind bytes None ek e = inr (inl (λ coded.
    let s = sym (kind_again coded.0) ∙ ap kind_coded coded.2 ∙ ek in absurd cc))
fault_by_kind bytes (Some k) ek e =
    fault_by_answer bytes k (answer_coded (field 5 1 bytes)) ek refl e

pub unread_faulty : (bytes : List ℕ) → head_in bytes ≡ None → Faulty bytes
unfolding head_in
unread_faulty bytes e = fault_by_kind bytes (kind_coded (field 4 1 bytes)) refl e
