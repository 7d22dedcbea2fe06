-- What a loop of reads has consumed, and what a loop of writes has passed on.
use Rattle.std.proofs.Common.{◌≡◌, ℕ, ◌+◌, ◌-◌, ◌≤◌, List, [], ◌++◌, length, take, drop, Option, None, Some, IfSome, Ok, Err, sym, ap, ◌∙◌, arith, append_assoc, refl}
use Rattle.std.specs.Io.KnownBytes.{Appends, Consumes, IsAtEnd}
use Rattle.std.proofs.Math.Seq.{take-add, take-length}
use Rattle.std.proofs.lemmas.List.{append-nil, length-drop, length-take-le, drop-append-le, take_at}
use Rattle.run_outside.specs.Outside.{ReadGives}
use Rattle.run_outside.specs.declared.outside.FileError.TheVariants.{TooLong}
use Rattle.run_outside.proofs.Reading.{appended, front_again}

pub appends_none : (known : Option (List ℕ)) (bytes : List ℕ) → Appends known known (take 0 bytes)
appends_none None bytes = tt
appends_none (Some held) bytes = sym (append-nil held)

pub appends_more : (first then last : Option (List ℕ)) (bytes : List ℕ) (n m : ℕ)
    → Appends first then (take n bytes) → Appends then last (take m (drop n bytes))
    → Appends first last (take (n + m) bytes)
appends_more None then last bytes n m done more = tt
appends_more (Some a) None last bytes n m done more = absurd done
appends_more (Some a) (Some b) None bytes n m done more = absurd more
appends_more (Some a) (Some b) (Some c) bytes n m done more = rw (take-add n m bytes) (more
    ∙ (ap (λ (x : List ℕ). x ++ take m (drop n bytes)) done
    ∙ append_assoc a (take n bytes) (take m (drop n bytes))))

-- all that is left may be asked for
pub rest : (done : ℕ) (bytes : List ℕ) → take (length bytes - done) (drop done bytes)
    ≡ drop done bytes
rest done bytes = ap (λ n. take n (drop done bytes)) (sym (length-drop done bytes))
    ∙ take-length (drop done bytes)

consumes_more : (first then last : Option (List ℕ)) (front back : List ℕ)
    → Consumes first then front → Consumes then last back → Consumes first last (front ++ back)
consumes_more None then last front back done more = tt
consumes_more (Some a) None last front back done more = absurd done
consumes_more (Some a) (Some b) None front back done more = absurd more
consumes_more (Some a) (Some b) (Some c) front back done more = rw append_assoc (done
    ∙ ap (λ (x : List ℕ). front ++ x) more)

pub consumes_nothing : (known : Option (List ℕ)) → Consumes known known []
consumes_nothing None = tt
consumes_nothing (Some left) = refl

-- one more read after the first `filled` bytes
pub consumes_on : (first then last : Option (List ℕ)) (start filled n : ℕ) (before after : List ℕ)
    → start ≤ filled → filled ≤ length after
    → take filled after ≡ take filled before → Consumes first then (drop start (take filled before))
    → Consumes then last (take n (drop filled after))
    → Consumes first last (drop start (take (filled + n) after))
consumes_on first then last start filled n before after short within same done more =
    let fits : start ≤ length (take filled after) = rw (length-take-le filled after within) short in
    let earlier : Consumes first then (drop start (take filled after)) = rw same done in
    rw (
      take-add filled n after,
      drop-append-le start (take filled after)
          (take n (drop filled after)),
    ) (consumes_more first then last _ _ earlier more)

consumed_all : (first then last : Option (List ℕ)) (front : List ℕ) → Consumes first then front
    → Consumes then last [] → IsAtEnd last → IfSome first (λ all. all ≡ front)
consumed_all None then last front done more end = tt
consumed_all (Some a) None last front done more end = absurd done
consumed_all (Some a) (Some b) None front done more end = absurd more
consumed_all (Some a) (Some b) (Some c) front done more end = done
    ∙ (ap (λ (x : List ℕ). front ++ x) (more ∙ end) ∙ append-nil front)

consumed_front : (first then : Option (List ℕ)) (front : List ℕ) (n : ℕ) → length front ≡ n
    → Consumes first then front → IfSome first (λ all. take n all ≡ front)
consumed_front None then front n long done = tt
consumed_front (Some a) None front n long done = absurd done
consumed_front (Some a) (Some b) front n long done = ap (take n) done ∙ take_at front b n long

-- the reader has come to its end
pub gives_all : (first then last : Option (List ℕ)) (limit filled : ℕ) (old before after : List ℕ)
    → length old ≤ filled → filled ≤ length old + limit
    → filled ≤ length after → take (length old) before ≡ old
    → take filled after ≡ take filled before
    → Consumes first then (drop (length old) (take filled before)) → Consumes then last []
    → IsAtEnd last
    → ReadGives first limit old (take filled after) (Ok tt)
gives_all first then last limit filled old before after short few within front same done more end =
    let content = drop (length old) (take filled after) in
    let earlier : Consumes first then content = rw same done in (
      content,
      appended old (take filled after) (front_again (length old) filled old before after short front
          same),
      omega (
        arith,
        length-drop (length old) (take filled after),
        length-take-le filled after within,
      ),
      consumed_all first then last content earlier more end,
    )

-- more than the limit came
pub gives_more : (first then : Option (List ℕ)) (limit filled : ℕ) (old new : List ℕ)
    → take (length old) new ≡ old → length new ≡ length old + limit + 1
    → filled ≡ length new → Consumes first then (drop (length old) (take filled new))
    → ReadGives first limit old new (Err TooLong)
gives_more first then limit filled old new front many whole done =
    let content = drop (length old) new in
    let long : length content ≡ limit + 1 = omega (arith, length-drop (length old) new) in
    let all : take filled new ≡ new = ap (λ n. take n new) whole ∙ take-length new in (
      content,
      appended old new front,
      long,
      consumed_front first then content (limit + 1) long
          (rw all at done),
    )
