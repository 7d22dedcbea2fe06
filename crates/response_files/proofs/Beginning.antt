-- Bytes are malformed exactly where they don't begin with the print of a record.
use Rattle.std.proofs.Common.{◌≡◌, ◌<◌, ℕ, zero, suc, List, [], ◌∷◌, drop, get_or, All, Result, Ok, Err, refl, sym, ap, ◌∙◌, arith}
use Rattle.response_files.specs.Responses.{Response, IsMalformed, BeginWithRecord, MalformedIsNoRecord}
use Rattle.response_files.specs.ResponseReading.{next_response, width}
use Rattle.response_files.specs.declared.responses.RecordError.{RecordError}
use Rattle.response_files.specs.declared.responses.RecordError.TheVariants as errors
use Rattle.response_files.proofs.Fields.{AreSmall}
use Rattle.response_files.proofs.Printing.{printed_read, read_was, fault_was, malformed_next}

each_small : (xs : List ℕ) → All (λ b. b < 256) xs → (k : ℕ) → get_or xs k 0 < 256
each_small [] all k = omega arith
each_small (x ∷ xs) all zero = all 0 0 (omega arith)
each_small (x ∷ xs) all (suc k) = each_small xs (λ i d lt. all (suc i) d (omega arith)) k

refused : (r : Response) (e : RecordError) → ◌≡◌ {A = Result Response RecordError} (Ok r) (Err e)
    → ⊥
refused r e same = cc

unread : (bytes : List ℕ) → IsMalformed bytes → BeginWithRecord bytes → ⊥
unread bytes m b = refused b.response (errors.Malformed 0)
    (sym (printed_read 0 b.response b.more b.is) ∙ ap (next_response 0) (sym b.cut)
    ∙ malformed_next 0 bytes m)

malformed : (bytes : List ℕ) → AreSmall bytes → (BeginWithRecord bytes → ⊥) → IsMalformed bytes
malformed bytes small none = by_next (next_response 0 bytes) refl where
  by_next : (x : Result Response RecordError) → next_response 0 bytes ≡ x → IsMalformed bytes
  by_next (Ok r) e =
      let p = read_was 0 bytes r small e in
      absurd (none (record {
        response = r;
        more = drop (width r) bytes;
        is = p.is;
        cut = p.cut;
      }))
  by_next (Err f) e = (fault_was 0 bytes f e).1

pub law : MalformedIsNoRecord
law bytes all = (unread bytes, malformed bytes (record { each = each_small bytes all }))
