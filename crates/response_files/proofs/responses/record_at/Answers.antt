use Rattle.std.proofs.Common.{◌≡◌, ◌+◌, Ok, drop, take, sym, ap, ◌∙◌, arith, length}
use Rattle.std.specs.Prelude.{Some}
use Rattle.std.proofs.lemmas.List.{drop-drop}
use Rattle.response_files.specs.ResponseReading.{head_in}
use Rattle.response_files.proofs.Printing.{next_is}
use Rattle.response_files.proofs.responses.record_at.Goals as goal

pub returns-clause-exact : goal.returns-clause-exact
returns-clause-exact c =
    let rest = drop c.args.at c.args.bytes.now in
    let h = c.in-Some.head in
    let len : length c.from_offset-rest.result.now ≡ length rest =
    ap (λ l. length l) c.from_offset-rest.ensures in
    let read : head_in rest ≡ Some h = ap head_in (sym c.from_offset-rest.ensures)
    ∙ sym c.head_in.ensures ∙ c.in-Some.is in
    let behind : drop 32 rest ≡ drop (c.args.at + 32) c.args.bytes.now = rw drop-drop in
    next_is c.args.at rest h (omega (arith, len)) read
    ∙ ap (λ l. Ok (record { head = h; payload = take h.len l })) behind
