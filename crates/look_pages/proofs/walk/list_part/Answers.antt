use Rattle.std.proofs.Common.{◌≡◌, ◌<◌, ◌≤◌, ◌∙◌, ℕ, List, length, arith, refl, sym}
use Rattle.std.proofs.lemmas.Bool.{ltb-true, ltb-false}
use Rattle.sqe_cqe.specs.Answers.{view_of}
use Rattle.sqe_cqe.specs.Fields.{spelled}
use Rattle.look_pages.specs.Chosen.{chosen_nsids}
use Rattle.look_pages.specs.declared.walk.TheConstants.{MOST_LISTED, PAGE}
use Rattle.look_pages.specs.Pages.{Emits, zeros, words, filled, window, list_bytes}
use Rattle.look_pages.proofs.Walks.{short_list, long_list}
use Rattle.look_pages.proofs.Parts.{written_filled}
use Rattle.look_pages.proofs.walk.list_part.Goals as goal

pub returns-then-is_too_long-clause-page : goal.returns-then-is_too_long-clause-page
returns-then-is_too_long-clause-page g c =
    let list = chosen_nsids c.args.choice (view_of (g.L.Look.told (g.L.Look.behind c.args.look.now)) c.args.b.now) in
    let n = length c.args.to.now in
    let long : MOST_LISTED < length list = rw (← c.count_chosen.ensures.value) (ltb-true MOST_LISTED c.count_chosen.result (sym c.is_too_long.ensures ∙ c.if-is_too_long.true)) in
    let emits : Emits c.args.offset 0 (zeros n) c.emit_word.new.to (spelled 4 0xffffffff) = rw (← c.clear.ensures) c.emit_word.ensures in
    let same : length c.emit_word.new.to ≡ n = omega arith in
    rw (long_list list long) (written_filled c.args.offset n PAGE c.emit_word.new.to (spelled 4 0xffffffff) same emits)

pub returns-clause-page : goal.returns-clause-page
returns-clause-page g c =
    let list = chosen_nsids c.args.choice (view_of (g.L.Look.told (g.L.Look.behind c.args.look.now)) c.args.b.now) in
    let n = length c.args.to.now in
    let short : length list ≤ MOST_LISTED = rw (← c.count_chosen.ensures.value) (ltb-false MOST_LISTED c.count_chosen.result (sym c.is_too_long.ensures ∙ c.if-is_too_long.false)) in
    let emits : Emits c.args.offset 0 (zeros n) c.emit_nsids-end.new.to (words list) = rw (← c.clear.ensures, ← c.count_chosen.ensures.behind) c.emit_nsids-end.ensures.emits in
    let same : length c.emit_nsids-end.new.to ≡ n = omega arith in
    rw (short_list list short) (written_filled c.args.offset n PAGE c.emit_nsids-end.new.to (words list) same emits)
