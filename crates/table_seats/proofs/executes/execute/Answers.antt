use Rattle.std.proofs.Common.{◌≡◌, ◌++◌, ℕ, List, ◌<◌, arith, ap, sym, refl, ◌∙◌, subst, get_or}
use Rattle.ref_state.specs.declared.kinds.Tag.{Tag}
use Rattle.ref_state.specs.Steps.{is_slot, is_home_slot, without, Some_where}
use Rattle.table_rule.specs.declared.rule.Told.{Told}
use Rattle.ref_state.specs.State.{total}
use Rattle.table_rule.specs.declared.rule.Claim.{Claim}
use Rattle.table_rule.specs.Shown.{claims_of}
use Rattle.table_rule.specs.Meant.{target}
use Rattle.table_seats.specs.EndingMeans.{ending_means}
use Rattle.table_seats.specs.Taking.{turn_of}
use Rattle.table_seats.proofs.Taking as taking
use Rattle.table_seats.proofs.Submitting.{Mine}
use Rattle.table_seats.proofs.executes.execute.Goals as goal

pub place_execute-place-requires-clause-turns : goal.place_execute-place-requires-clause-turns
place_execute-place-requires-clause-turns g c = λ n near on.
    taking.all_in_hand c.args.seat.now.base.me c.take_out.new.seat.base.me c.take_out-2.new.seat.base.me (c.take_out.ensures.took c.in_ok-first.first c.in_ok-first.was) (c.take_out-2.ensures.took c.in_ok-second.second c.in_ok-second.was) c.requires.free c.args.hold.call c.args.hold.disk n on

pub put_in-requires-clause-turn : goal.put_in-requires-clause-turn
put_in-requires-clause-turn g c =
    let turns = taking.turns_two c.args.seat.now.base.me c.take_out.new.seat.base.me c.take_out-2.new.seat.base.me (c.take_out.ensures.took c.in_ok-first.first c.in_ok-first.was) (c.take_out-2.ensures.took c.in_ok-second.second c.in_ok-second.was) c.requires.free in
    subst (Some_where (is_home_slot 1)) (sym (ap (λ (z : Told). z.view.turns) c.place_execute-place.ensures.executed.1.told ∙ turns)) (turn_of 1, refl)

pub put_in-requires-clause-stands : goal.put_in-requires-clause-stands
put_in-requires-clause-stands g c =
    let tag : Tag = record { kind = 2; caller = c.args.hold.call.caller; number = c.args.hold.call.number } in let x = c.place_execute-place.ensures.executed.1 in
    subst (λ (l : List Tag). tag.number ≡ get_or (target ending_means l).blocks 1 0) (sym (ap (λ (z : Told). z.known) x.told)) (taking.wrote (c.take_out-2.new.seat.base.me.0.known ++ x.between) tag refl).1

pub put_in-requires-2-clause-turn : goal.put_in-requires-2-clause-turn
put_in-requires-2-clause-turn g c =
    let turns = taking.turns_two c.args.seat.now.base.me c.take_out.new.seat.base.me c.take_out-2.new.seat.base.me (c.take_out.ensures.took c.in_ok-first.first c.in_ok-first.was) (c.take_out-2.ensures.took c.in_ok-second.second c.in_ok-second.was) c.requires.free in
    subst (Some_where (is_home_slot 0)) (sym (ap (λ (z : Mine). z.0.view.turns) c.put_in.ensures.view
    ∙ ap (without (is_slot 1)) (ap (λ (z : Told). z.view.turns) c.place_execute-place.ensures.executed.1.told ∙ turns))) (turn_of 0, refl)

pub put_in-requires-2-clause-stands : goal.put_in-requires-2-clause-stands
put_in-requires-2-clause-stands g c =
    let tag : Tag = record { kind = 2; caller = c.args.hold.call.caller; number = c.args.hold.call.number } in let x = c.place_execute-place.ensures.executed.1 in
    subst (λ (l : List Tag). tag.number ≡ get_or (target ending_means l).blocks 0 0) (sym (ap (λ (z : Mine). z.0.known) c.put_in.ensures.view ∙ ap (λ (z : Told). z.known) x.told)) (taking.wrote (c.take_out-2.new.seat.base.me.0.known ++ x.between) tag refl).0

pub returns-clause-rests : goal.returns-clause-rests
returns-clause-rests g c = λ found is. let tag : Tag = record { kind = 2; caller = c.args.hold.call.caller; number = c.args.hold.call.number } in
    let number : c.put_in-2.new.seat.number ≡ c.args.seat.now.number = c.put_in-2.new.seat.number_is ∙ (taking.number_stays tag c.args.hold c.place_execute-place.result c.place_execute-place.ensures.executed.0 c.args.seat.now.base.me c.take_out.new.seat.base.me c.take_out-2.new.seat.base.me c.place_execute-place.new.seat.base.me c.put_in.new.seat.base.me c.put_in-2.new.seat.base.me (c.take_out.ensures.took c.in_ok-first.first c.in_ok-first.was) (c.take_out-2.ensures.took c.in_ok-second.second c.in_ok-second.was) c.place_execute-place.ensures.executed.1 c.put_in.ensures.view c.put_in-2.ensures.view ∙ sym c.args.seat.now.number_is) in record {
      out = taking.section_stays tag c.args.hold c.place_execute-place.result c.place_execute-place.ensures.executed.0 c.args.seat.now.base.me c.take_out.new.seat.base.me c.take_out-2.new.seat.base.me c.place_execute-place.new.seat.base.me c.put_in.new.seat.base.me c.put_in-2.new.seat.base.me (c.take_out.ensures.took c.in_ok-first.first c.in_ok-first.was) (c.take_out-2.ensures.took c.in_ok-second.second c.in_ok-second.was) c.place_execute-place.ensures.executed.1 c.put_in.ensures.view c.put_in-2.ensures.view ∙ c.requires.rests.out;
      free = taking.loaded_stays tag c.args.hold c.place_execute-place.result c.place_execute-place.ensures.executed.0 c.args.seat.now.base.me c.take_out.new.seat.base.me c.take_out-2.new.seat.base.me c.place_execute-place.new.seat.base.me c.put_in.new.seat.base.me c.put_in-2.new.seat.base.me (c.take_out.ensures.took c.in_ok-first.first c.in_ok-first.was) (c.take_out-2.ensures.took c.in_ok-second.second c.in_ok-second.was) c.place_execute-place.ensures.executed.1 c.put_in.ensures.view c.put_in-2.ensures.view ∙ c.requires.rests.free;
      claim = subst (λ (z : ℕ × List Claim). 0 < total (claims_of z.0) z.1) (λ i. (sym number i, sym (taking.claims_stay tag c.args.hold c.place_execute-place.result c.place_execute-place.ensures.executed.0 c.args.seat.now.base.me c.take_out.new.seat.base.me c.take_out-2.new.seat.base.me c.place_execute-place.new.seat.base.me c.put_in.new.seat.base.me c.put_in-2.new.seat.base.me (c.take_out.ensures.took c.in_ok-first.first c.in_ok-first.was) (c.take_out-2.ensures.took c.in_ok-second.second c.in_ok-second.was) c.place_execute-place.ensures.executed.1 c.put_in.ensures.view c.put_in-2.ensures.view) i)) c.requires.rests.claim;
    }

pub returns-clause-number : goal.returns-clause-number
returns-clause-number g c = λ found is. let tag : Tag = record { kind = 2; caller = c.args.hold.call.caller; number = c.args.hold.call.number } in c.put_in-2.new.seat.number_is ∙ (taking.number_stays tag c.args.hold c.place_execute-place.result c.place_execute-place.ensures.executed.0 c.args.seat.now.base.me c.take_out.new.seat.base.me c.take_out-2.new.seat.base.me c.place_execute-place.new.seat.base.me c.put_in.new.seat.base.me c.put_in-2.new.seat.base.me (c.take_out.ensures.took c.in_ok-first.first c.in_ok-first.was) (c.take_out-2.ensures.took c.in_ok-second.second c.in_ok-second.was) c.place_execute-place.ensures.executed.1 c.put_in.ensures.view c.put_in-2.ensures.view ∙ sym c.args.seat.now.number_is)

pub returns-clause-left : goal.returns-clause-left
returns-clause-left g c = λ found is. let tag : Tag = record { kind = 2; caller = c.args.hold.call.caller; number = c.args.hold.call.number } in let stays = taking.left_less tag c.args.hold c.place_execute-place.result c.place_execute-place.ensures.executed.0 c.args.seat.now.base.me c.take_out.new.seat.base.me c.take_out-2.new.seat.base.me c.place_execute-place.new.seat.base.me c.put_in.new.seat.base.me c.put_in-2.new.seat.base.me (c.take_out.ensures.took c.in_ok-first.first c.in_ok-first.was) (c.take_out-2.ensures.took c.in_ok-second.second c.in_ok-second.was) c.place_execute-place.ensures.executed.1 c.put_in.ensures.view c.put_in-2.ensures.view in let now = c.put_in-2.new.seat.left_is in let before = c.args.seat.now.left_is in let some = c.requires.left in omega arith
