use Rattle.std.proofs.Common.{subst, arith}
use Rattle.ref_state.specs.State.{view}
use Rattle.ref_state.specs.Steps.{MayStep}
use Rattle.ref_state.proofs.Needs.{room, serials, left_of_two, ups_fit, downs_fit}
use Rattle.ref_rule.proofs.concurrency.take_step.Goals as goal

pub draw_place-requires-clause-room : goal.draw_place-requires-clause-room
draw_place-requires-clause-room c = let s = c.args.s.now in let j = c.args.seat in
    let m = subst (MayStep s j (view s.views j)) c.in-DrawPlace.is c.requires.allowed.may in
    room s c.requires.sound j c.requires.allowed.there m.1

pub publish-requires-clause-room : goal.publish-requires-clause-room
publish-requires-clause-room c = let s = c.args.s.now in let j = c.args.seat in
    let m = subst (MayStep s j (view s.views j)) c.in-Publish.is c.requires.allowed.may in
    room s c.requires.sound j c.requires.allowed.there m.1

pub publish-requires-clause-serials : goal.publish-requires-clause-serials
publish-requires-clause-serials c = let s = c.args.s.now in let j = c.args.seat in
    let m = subst (MayStep s j (view s.views j)) c.in-Publish.is c.requires.allowed.may in
    let a = room s c.requires.sound j c.requires.allowed.there m.1 in
    let b = serials s c.requires.sound in omega arith

pub place_done-requires-clause-room : goal.place_done-requires-clause-room
place_done-requires-clause-room c = let s = c.args.s.now in let j = c.args.seat in
    let m = subst (MayStep s j (view s.views j)) c.in-PlaceDone.is c.requires.allowed.may in
    room s c.requires.sound j c.requires.allowed.there m.2

pub place_execute-requires-clause-room : goal.place_execute-requires-clause-room
place_execute-requires-clause-room c = let s = c.args.s.now in let j = c.args.seat in
    let m = subst (MayStep s j (view s.views j)) c.in-PlaceExecute.is c.requires.allowed.may in
    room s c.requires.sound j c.requires.allowed.there m.0

pub add_own-requires-clause-up : goal.add_own-requires-clause-up
add_own-requires-clause-up c up = let s = c.args.s.now in let j = c.args.seat in
    let m = subst (MayStep s j (view s.views j)) c.in-AddOwn.is c.requires.allowed.may in
    ups_fit s c.requires.sound c.in-AddOwn.disk j m.2

pub add_own-requires-clause-down : goal.add_own-requires-clause-down
add_own-requires-clause-down c down = let s = c.args.s.now in let j = c.args.seat in
    let m = subst (MayStep s j (view s.views j)) c.in-AddOwn.is c.requires.allowed.may in
    downs_fit s c.requires.sound c.in-AddOwn.disk j m.2

pub join-requires-clause-left : goal.join-requires-clause-left
join-requires-clause-left c = let s = c.args.s.now in let j = c.args.seat in
    let m = subst (MayStep s j (view s.views j)) c.in-Join.is c.requires.allowed.may in
    left_of_two s c.requires.sound j c.in-Join.part c.requires.allowed.there m.2 m.0
