use Rattle.std.proofs.Common.{◌≡◌, ◌≤◌, ◌<◌, ◌++◌, ◌∷◌, [], length, Some, Option, refl, sym, ap, subst, ◌∙◌, arith, option_map, slice_get}
use Rattle.std.proofs.lemmas.List.{length-append}
use Rattle.std.proofs.lemmas.List.Elements.{All-push}
use Rattle.std.proofs.lemmas.Option.{slice_get-map, slice_get_within}
use Rattle.run_transcript.specs.declared.capsule_files.CapsuleFile.{CapsuleFile}
use Rattle.check_records.specs.declared.cursor.Stage.TheVariants as stages
use Rattle.check_records.specs.declared.seats.Seat.{Seat}
use Rattle.check_records.specs.Cursors.{IsReadFile, capsules_of}
use Rattle.check_records.specs.Seats.{files_of}
use Rattle.check_records.proofs.Finishing.{file_at}
use Rattle.run_check.proofs.Seating.{before_more, seat_more}
use Rattle.run_check.proofs.first_seats.first_seats.Goals as goal

pub loop-file-preserved : goal.loop-file-preserved
loop-file-preserved c =
    let fs = c.args.files.now in
    let i = c.loop-file.file-index in
    let f = c.file-item.result in
    let inv = c.loop-file.invariant in
    let lt = c.loop-file-test.true in
    let old = c.loop-file.seats.items in
    let seat : Seat = record {
      next = 0;
      cursor = record { taken = 0; stage = stages.Ready };
      front = c.front_len-front.result;
      earlier = c.loop-file.earlier;
    } in
    let more : c.push.new.self.items ≡ old ++ seat ∷ [] = c.in_ok-push.ensures.items in
    let at : slice_get fs i ≡ Some f = file_at fs i f lt c.file-item.is in
    let file : slice_get (files_of fs) i ≡ Some (capsules_of f) =
    slice_get-map capsules_of fs i ∙ ap (λ (o : Option CapsuleFile). option_map capsules_of o) at in
    let next = before_more (files_of fs) i (capsules_of f) file in
    let few : length f.capsules.items ≤ 65536 =
    (subst (λ (x : CapsuleFile). IsReadFile x) (sym c.file-item.is) (c.requires.files i f lt)).few in
    let count = length-append old (seat ∷ []) in
    record {
      all = rw more (omega (arith, count, inv.all));
      before = omega (arith, next, inv.before, c.front_len-front.ensures.value);
      small = omega (arith, inv.small, c.front_len-front.ensures.within, few);
      fresh = rw more (All-push (λ (s : Seat). s.next ≡ 0) old seat inv.fresh refl);
      first = rw more (seat_more fs i old f seat inv.all at (record {
        next = refl;
        taken = refl;
        stage = refl;
        front = c.front_len-front.ensures.value;
        earlier = inv.before;
      }) inv.first);
    }

pub returns-clause-first : goal.returns-clause-first
returns-clause-first c = λ q f s hf hs.
    let lt : q < length c.args.files.now = slice_get_within c.args.files.now q f hf in
    c.loop-file.invariant.first q f s (omega (arith, lt, c.loop-file-test.false)) hf hs
