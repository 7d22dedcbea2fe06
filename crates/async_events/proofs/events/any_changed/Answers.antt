use Rattle.std.proofs.Common.{◌≡◌, ◌<◌, ◌+◌, ℕ, nat_lt, true, sym, arith}
use Rattle.std.proofs.lemmas.Bool.{lt-ltb}
use Rattle.sqe_cqe.specs.Answers.{view_of}
use Rattle.async_events.proofs.Folds.{some_to-one}
use Rattle.async_events.proofs.events.any_changed.Goals as goal

pub returns-then-ns_stamp-seen-clause-value : goal.returns-then-ns_stamp-seen-clause-value
returns-then-ns_stamp-seen-clause-value g c =
    let v = view_of (g.L.Look.told (g.L.Look.behind c.args.look.now)) c.args.b.now in
    let above : nat_lt c.args.seen (v.ns_stamp (c.loop-at.at + 1)) ≡ true =
    rw (← c.loop-at.invariant.behind) (rw (← c.ns_stamp.ensures.value) (lt-ltb c.args.seen c.ns_stamp.result c.if-ns_stamp-seen.true)) in
    sym (some_to-one (λ (n : ℕ). nat_lt c.args.seen (v.ns_stamp n)) v.offers.nsids (c.loop-at.at + 1) (omega arith) (rw (← c.offers-offers.ensures.value) (omega arith)) above)
