use Rattle.std.proofs.Common.{◌≡◌, ◌≢◌, ◌<◌, ◌+◌, ◌-◌, ◌==◌, ℕ, Bool, true, false, List, [], ◌∷◌, ◌++◌, map, length, length-append, inl, inr, refl, ap, sym, ◌∙◌, subst, arith, eq-eqb}
use Rattle.ref_state.specs.declared.kinds.Tag.{Tag}
use Rattle.ref_state.specs.declared.kinds.Take.TheVariants as take_of
use Rattle.table_rule.specs.declared.rule.Claim.{Claim}
use Rattle.table_rule.specs.Shown.{extended, goes_with}
use Rattle.table_rule.specs.Plays.{drawn}
use Rattle.table_seats.proofs.Handing.{but_none, only_none}
use Rattle.table_seats.proofs.Submitting as submitting
use Rattle.table_seats.proofs.Submitting.{Mine}
use Rattle.table_travels_tests.specs.Travels.{callers, places}
use Rattle.table_travels_tests.proofs.Travelling as travelling
use Rattle.table_travels_tests.proofs.moves.settle.Goals as goal

pub returns-clause-idle : goal.returns-clause-idle
returns-clause-idle g c = let e = c.split.ensures.view in record {
  out = ap (λ (z : Mine). z.0.view.section) e ∙ c.requires.idle.out;
  free = ap (λ (z : Mine). z.0.view.loaded) e ∙ c.requires.idle.free;
  turns = ap (λ (z : Mine). z.0.view.turns) e ∙ c.requires.idle.turns;
  extents = ap (λ (z : Mine). z.1) e ∙ c.requires.idle.extents;
}

pub split-requires-clause-may : goal.split-requires-clause-may
split-requires-clause-may g c = let n = c.requires.newest in (n.entry, travelling.newest_first c.args.place c.args.caller c.args.editor.now.base.me.0 n, inl n.kind)

pub returns-clause-caller : goal.returns-clause-caller
returns-clause-caller g c = let v = c.args.editor.now.base.me.0 in let n = c.requires.newest in let k = c.args.caller in
    let goes : ℕ → Bool = goes_with (take_of.Entry c.args.place) v.view in
    let stayer = travelling.stays_here c.args.place k v n 0 (λ e. c.requires.other (sym e)) in let goer = travelling.goes_back c.args.place k v n in (
      ap (λ (z : Mine). callers z.0.claims) c.split.ensures.view ∙ travelling.second_goes goes 0 k v.claims stayer goer c.requires.caller,
      ap (λ (z : Mine). callers z.0.claims) c.split.ensures.new ∙ travelling.second_sent goes 0 k v.claims stayer goer c.requires.caller,
    )

pub returns-clause-places : goal.returns-clause-places
returns-clause-places g c = let a = ap (λ (z : Mine). places z.0) c.split.ensures.view in let b = ap (λ (z : Mine). places z.0) c.split.ensures.new in
    let one = travelling.gives_one c.args.place c.args.caller c.args.editor.now.base.me.0 c.requires.newest in omega arith

pub returns-clause-left : goal.returns-clause-left
returns-clause-left g c = (
  c.split.new.seat.left_is ∙ (ap (λ (z : Mine). z.0.view.left) c.split.ensures.view ∙ sym c.args.editor.now.left_is),
  c.split.result.left_is ∙ ap (λ (z : Mine). z.0.view.left) c.split.ensures.new,
)
