use Rattle.std.proofs.Common.{◌≡◌, ◌+◌, ◌<◌, ◌++◌, ◌∙◌, ℕ, List, [], ◌∷◌, length, take, get_or, sym, ap, subst, arith}
use Rattle.std.proofs.lemmas.List.{take_more, length-take-le}
use Rattle.sqe_cqe.specs.Fields.{spelled}
use Rattle.look_pages.specs.Pages.{Emits, words}
use Rattle.look_pages.proofs.Parts.{emits_none, emits_both}
use Rattle.look_pages.proofs.Walks.{words-none, words_append, length-words}
use Rattle.ana_groups.proofs.Chains.{chain_step, words_one, take-all-of}
use Rattle.ana_groups.proofs.members.emit_members.Goals as goal

pub loop-i-init : goal.loop-i-init
loop-i-init c = record {
  within = c.requires.within.first c.args.group;
  place = omega arith;
  emits = λ list holds. (holds.chain, rw words-none (emits_none c.args.offset c.args.at c.args.to.now));
}

pub emit_word-requires : goal.emit_word-requires
emit_word-requires c = omega (arith, c.loop-i.invariant.place, c.requires.place)

pub next_after-nsid-requires : goal.next_after-nsid-requires
next_after-nsid-requires c = c.loop-i.invariant.within

pub overflow_add-place : goal.overflow_add-place
overflow_add-place c = omega (arith, c.loop-i.invariant.place, c.requires.place)

pub loop-i-preserved : goal.loop-i-preserved
loop-i-preserved c = record {
  within = rw c.next_after-nsid.ensures (c.requires.within.next c.loop-i.nsid);
  place = omega (arith, c.loop-i.invariant.place);
  emits = λ list holds.
      let i = c.loop-i._i in
      let low : i < length list = omega (arith, holds.count) in
      let so_far = c.loop-i.invariant.emits list holds in
      let step = chain_step c.args.members.now.next c.loop-i.nsid i list low so_far.0 in
      let front = take i list in
      let x = get_or list i 0 in
      let len : c.loop-i.place ≡ c.args.at + length (words front) = omega (arith, c.loop-i.invariant.place, length-words front, length-take-le i list (omega (arith, low))) in
      let shown : spelled 4 c.from-shown.result ≡ words (x ∷ []) = ap (spelled 4) (c.from-shown.ensures ∙ step.0) ∙ sym (words_one x) in
      let one : Emits c.args.offset (c.args.at + length (words front)) c.loop-i.to c.emit_word.new.to (words (x ∷ [])) = subst (λ (bytes : List ℕ). Emits c.args.offset (c.args.at + length (words front)) c.loop-i.to c.emit_word.new.to bytes) shown
      (subst (λ (n : ℕ). Emits c.args.offset n c.loop-i.to c.emit_word.new.to (spelled 4 c.from-shown.result)) len c.emit_word.ensures) in
      let both : Emits c.args.offset c.args.at c.args.to.now c.emit_word.new.to (words front ++ words (x ∷ [])) =
      emits_both c.args.offset c.args.at c.args.to.now c.loop-i.to c.emit_word.new.to (words front) (words (x ∷ [])) so_far.1 one in
      (rw c.next_after-nsid.ensures step.1, rw (take_more list i 0 low, words_append front (x ∷ [])) both);
}

pub returns-clause-emits : goal.returns-clause-emits
returns-clause-emits c = λ list holds.
    let all : take c.loop-i._i list ≡ list = take-all-of list c.loop-i._i (omega (arith, holds.count)) in
    subst (λ (l : List ℕ). Emits c.args.offset c.args.at c.args.to.now c.loop-i.to (words l)) all (c.loop-i.invariant.emits list holds).1

pub returns-clause-at : goal.returns-clause-at
returns-clause-at c = omega (arith, c.loop-i.invariant.place)
