-- The laws of a meaning of the running table that speak of words.
use Rattle.std.proofs.Common.{◌≡◌, ◌≢◌, ℕ, ◌<◌, List, ◌∷◌, Some, get_or, arith}
use Rattle.ref_state.specs.declared.kinds.Tag.{Tag}
use Rattle.target_states.specs.Inputs.{call_of}
use Rattle.target_states.specs.States.{Begun, state, held_on, fixed_at}
use Rattle.target_states.specs.Sizes.{IsStart}
use Rattle.target_states.proofs.Tags.{few_in, held_by_kind, queues_fixed, same_sizes}
use Rattle.target_words.specs.Words.{words_at}
use Rattle.target_words.proofs.Following.{words_same}
use Rattle.target_words.proofs.Showing.{in_words}

module _ (g : Begun) (start : IsStart g) where
  pub queues_words : (tags : List Tag) (tag : Tag) → tag.kind < 4
      → words_at (state g (tag ∷ tags)) ≡ words_at (state g tags)
  queues_words tags tag near =
      words_same (state g tags) (state g (tag ∷ tags)) (queues_fixed g start tags tag near)
      (same_sizes g start (tag ∷ tags) tags)

  pub held_is : (tags : List Tag) (tag : Tag) (disk : ℕ)
      → held_on (state g tags) (call_of g.inputs tag) ≡ Some disk
      → (tag.kind ≡ 1) × (get_or (words_at (state g tags)) disk 0 ≢ 0)
      × (words_at (state g (tag ∷ tags)) ≡ words_at (state g tags))
  held_is tags tag disk e =
      let h = held_by_kind g start (state g tags) tag.kind tag.caller tag.number disk e in
      let one = h.0 in (
        one,
        in_words (state g tags) tag.caller (g.inputs.entry tag.caller tag.number) disk
            (few_in g start tags) h.1,
        queues_words tags tag (omega (arith, one)),
      )

  pub executes : (tags : List Tag) (tag : Tag) → tag.kind ≡ 2
      → (words_at (state g (tag ∷ tags)) ≡ words_at (state g tags))
      × (fixed_at (state g (tag ∷ tags)) ≡ fixed_at (state g tags))
  executes tags tag two = (
    queues_words tags tag (omega (arith, two)),
    queues_fixed g start tags tag (omega (arith, two)),
  )
