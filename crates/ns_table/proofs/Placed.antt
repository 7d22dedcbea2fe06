-- Each word is the one for its place.
use Rattle.std.proofs.Common.{◌≡◌, ◌<◌, ℕ, ◌+◌, List, [], ◌∷◌, ◌++◌, length, get_or, refl, sym, ap, ◌∙◌, arith}
use Rattle.std.proofs.lemmas.List.FromFn.{get_or-map-range_with_len, length-map-range_with_len, map-range_with_len_more}
use Rattle.ns_table.specs.declared.layout.TheConstants.{WORDS}
use Rattle.ns_table.specs.Positions.{at, place_at}
use Rattle.ns_table.specs.Words.{Shape, word_for, each_below, words_of, WordsArePlaced}
use Rattle.ns_table.proofs.Places.{again, below}

pub each-at : (f : ℕ → ℕ) (n w : ℕ) → w < n → get_or (each_below f n) w 0 ≡ f w
unfolding each_below
each-at f n w lt = get_or-map-range_with_len f 0 n w w 0 lt (omega arith)

pub each-length : (f : ℕ → ℕ) (n : ℕ) → length (each_below f n) ≡ n
unfolding each_below
each-length f n = length-map-range_with_len f 0 n

pub placed : WordsArePlaced
unfolding words_of
placed x = record {
  all = each-length (λ w. word_for x (place_at w)) WORDS;
  each = λ p within. each-at (λ w. word_for x (place_at w)) WORDS (at p) (below p within) ∙ ap (word_for x) (again p within);
}

pub each-none : (f : ℕ → ℕ) → each_below f 0 ≡ []
unfolding each_below
each-none f = refl

pub each-more : (f : ℕ → ℕ) (n : ℕ) → each_below f (n + 1) ≡ each_below f n ++ f n ∷ []
unfolding each_below
each-more f n = map-range_with_len_more f 0 n n (omega arith)

-- the words with one more
pub next-word : (f : ℕ → ℕ) (n word : ℕ) (before after : List ℕ) → before ≡ each_below f n → word ≡ f n → after ≡ before ++ word ∷ [] → after ≡ each_below f (n + 1)
next-word f n word before after is here now = now ∙ rw (is, here) (sym (each-more f n))

-- all words
pub whole : (x : Shape) (n : ℕ) (words : List ℕ) → n ≡ WORDS → words ≡ each_below (λ w. word_for x (place_at w)) n → words ≡ words_of x
unfolding words_of
whole x n words all is = is ∙ ap (each_below (λ w. word_for x (place_at w))) all
