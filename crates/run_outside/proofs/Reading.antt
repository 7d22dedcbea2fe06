-- Bytes appended by a loop.
use Rattle.std.proofs.Common.{◌≡◌, ℕ, ◌≤◌, List, ◌++◌, length, take, drop, sym, ap, ◌∙◌}
use Rattle.std.proofs.lemmas.List.{take-append-drop, take-take}

-- what a loop has appended
pub appended : (old new : List ℕ) → take (length old) new ≡ old → new ≡ old ++ drop (length old) new
appended old new front = sym (take-append-drop (length old) new)
    ∙ ap (λ (x : List ℕ). x ++ drop (length old) new) front

-- what a loop that read further has left of its front
pub front_again : (start filled : ℕ) (old before after : List ℕ) → start ≤ filled
    → take start before ≡ old → take filled after ≡ take filled before
    → take start (take filled after) ≡ old
front_again start filled old before after short front same = ap (take start) same
    ∙ (take-take start filled before short ∙ front)

-- the same, of all that is there then
pub front_on : (start filled : ℕ) (old before after : List ℕ) → start ≤ filled
    → take start before ≡ old → take filled after ≡ take filled before → take start after ≡ old
front_on start filled old before after short front same = sym (take-take start filled after short)
    ∙ front_again start filled old before after short front same
