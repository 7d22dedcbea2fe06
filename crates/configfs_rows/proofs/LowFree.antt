-- The lowest free position, one step of its search.
use Rattle.std.proofs.Common.{◌≡◌, ℕ, suc, ◌+◌, ◌-◌, ◌<◌, Bool, true, false, cond, refl, sym, ap, ◌∙◌, arith}
use Rattle.configfs_rows.specs.Places.{lowest_free}

pub step_of : (more from : ℕ) (taken : ℕ → Bool) (b : Bool) → taken from ≡ b
    → lowest_free (suc more) from taken ≡ cond b (lowest_free more (from + 1) taken) from
unfolding lowest_free
step_of more from taken b is = ap (λ t. cond t (lowest_free more (from + 1) taken) from) is

pub low_taken : (n from : ℕ) (taken : ℕ → Bool) → from < n → taken from ≡ true
    → lowest_free (n - from) from taken ≡ lowest_free (n - (from + 1)) (from + 1) taken
low_taken n from taken lt is =
    let e : n - from ≡ suc (n - (from + 1)) = omega arith in
    ap (λ k. lowest_free k from taken) e ∙ step_of (n - (from + 1)) from taken true is

pub low_free : (n from : ℕ) (taken : ℕ → Bool) → from < n → taken from ≡ false
    → lowest_free (n - from) from taken ≡ from
low_free n from taken lt is =
    let e : n - from ≡ suc (n - (from + 1)) = omega arith in
    ap (λ k. lowest_free k from taken) e ∙ step_of (n - (from + 1)) from taken false is

pub none_left : (from : ℕ) (taken : ℕ → Bool) → lowest_free 0 from taken ≡ from
unfolding lowest_free
none_left from taken = refl

pub low_end : (n from : ℕ) (taken : ℕ → Bool) → n ≡ from → lowest_free (n - from) from taken ≡ n
low_end n from taken is =
    let e : n - from ≡ 0 = omega arith in
    ap (λ k. lowest_free k from taken) e ∙ none_left from taken ∙ sym is
