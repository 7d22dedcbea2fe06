-- Faults of parts, and steps one after another.
use Rattle.std.proofs.Common.{◌≡◌, true, ℕ, List, Ok, Err, refl, sym, subst, ◌∙◌, inl, inr}
use Rattle.nvmetcli_json.specs.declared.error.JsonError.{JsonError}
use Rattle.nvmetcli_json.specs.declared.error.JsonError.TheVariants as errors
use Rattle.nvmetcli_json.specs.Faults.{Found, below, under, ◌>>=◌, and_then, in_object, Fails}
use Rattle.serde_json.specs.Data.{Data}
use Rattle.serde_json.specs.Find.{as_object}
use Rattle.std.specs.Option.{is_some}
use Rattle.nvmetcli_json.specs.Pointing.{IsBelow}

under_err : {A : Type 0} (step : List ℕ) (read : Found A) (e : JsonError) → read ≡ Err e
    → under step read ≡ Err (below step e)
unfolding under
under_err step read e is = rw is refl

fails_at : {A : Type 0} (step : List ℕ) (read : Found A) (e : JsonError) → Fails e read
    → Fails (below step e) (under step read)
fails_at step read errors.Memory h = tt
fails_at step read errors.NotJson h = h
fails_at step read (errors.Shape at) h = under_err step read (errors.Shape at) h

-- a fault of a part is one of the whole
pub fails_below : {A : Type 0} (step : List ℕ) (read : Found A) (e r : JsonError) → Fails e read
    → IsBelow step e r → Fails r (under step read)
fails_below step read e r h is =
    elim is [
      | inl none ↦ subst (λ (x : JsonError). Fails x (under step read)) (sym none) tt
      | inr same ↦ subst (λ (x : JsonError). Fails x (under step read)) (sym same)
          (fails_at step read e h)
    ]

pub under_ok : {A : Type 0} (step : List ℕ) (read : Found A) (x : A) → read ≡ Ok x
    → under step read ≡ Ok x
unfolding under
under_ok step read x is = rw is refl

-- ---- one step after another
pub bind_ok : {A B : Type 0} (read : Found A) (x : A) (f : A → Found B) → read ≡ Ok x
    → (read >>= f) ≡ f x
unfolding and_then
bind_ok read x f is = rw is refl

bind_err : {A B : Type 0} (read : Found A) (e : JsonError) (f : A → Found B) → read ≡ Err e
    → (read >>= f) ≡ Err e
unfolding and_then
bind_err read e f is = rw is refl

pub fails_first : {A B : Type 0} (e : JsonError) (read : Found A) (f : A → Found B) → Fails e read
    → Fails e (read >>= f)
fails_first errors.Memory read f h = tt
fails_first errors.NotJson read f h = h
fails_first (errors.Shape at) read f h = bind_err read (errors.Shape at) f h

pub fails_after : {A B : Type 0} (e : JsonError) (read : Found A) (x : A) (f : A → Found B)
    → read ≡ Ok x → Fails e (f x) → Fails e (read >>= f)
fails_after e read x f is h = subst (λ r. Fails e r) (sym (bind_ok read x f is)) h

pub goes_to : {A B : Type 0} (read : Found A) (x : A) (f : A → Found B) (r : Found B) → read ≡ Ok x
    → f x ≡ r → (read >>= f) ≡ r
goes_to read x f r is next = bind_ok read x f is ∙ next

-- ---- the members of an object
pub object_is : {A : Type 0} (read : Data → Found A) (d : Data) → is_some (as_object d) ≡ true
    → in_object read d ≡ read d
unfolding in_object
object_is read d is = rw is refl

pub fails_in : {A : Type 0} (e : JsonError) (read : Data → Found A) (d : Data)
    → is_some (as_object d) ≡ true → Fails e (read d) → Fails e (in_object read d)
fails_in e read d is h = subst (λ r. Fails e r) (sym (object_is read d is)) h
