-- What an exact reader answers: what its definition gives, unless memory ran out.
use Rattle.std.specs.Prelude.{◌≡◌, Bool, true, false, Result, Ok, Err}

-- a fact that is claimed but for one case
abbrev pub Unless : Bool → Type 0 → Type 0
Unless true fact = Unit {0}
Unless false fact = fact

-- an error is what reading gives, unless it is want of memory
abbrev pub Fails : {Y E : Type 0} → (E → Bool) → E → Result Y E → Type 0
Fails is_memory e read = Unless (is_memory e) (read ≡ Err e)

-- What a call answered, seen by `view`, is what reading gives; `fails` says it of an error.
abbrev pub Gives : {X Y E : Type 0} → (E → Result Y E → Type 0) → (X → Y) → Result X E → Result Y E
    → Type 0
Gives fails view (Ok x) read = read ≡ Ok (view x)
Gives fails view (Err e) read = fails e read
