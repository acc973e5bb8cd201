-- Reading in steps, where the first refusal ends it, and what a function answers of it.
use Rattle.std.specs.Prelude.{◌≡◌, Bool, true, false, Option, None, Some, Result, Ok, Err, ⊤}

infixl 10 ◌>>=◌
abbrev pub ◌>>=◌ : {A B E : Type 0} → Result A E → (A → Result B E) → Result B E
(Ok x) >>= f = f x
(Err e) >>= f = Err e

-- what is not there is refused
abbrev pub needed : {A E : Type 0} → E → Option A → Result A E
needed e (Some x) = Ok x
needed e None = Err e

-- the fact, unless the test holds
abbrev pub Unless : Bool → Type 0 → Type 0
Unless true P = ⊤
Unless false P = P

-- a refusal that was answered is the one that the specification gives, unless it is open, as out of memory is
abbrev pub Fails : {Y E : Type 0} → (E → Bool) → E → Result Y E → Type 0
Fails is_open e given = Unless (is_open e) (given ≡ Err e)

-- what a function answered, as `view` sees it, is what the specification gives, unless it is a refusal that is open
abbrev pub Gives : {X Y E : Type 0} → (E → Bool) → (X → Y) → Result X E → Result Y E → Type 0
Gives is_open view (Ok x) given = given ≡ Ok (view x)
Gives is_open view (Err e) given = Fails is_open e given
