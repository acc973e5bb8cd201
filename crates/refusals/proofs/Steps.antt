-- What holds of each value, or of each refusal, that steps may give.
use Rattle.std.proofs.Common.{◌≡◌, Bool, true, false, cond, Option, Some, None, Result, Ok, Err, subst}
use Rattle.refusals.specs.Refusals.{◌>>=◌, needed}

-- a value has P
abbrev pub OkHas : {A E : Type 0} → (A → Type 0) → Result A E → Type 0
OkHas P (Ok x) = P x
OkHas P (Err e) = Unit {0}

-- a refusal has P
abbrev pub ErrHas : {A E : Type 0} → (E → Type 0) → Result A E → Type 0
ErrHas P (Ok x) = Unit {0}
ErrHas P (Err e) = P e

pub passes : {A B E : Type 0} (P : B → Type 0) (r : Result A E) (f : A → Result B E) → ((x : A) → OkHas P (f x)) → OkHas P (r >>= f)
passes P (Ok x) f k = k x
passes P (Err e) f k = tt

pub passes_with : {A B E : Type 0} (Q : A → Type 0) (P : B → Type 0) (r : Result A E) (f : A → Result B E) → OkHas Q r → ((x : A) → Q x → OkHas P (f x)) → OkHas P (r >>= f)
passes_with Q P (Ok x) f h k = k x h
passes_with Q P (Err e) f h k = tt

pub either_passes : {A E : Type 0} (P : A → Type 0) (b : Bool) (r s : Result A E) → OkHas P r → OkHas P s → OkHas P (cond b r s)
either_passes P true r s h k = h
either_passes P false r s h k = k

pub refused : {A B E : Type 0} (P : E → Type 0) (r : Result A E) (f : A → Result B E) → ErrHas P r → ((x : A) → ErrHas P (f x)) → ErrHas P (r >>= f)
refused P (Ok x) f h k = k x
refused P (Err e) f h k = h

pub either_refused : {A E : Type 0} (P : E → Type 0) (b : Bool) (r s : Result A E) → ErrHas P r → ErrHas P s → ErrHas P (cond b r s)
either_refused P true r s h k = h
either_refused P false r s h k = k

pub needed_refused : {A E : Type 0} (P : E → Type 0) (e : E) (o : Option A) → P e → ErrHas P (needed e o)
needed_refused P e (Some x) h = tt
needed_refused P e None h = h

pub value_has : {A E : Type 0} (P : A → Type 0) (r : Result A E) (x : A) → r ≡ Ok x → OkHas P r → P x
value_has {A} {E} P r x e h = subst (λ (s : Result A E). OkHas P s) e h

pub refusal_has : {A E : Type 0} (P : E → Type 0) (r : Result A E) (c : E) → r ≡ Err c → ErrHas P r → P c
refusal_has {A} {E} P r c e h = subst (λ (s : Result A E). ErrHas P s) e h
