-- What an exit answers, and where a list is read item by item. Each stands here, since a tactic in an answer reads all facts that are known there.
use Rattle.std.proofs.Common.{◌≡◌, ℕ, ◌+◌, ◌<◌, List, [], ◌∷◌, ◌++◌, length, get_or, drop, Bool, true, false, Result, Ok, Err, refl, sym, ◌∙◌, add-one, append-nil}
use Rattle.std.proofs.Math.Seq.{drop-cons}
use Rattle.std.specs.Result.{IsErrAnd}
use Rattle.refusals.specs.Refusals.{◌>>=◌, Unless}
use Rattle.refusals.proofs.Fronts.{regroup}
use Rattle.namespaces.specs.Fault.{is_memory, Fails, Gives}
use Rattle.namespaces.specs.declared.fault.RulesFault.{RulesFault}
use Rattle.namespaces.specs.declared.fault.RulesFault.TheVariants.{OutOfMemory}
use Rattle.namespaces.proofs.Shapes.{after}

-- ---- the exit of a `?`

pub exit_memory : {X Y : Type 0} (view : X → Y) (r : Result X RulesFault) (given : Result Y RulesFault)
    → IsErrAnd r (λ e. e ≡ OutOfMemory) → Gives view r given
exit_memory view (Ok x) given memory = absurd memory
exit_memory view (Err e) given memory = rw memory tt

-- with the fault of the call
pub exit_gives : {X Y : Type 0} (view : X → Y) (r : Result X RulesFault) (given : Result Y RulesFault) (e : RulesFault)
    → IsErrAnd r (λ x. x ≡ e) → Fails e given → Gives view r given
exit_gives view (Ok x) given e same fails = absurd same
exit_gives view (Err x) given e same fails = rw same fails

unless_on : (b : Bool) (P Q : Type 0) → (P → Q) → Unless b P → Unless b Q
unless_on true P Q f p = tt
unless_on false P Q f p = f p

-- a fault of one step is the fault of all
pub fails_on : {A B : Type 0} (e : RulesFault) (step : Result A RulesFault) (all : Result B RulesFault)
    → (step ≡ Err e → all ≡ Err e) → Fails e step → Fails e all
fails_on e step all f = unless_on (is_memory e) (step ≡ Err e) (all ≡ Err e) f

pub first_fails : {A B : Type 0} (step : Result A RulesFault) (f : A → Result B RulesFault) (e : RulesFault)
    → Fails e step → Fails e (step >>= f)
first_fails step f e = fails_on e step (step >>= f) (λ was. rw was refl)

pub goes_on : {A B : Type 0} (step : Result A RulesFault) (f : A → Result B RulesFault) (x : A) → step ≡ Ok x → (step >>= f) ≡ f x
goes_on step f x was = rw was refl

-- ---- a list that is read

pub item_left : {A : Type 0} (xs : List A) (i : ℕ) (x : A) → i < length xs → x ≡ get_or xs i x → drop i xs ≡ x ∷ drop (i + 1) xs
item_left xs i x within is = rw (drop-cons xs i x within, add-one, ← is) refl

-- one item, and then the others
abbrev pub step : {A : Type 0} → Result A RulesFault → Result (List A) RulesFault → Result (List A) RulesFault
step here rest = here >>= λ r. rest >>= λ rs. Ok (r ∷ rs)

pub item_fails : {A : Type 0} (front : List A) (here : Result A RulesFault) (rest all : Result (List A) RulesFault) (e : RulesFault) → after front (step here rest) ≡ all → Fails e here → Fails e all
item_fails front here rest all e is = fails_on e here all (λ was. sym is ∙ rw was refl)

pub item_read : {A : Type 0} (front more : List A) (here : Result A RulesFault) (rest all : Result (List A) RulesFault) (r : A) → after front (step here rest) ≡ all → here ≡ Ok r → more ≡ front ++ r ∷ [] → after more rest ≡ all
item_read front more here rest all r is was on = regroup front more r rest on ∙ rw was at is

pub all_read : {A : Type 0} (front : List A) (all : Result (List A) RulesFault) → after front (Ok []) ≡ all → all ≡ Ok front
all_read front all is = sym is ∙ rw append-nil refl
