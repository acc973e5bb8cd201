-- What the answer of a call rules out, and how often a reader was at its end. Each stands here, since a tactic in an answer reads all facts that are known there.
use Rattle.std.proofs.Common.{◌≡◌, ℕ, ◌+◌, Bool, true, false, not, Result, Ok, Err, arith}
use Rattle.std.specs.Prelude.{OnOk, IsErrAnd}
use Rattle.json_lines.specs.Joined.{ends_left}
use Rattle.devices.specs.Moves.{end_count}
use Rattle.json_lines.specs.declared.lines.InputFault.{InputFault}
use Rattle.json_lines.specs.declared.lines.InputFault.TheVariants.{Read, TooLong, OutOfMemory}
use Rattle.json_lines.specs.declared.reading.Stop.{Stop}
use Rattle.json_lines.specs.declared.reading.Stop.TheVariants.{Input}

pub no_error : {T E : Type 0} (r : Result T E) (t : T) (e : E) → r ≡ Ok t → r ≡ Err e → ⊥
no_error r t e one two = cc

pub same_error : {T E : Type 0} (r : Result T E) (x y : E) → r ≡ Err x → r ≡ Err y → x ≡ y
same_error r x y one two = cc

-- ---- the exit of a `?`, whose call gave x

pub exit_done : {T E : Type 0} (r : Result T E) (Q : E → Type 0) (P : Type 0) → IsErrAnd r Q → OnOk r P
exit_done (Ok t) Q P is = absurd is
exit_done (Err e) Q P is = tt

pub exit_is : {T U E : Type 0} (result : Result T E) (called : Result U E) (y x fault : E) → result ≡ Err y → y ≡ x → called ≡ Err x → result ≡ Err fault → called ≡ Err fault
exit_is result called y x fault returned same was is = cc

pub exit_gives : {T U E : Type 0} (r : Result T E) (called : Result U E) (y x fault : E) → r ≡ Err y → y ≡ x → called ≡ Err x → called ≡ Err fault → r ≡ Err fault
exit_gives r called y x fault returned same was is = cc

pub memory_is_not_long : {T : Type 0} (r : Result T InputFault) (y x : InputFault) → r ≡ Err y → y ≡ x → x ≡ OutOfMemory → r ≡ Err TooLong → ⊥
memory_is_not_long r y x returned same memory is = cc

pub memory_is_not_read : {T : Type 0} (r : Result T InputFault) (y x : InputFault) → r ≡ Err y → y ≡ x → x ≡ OutOfMemory → r ≡ Err Read → ⊥
memory_is_not_read r y x returned same memory is = cc

-- ---- why reading stopped

pub same_fault : {C : Type 0} (s : Stop C) (f h : InputFault) → s ≡ Input f → s ≡ Input h → f ≡ h
same_fault s f h one two = cc

pub no_memory_fault : {C : Type 0} (s : Stop C) → s ≡ Input OutOfMemory → s ≡ Input Read → ⊥
no_memory_fault s one two = cc

pub no_long_fault : {C : Type 0} (s : Stop C) → s ≡ Input TooLong → s ≡ Input Read → ⊥
no_long_fault s one two = cc

pub long_is_not_read : {T : Type 0} (r : Result T InputFault) → r ≡ Err TooLong → r ≡ Err Read → ⊥
long_is_not_read r one two = cc

-- ---- how often the reader was at its end

pub ended_on : (all now new left : ℕ) (ended : Bool) → now + ends_left ended ≡ all → ended ≡ false → new + left ≡ now + 1 → new + left ≡ all
ended_on all now new left true is unended on = absurd cc
ended_on all now new left false is unended on = omega (arith, is, on)

pub ended_by : (more : Bool) (before now new : ℕ) → new ≡ now + end_count {E = InputFault} (Ok more) → now ≡ before → new + ends_left (not more) ≡ before + 1
ended_by true before now new is same = omega (arith, is, same)
ended_by false before now new is same = omega (arith, is, same)

pub same_count : (first now new : ℕ) → new ≡ now + 0 → now ≡ first → new ≡ first
same_count first now new is same = omega (arith, is, same)
