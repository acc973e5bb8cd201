-- The trace in front of the marker of joined input.
use Rattle.std.proofs.Common.{◌≡◌, ◌≢◌, ◌||◌, ℕ, List, Option, Some, None, Result, Ok, Err, refl, sym, ap, ◌∙◌, true}
use Rattle.std.specs.Prelude.{IfErr, IfSome, IsErrAnd}
use Rattle.json_lines.specs.declared.lines.InputFault.{InputFault}
use Rattle.json_lines.specs.Joined.{IsFront, RestValue}
use Rattle.json_lines.specs.Reading.{cause_of, read_all, Reads, IsOfLine, IsOfSomeLine}
use Rattle.json_lines.specs.declared.reading.LineFault.{LineFault}
use Rattle.json_lines.specs.Json.{taken_line}
use Rattle.json_lines.proofs.ReadFaults.{of_line_alone, refused_in_words}
use Rattle.trace_lines.specs.Causes.{of_input, is_memory, is_read}
use Rattle.trace_lines.specs.Results.{GivesTrace}
use Rattle.trace_lines.specs.Traces.{faulted, made_of, value_line}
use Rattle.trace_lines.specs.Values.{TraceValue}
use Rattle.trace_lines.specs.declared.cause.Cause.{Cause}
use Rattle.trace_lines.specs.declared.cause.Cause.TheVariants as causes
use Rattle.trace_lines.proofs.LineCauses.{readers_own}

abbrev taken : ℕ → TraceValue → List ℕ → Result TraceValue Cause
taken = taken_line causes.NotJson value_line

-- what reading makes of the lines, told as a trace
gives_made : (t : TraceValue) (made : Result (Unit {0}) (LineFault Cause)) (read : Result TraceValue (LineFault Cause)) → Reads made t read → GivesTrace (made_of t made) (faulted read)
gives_made t (Ok u) read h = ap faulted h
gives_made t (Err fault) read h =
    refused_in_words faulted (λ e. is_memory e.cause || is_read e.cause) fault (record { line = fault.line; cause = cause_of of_input fault.stop }) read refl
    (λ is. rw is refl) (λ is. rw is refl) h

-- the same of what stands before the marker
pub front_made : (given now : List ℕ) (rest : Option RestValue) (start began t : TraceValue) (made : Result (Unit {0}) (LineFault Cause)) → start ≡ began
    → IfSome rest (λ r. IsFront given now r (λ a. Reads made t (read_all taken true start a)))
    → IfSome rest (λ r. IsFront given now r (λ a. GivesTrace (made_of t made) (faulted (read_all taken true began a))))
front_made given now None start began t made same h = tt
front_made given now (Some r) start began t made same h =
    (h.0, h.1, h.2, h.3, h.4, h.5, rw (← same) (gives_made t made (read_all taken true start h.1) h.6))

-- no line is refused as a failure of the reader
pub made_by_lines : (t : TraceValue) (made : Result (Unit {0}) (LineFault Cause)) → IfErr made (λ e. IsOfLine e.stop × IsOfSomeLine taken e) → IfErr (made_of t made) (λ e. e.cause ≢ causes.Read)
made_by_lines t (Ok u) h = tt
made_by_lines t (Err fault) h = of_line_alone taken of_input fault readers_own h.0 h.1

-- a fault that is passed on is the one that is answered
pub passed_on : {X Y : Type 0} (r : Result X InputFault) (f g : InputFault) → IsErrAnd r (λ e. e ≡ f) → ◌≡◌ {A = Result Y InputFault} (Err f) (Err g) → r ≡ Err g
passed_on (Ok x) f g none same = absurd none
passed_on (Err e) f g is same = let one : f ≡ g = cc in ap (λ (x : InputFault). Err x) (is ∙ one)

pub passed_from : {X Y : Type 0} (r : Result X InputFault) (f g : InputFault) → IsErrAnd r (λ e. e ≡ f) → r ≡ Err g → ◌≡◌ {A = Result Y InputFault} (Err f) (Err g)
passed_from (Ok x) f g none same = absurd none
passed_from (Err e) f g is same = let one : e ≡ g = cc in ap (λ (x : InputFault). Err x) (sym is ∙ one)
