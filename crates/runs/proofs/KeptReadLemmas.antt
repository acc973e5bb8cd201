-- What the lines of a run make of a kept log is what they make of its log by the numbers of the whole.
use Rattle.std.proofs.Common.{◌≡◌, ℕ, ◌+◌, ◌-◌, ◌^◌, ◌≤◌, ◌==◌, ◌&&◌, not, Bool, true, false, cond, List, [], ◌∷◌, ◌++◌, length, Option, Some, None, Result, Ok, Err, refl, sym, ◌∙◌, ap, subst, arith}
use Rattle.std.specs.Str.{is_utf8}
use Rattle.serde_json.specs.Data.{Data}
use Rattle.serde_json.specs.Read.{read}
use Rattle.refusals.specs.Refusals.{◌>>=◌}
use Rattle.json_lines.specs.Json.{is_blank, json_line, of_json, taken_line}
use Rattle.json_lines.specs.Reading.{at_line, cause_of, parts, passes_limit, read_all, read_from}
use Rattle.json_lines.specs.declared.lines.InputFault.TheVariants.{Read, TooLong}
use Rattle.json_lines.specs.declared.reading.LineFault.{LineFault}
use Rattle.json_lines.specs.declared.reading.Stop.{Stop}
use Rattle.json_lines.specs.declared.reading.Stop.TheVariants.{Input, Line}
use Rattle.json_lines.proofs.ReadFaults.{IsReadersOwn}
use Rattle.trace_lines.proofs.LineCauses.{readers_own}
use Rattle.trace_lines.specs.Causes.{of_input}
use Rattle.trace_lines.specs.Traces.{faulted, trace_of, value_line}
use Rattle.trace_lines.specs.Values.{TraceValue, empty_trace, next_line}
use Rattle.trace_lines.specs.declared.cause.Cause.{Cause}
use Rattle.trace_lines.specs.declared.cause.Cause.TheVariants.{NotJson}
use Rattle.windows.specs.Growth.{GoesOn}
use Rattle.windows.proofs.GrowthLemmas.{begins_from, goes_from}
use Rattle.runs.specs.Kept.{KeptValue, kept_behind, kept_line, log_behind, log_told, nothing_kept}

abbrev pub kept_taken : ℕ → KeptValue → List ℕ → Result KeptValue Cause
kept_taken = taken_line NotJson kept_line

abbrev takes : ℕ → TraceValue → List ℕ → Result TraceValue Cause
takes = taken_line NotJson value_line

abbrev kept : ℕ → TraceValue → KeptValue
kept o t = record { lines = o; log = t }

line_kept : (o n : ℕ) (t : TraceValue) (line : List ℕ) → kept_taken n (kept o t) line ≡ kept_behind o (takes (o + n) t line)
unfolding json_line
line_kept o n t line = by_blank (is_blank line)
  where
    by_read : (d : Option Data)
        → of_json NotJson (kept_line n (kept o t)) d ≡ kept_behind o (of_json NotJson (value_line (o + n) t) d)
    by_read None = refl
    by_read (Some d) = refl

    by_utf8 : (b : Bool) → cond b (of_json NotJson (kept_line n (kept o t)) (read line)) (Err NotJson)
        ≡ kept_behind o (cond b (of_json NotJson (value_line (o + n) t) (read line)) (Err NotJson))
    by_utf8 true = by_read (read line)
    by_utf8 false = refl

    by_blank : (b : Bool) → cond b (Ok (kept o t)) (json_line NotJson (kept_line n (kept o t)) line)
        ≡ kept_behind o (cond b (Ok t) (json_line NotJson (value_line (o + n) t) line))
    by_blank true = refl
    by_blank false = by_utf8 (is_utf8 line)

no_cause : (o : ℕ) (r : Result TraceValue Cause) (c : Cause) → kept_behind o r ≡ Err c → r ≡ Err c
no_cause o (Ok t) c h = cc
no_cause o (Err e) c h = let same : e ≡ c = cc in ap Err same

-- what a line of a run says, and how it is told, is never a failure of the reader
pub kept_own : IsReadersOwn kept_taken of_input
kept_own = record {
  of_no_line = λ n k l c e. readers_own.of_no_line (k.lines + n) k.log l c
      (no_cause k.lines (takes (k.lines + n) k.log l) c (sym (line_kept k.lines n k.log l) ∙ e));
  not_too_long = readers_own.not_too_long;
  not_memory = readers_own.not_memory;
}

-- a fault is told by the line of the run
abbrev renumbered : ℕ → Result TraceValue (LineFault Cause) → Result KeptValue (LineFault Cause)
renumbered o (Ok t) = Ok (kept o t)
renumbered o (Err e) = Err (record { line = e.line - o; stop = e.stop })

stopped_at : (o n : ℕ) (stop : Stop Cause)
    → ◌≡◌ {A = Result KeptValue (LineFault Cause)} (Err (record { line = n; stop = stop }))
    (renumbered o (Err (record { line = o + n; stop = stop })))
stopped_at o n stop = ap (λ (l : ℕ). Err (record { line = l; stop = stop })) (let z : n ≡ o + n - o = omega arith in z)

read_kept : (o : ℕ) (whole : Bool) (n room : ℕ) (t : TraceValue) (ls : List (List ℕ))
    → read_from kept_taken whole n room (kept o t) ls ≡ renumbered o (read_from takes whole (o + n) room t ls)
read_kept o whole n room t [] = refl
read_kept o whole n room t (l ∷ ls) =
    by_limit (λ m left u. read_kept o whole m left u ls) (passes_limit room l (not (length ls == 0)))
    (not whole && (length ls == 0))
  where
    left : ℕ
    left = room - (length l + 1)

    further : Result KeptValue Cause → Result KeptValue (LineFault Cause)
    further r = at_line n r >>= λ k. read_from kept_taken whole (n + 1) left k ls

    by_line : ((m room : ℕ) (u : TraceValue)
        → read_from kept_taken whole m room (kept o u) ls ≡ renumbered o (read_from takes whole (o + m) room u ls))
        → (r : Result TraceValue Cause) → further (kept_behind o r)
        ≡ renumbered o (at_line (o + n) r >>= λ u. read_from takes whole (o + n + 1) left u ls)
    by_line rest (Ok u) =
        rest (n + 1) left u
        ∙ ap (λ (m : ℕ). renumbered o (read_from takes whole m left u ls)) (let z : o + (n + 1) ≡ o + n + 1 = omega arith in z)
    by_line rest (Err c) = stopped_at o n (Line c)

    by_end : ((m room : ℕ) (u : TraceValue)
        → read_from kept_taken whole m room (kept o u) ls ≡ renumbered o (read_from takes whole (o + m) room u ls))
        → (b : Bool) → cond b (Err (record { line = n; stop = Input Read })) (further (kept_taken n (kept o t) l))
        ≡ renumbered o (cond b (Err (record { line = o + n; stop = Input Read })) (at_line (o + n) (takes (o + n) t l)
        >>= λ u. read_from takes whole (o + n + 1) left u ls))
    by_end rest true = stopped_at o n (Input Read)
    by_end rest false = ap further (line_kept o n t l) ∙ by_line rest (takes (o + n) t l)

    by_limit : ((m room : ℕ) (u : TraceValue)
        → read_from kept_taken whole m room (kept o u) ls ≡ renumbered o (read_from takes whole (o + m) room u ls))
        → (b c : Bool) → cond b (Err (record { line = n; stop = Input TooLong })) (cond c (Err (record { line = n; stop = Input Read }))
        (further (kept_taken n (kept o t) l)))
        ≡ renumbered o (cond b (Err (record { line = o + n; stop = Input TooLong })) (cond c (Err (record { line = o + n; stop = Input Read }))
        (at_line (o + n) (takes (o + n) t l) >>= λ u. read_from takes whole (o + n + 1) left u ls)))
    by_limit rest true c = stopped_at o n (Input TooLong)
    by_limit rest false c = by_end rest c

-- ---- bytes

told_ok : (o : ℕ) (r : Result TraceValue (LineFault Cause)) (t : TraceValue) → log_told (renumbered o r) ≡ Ok t → r ≡ Ok t
told_ok o (Ok s) t h = let same : s ≡ t = cc in ap Ok same
told_ok o (Err e) t h = cc

-- the lines of what bytes say, by the numbers of the whole
pub said_lines : (k : KeptValue) (a : List ℕ) (t : TraceValue) → log_behind k true a ≡ Ok t
    → read_from takes true (k.lines + 1) (2 ^ 30) k.log (parts a) ≡ Ok t
unfolding read_all
said_lines k a t h =
    told_ok k.lines (read_from takes true (k.lines + 1) (2 ^ 30) k.log (parts a)) t
    (sym (ap log_told (read_kept k.lines true 1 (2 ^ 30) k.log (parts a))) ∙ h)

same_of : (t u : TraceValue) (r : Result TraceValue (LineFault Cause)) → r ≡ Ok t → r ≡ Ok u → t ≡ u
same_of t u r h k = let both : Ok t ≡ Ok u = sym h ∙ k in cc

-- what whole lines say behind a log, and what these say with more behind them
pub begins_behind : (k : KeptValue) → next_line k.log ≤ k.lines + 1 → (a more : List ℕ) (t u : TraceValue)
    → log_behind k true (a ++ 10 ∷ []) ≡ Ok t → log_behind k true ((a ++ 10 ∷ []) ++ more) ≡ Ok u
    → GoesOn (k.lines + length (parts a)) t u
begins_behind k fits a more t u one two =
    let first = begins_from k.lines (2 ^ 30) k.log fits a more u (said_lines k ((a ++ 10 ∷ []) ++ more) u two) in
    let same : first.0 ≡ t = same_of first.0 t (read_from takes true (k.lines + 1) (2 ^ 30) k.log (parts (a ++ 10 ∷ []))) first.1
    (said_lines k (a ++ 10 ∷ []) t one) in
    subst (λ (x : TraceValue). GoesOn (k.lines + length (parts a)) x u) same first.2

-- all that bytes say goes on from the log
pub goes_behind : (k : KeptValue) → next_line k.log ≤ k.lines + 1 → (a : List ℕ) (t : TraceValue)
    → log_behind k true a ≡ Ok t → GoesOn k.lines k.log t
goes_behind k fits a t said = goes_from k.lines (2 ^ 30) k.log fits (parts a) t (said_lines k a t said)

-- behind nothing they say a trace
pub trace_behind_nothing : (whole : Bool) (a : List ℕ) → log_behind nothing_kept whole a ≡ trace_of whole a
unfolding read_all
trace_behind_nothing whole a =
    ap log_told (read_kept 0 whole 1 (2 ^ 30) empty_trace (parts a))
    ∙ by_read (read_from takes whole 1 (2 ^ 30) empty_trace (parts a))
  where
    by_read : (r : Result TraceValue (LineFault Cause)) → log_told (renumbered 0 r) ≡ faulted r
    by_read (Ok t) = refl
    by_read (Err e) =
        ap (λ (l : ℕ). Err (record { line = l; cause = cause_of of_input e.stop })) (let z : e.line - 0 ≡ e.line = omega arith in z)
