-- What is said of a reader that is asked for what is left of an input, call after call.
use Rattle.std.proofs.Common.{◌≡◌, ℕ, ◌+◌, false, List, Option, Result, Ok, Err, ap, ◌∙◌}
use Rattle.devices.specs.Given.{AreNext}
use Rattle.devices.proofs.Given.{next-trans}
use Rattle.json_lines.specs.Joined.{AsksFor, RestValue, ends_left}
use Rattle.json_lines.specs.declared.lines.InputFault.{InputFault}
use Rattle.json_lines.specs.declared.lines.InputFault.TheVariants.{Read, TooLong, OutOfMemory}
use Rattle.json_lines.proofs.Exits.{ended_on, exit_gives, exit_is, memory_is_not_long, memory_is_not_read, no_error}
use Rattle.json_lines.proofs.RestLines.{Used, used_most, used_past}

-- what was taken so far, where no call failed: of `all` ends those that are left are still to come
pub record ReadSoFar {R : Type 0} (given : R → List ℕ) (ends failures : R → ℕ) (remaining : R → Option (List ℕ))
    (all : ℕ) (old now : R) (left : RestValue) : Type 0 where
  pub ended : ends now + ends_left left.ended ≡ all
  pub known : AreNext given ends remaining old now
  pub kept : failures now ≡ failures old

-- with one more call
pub read_further : {R T : Type 0} {given : R → List ℕ} {ends failures : R → ℕ} {remaining : R → Option (List ℕ)}
    {all : ℕ} {old mid new : R} {left behind : RestValue} {result : Result T InputFault} {t : T}
    → ReadSoFar given ends failures remaining all old mid left → left.ended ≡ false → result ≡ Ok t
    → ends new + ends_left behind.ended ≡ ends mid + 1 → AsksFor left given ends failures remaining mid new result
    → ReadSoFar given ends failures remaining all old new behind
read_further {R} {T} {given} {ends} {failures} {remaining} {all} {old} {mid} {new} {left} {behind} {result} {t}
    so_far unended was ended asked =
    record {
      ended = ended_on _ _ _ _ left.ended so_far.ended unended ended;
      known = next-trans given ends remaining old mid new so_far.known asked.known;
      kept = asked.kept (λ e. no_error result t Read was e) ∙ so_far.kept;
    }

module _ {R : Type 0} (given : R → List ℕ) (ends failures : R → ℕ) (remaining : R → Option (List ℕ))
    (rest : RestValue) (old new : R) where
  module _ {T U : Type 0} (result : Result T InputFault) (called : Result U InputFault)
      (asked : AsksFor rest given ends failures remaining old new called) where
    -- the error of a call is handed on
    pub handed_on : (y x : InputFault) → result ≡ Err y → y ≡ x → called ≡ Err x
        → AsksFor rest given ends failures remaining old new result
    handed_on y x returned same was =
        record {
          long = λ e. asked.long (exit_is result called y x TooLong returned same was e);
          most = asked.most;
          known = asked.known;
          failed = λ e. asked.failed (exit_is result called y x Read returned same was e);
          kept = λ other. asked.kept (λ e. other (exit_gives result called y x Read returned same was e));
        }

    -- a call went well, and memory ran out behind it
    pub no_memory_behind : (u : U) (y x : InputFault) → called ≡ Ok u → result ≡ Err y → y ≡ x → x ≡ OutOfMemory
        → AsksFor rest given ends failures remaining old new result
    no_memory_behind u y x was returned same memory =
        record {
          long = λ e. absurd (memory_is_not_long result y x returned same memory e);
          most = asked.most;
          known = asked.known;
          failed = λ e. absurd (memory_is_not_read result y x returned same memory e);
          kept = λ _. asked.kept (λ e. no_error called u Read was e);
        }

    -- or all went well
    pub went_well : (t : T) (u : U) → called ≡ Ok u → result ≡ Ok t
        → AsksFor rest given ends failures remaining old new result
    went_well t u was is =
        record {
          long = λ e. absurd (no_error result t TooLong is e);
          most = asked.most;
          known = asked.known;
          failed = λ e. absurd (no_error result t Read is e);
          kept = λ _. asked.kept (λ e. no_error called u Read was e);
        }

  -- a call behind others
  pub asked_behind : {T : Type 0} (all : ℕ) (mid : R) (left : RestValue) (result : Result T InputFault)
      → Used (given old) (given mid) rest left → ReadSoFar given ends failures remaining all old mid left
      → AsksFor left given ends failures remaining mid new result
      → AsksFor rest given ends failures remaining old new result
  asked_behind all mid left result used so_far asked =
      record {
        long = λ e. used_past _ _ _ _ _ used (asked.long e);
        most = used_most _ _ _ _ _ 65536 used asked.most;
        known = next-trans given ends remaining old mid new so_far.known asked.known;
        failed = λ e. asked.failed e ∙ ap (λ (n : ℕ). n + 1) so_far.kept;
        kept = λ other. asked.kept other ∙ so_far.kept;
      }
