-- What a run comes to that begins with the text of a carry.
use Rattle.std.specs.Prelude.{◌≡◌, ◌≢◌, ◌⊎◌, ℕ, ◌<◌, true, List, [], ◌∷◌, length, Result, Ok, Err, IfErr, IfOk, ⊤}
use Rattle.json_lines.specs.declared.reading.TheConstants.{MAX_INPUT}
use Rattle.carry.specs.Opening.{carry_at}
use Rattle.carry.specs.Values.{CarryValue}
use Rattle.carry_laws.specs.Asked.{all_known}
use Rattle.carry_laws.specs.declared.known.Known.{Known}
use Rattle.runs.specs.Begins.{log_of}
use Rattle.runs.specs.Handed.{known_by}
use Rattle.trace_lines.specs.declared.cause.TraceFault.{TraceFault}
use Rattle.runs.specs.Kept.{KeptValue, log_behind, nothing_kept}
use Rattle.audit.specs.Devices.{Reading, Writing, OfInput, OfWhole, GivesFew, GivesNext, ReaderFailed, ReaderNeverFailed}
use Rattle.audit.specs.Kinds.{IsOneOf}
use Rattle.audit.specs.Kinds as kind
use Rattle.audit.specs.declared.plain.AuditFault.{AuditFault}
use Rattle.follow.specs.Handing.{RunEnds, RunWentOut}
use Rattle.follow.specs.Running.{Run}
use Rattle.follow.specs.declared.carried.CarryRefusal.{CarryRefusal}
use Rattle.follow.specs.declared.carried.CarryRefusal.TheVariants as refusal
use Rattle.follow.specs.declared.carried.RunFault.{RunFault}
use Rattle.follow.specs.declared.carried.RunFault.TheVariants as fault
use Rattle.follow.specs.declared.handing.RunEnd.{RunEnd}

-- the bytes are a carry that begins this log, of which so much is known behind it
pub record IsBegunBy (bytes : List ℕ) (k : KeptValue) (known : Known) : Type 0 where
  pub carry : CarryValue
  pub read : carry_at bytes ≡ Ok carry
  pub log : log_of carry ≡ Ok k.log
  pub lines : k.lines ≡ carry.lines
  pub knows : known ≡ known_by carry

-- why the bytes begin no log; of memory and of the reader nothing is said of them
abbrev pub Refuses : List ℕ → CarryRefusal → Type 0
Refuses bytes refusal.TooLong = MAX_INPUT < length bytes
Refuses bytes (refusal.Form f) = carry_at bytes ≡ Err f
Refuses bytes (refusal.Log f) = (c : CarryValue) × (carry_at bytes ≡ Ok c) × (log_of c ≡ Err f)
Refuses bytes _ = ⊤

-- a refusal that is of the bytes
abbrev pub IsOfBytes : CarryRefusal → Type 0
IsOfBytes refusal.Read = ⊥
IsOfBytes refusal.OutOfMemory = ⊥
IsOfBytes _ = ⊤

-- A carry was read to the reader's end and began a log, of which `begun` is told with what is known; or it was refused.
pub record IsCarryRead {V : Type 0} (begun : V → KeptValue × Known) (carry : Reading) (result : Result V CarryRefusal)
    : Type 0 where
  pub given : IfOk result (λ v. OfWhole carry (λ bytes. IsBegunBy bytes (begun v).0 (begun v).1))
  -- a refusal holds of every input that begins with the bytes that came
  pub refused : IfErr result (λ f. OfInput carry (λ bytes. Refuses bytes f))
  pub most : GivesFew carry
  pub known : GivesNext carry
  pub failed : result ≡ Err refusal.Read → ReaderFailed carry
  pub kept : result ≢ Err refusal.Read → ReaderNeverFailed carry

-- ---- what the bytes of a run say, by themselves and behind those of a carry

-- what went out is told of the run of these bytes (`RunEnds`), as the first of its log
abbrev pub RunsFirst : List ℕ → List ℕ → List ℕ → RunEnd → Type 0
RunsFirst a old new end = RunEnds nothing_kept all_known a old new end

-- or behind the log of a carry
abbrev pub RunsFrom : List ℕ → List ℕ → List ℕ → List ℕ → RunEnd → Type 0
RunsFrom b a old new end = (k : KeptValue) × (known : Known) × IsBegunBy b k known × RunEnds k known a old new end

abbrev pub SayNoLines : KeptValue → List ℕ → Type 0
SayNoLines k a = (f : TraceFault) × (log_behind k true a ≡ Err f)

abbrev pub SayNoFirstRun : List ℕ → Type 0
SayNoFirstRun a = SayNoLines nothing_kept a

-- the bytes of the carry begin no log
abbrev pub SayNoCarry : List ℕ → Type 0
SayNoCarry b = (f : CarryRefusal) × IsOfBytes f × Refuses b f

-- or the others say no lines behind it
abbrev pub SayNoRunFrom : List ℕ → List ℕ → Type 0
SayNoRunFrom b a = SayNoCarry b ⊎ ((k : KeptValue) × (known : Known) × IsBegunBy b k known × SayNoLines k a)

-- ---- what a call comes to

-- what a run answered, and what is answered of it where it was to begin with a carry
abbrev pub answered : Result RunEnd AuditFault → Result RunEnd RunFault
answered (Ok end) = Ok end
answered (Err f) = Err (fault.Run f)

-- A run began behind the log of a carry (`Run`), or the carry was refused, and nothing was followed.
pub record RunsBehind (carry trace : Reading) (out : Writing) (result : Result RunEnd RunFault) : Type 0 where
  pub run : (r : Result RunEnd AuditFault) → result ≡ answered r
      → OfWhole carry (λ bytes. (k : KeptValue) × (known : Known) × IsBegunBy bytes k known
      × Run (log_behind k) (RunEnds k known) (RunWentOut k known) trace out r)
  pub kinds : (f : AuditFault) → result ≡ Err (fault.Run f) → IsOneOf (kind.trace ∷ kind.write ∷ kind.memory ∷ []) f
  -- a refusal of the carry holds of every input that begins with the bytes that came
  pub refused : (f : CarryRefusal) → result ≡ Err (fault.Carry f)
      → OfInput carry (λ bytes. Refuses bytes f) × (trace.after ≡ trace.before) × (out.after ≡ out.before)
  pub most : GivesFew carry
  pub known : GivesNext carry
  pub failed : result ≡ Err (fault.Carry refusal.Read) → ReaderFailed carry
  pub kept : result ≢ Err (fault.Carry refusal.Read) → ReaderNeverFailed carry
