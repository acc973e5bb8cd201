-- What a request asks for, and the words that are no option.
use Rattle.std.specs.Prelude.{◌≡◌, ◌<◌, ◌^◌, ◌⊎◌, ℕ, Bool, true, false, not, List, [], ◌∷◌, ◌==◌, ◌||◌, Option, Some, None, option_map, codes, is_some, if◌then◌else◌}
use Rattle.std.specs.Str.Parse.{IsNumeral, digits_value, without_leading_plus}
use Rattle.clap.specs.Walk.{Row, Text, first_of, one_of}
use Rattle.clap.specs.Simple.{subcommand_of}
use Rattle.clap.specs.Kinds.{IsAmong}
use Rattle.clap.specs.Faults.{fault_of}
use Rattle.clap.specs.declared.error.kind.ErrorKind.TheVariants.{DisplayHelp, DisplayVersion}
use Rattle.command_line.specs.Commands.{program}
use Rattle.command_line.specs.declared.request.Request.{Request}
use Rattle.command_line.specs.declared.request.Request.TheVariants as request
use Rattle.command_line.specs.declared.request.Answer.{Answer}
use Rattle.command_line.specs.declared.request.Answer.TheVariants as answer

-- the word does not begin with a hyphen (45)
abbrev pub is_plain_word : Text → Bool
is_plain_word [] = true
is_plain_word (x ∷ xs) = not (x == 45)

pub data Asked : Type 0 where
  joined : Asked
  audits : Text → Option Text → ℕ → ℕ → Bool → Asked
  makes : Text → Bool → Asked
  tells : Text → Text → Asked
  follows : Text → Option Text → Option Text → Option ℕ → Option ℕ → Bool → Asked

abbrev pub asked_by : Request → Asked
asked_by request.Joined = joined
asked_by (request.Audit trace evidence workers slice early) =
    audits trace.now (option_map (λ e. e.now) evidence) workers slice early
asked_by (request.Make trace list) = makes trace.now list
asked_by (request.History trace tuple) = tells trace.now tuple.now
asked_by (request.Follow trace from carry oldest versions heartbeat) =
    follows trace.now (option_map (λ s. s.now) from) (option_map (λ s. s.now) carry) oldest versions heartbeat

abbrev pub asked_in : Answer → Option Asked
asked_in (answer.Asks r) = Some (asked_by r)
asked_in _ = None

-- the command that a request's words begin with
abbrev pub command_of : Asked → Option Text
command_of joined = None
command_of (audits _ _ _ _ _) = Some (codes "audit")
command_of (makes _ _) = Some (codes "make")
command_of (tells _ _) = Some (codes "history")
command_of (follows _ _ _ _ _ _) = Some (codes "follow")

-- the number that the text of an argument writes
pub record IsNumberIn (rows : List Row) (id : Text) (n : ℕ) : Type 0 where
  pub text : Text
  pub here : one_of id rows ≡ Some text
  pub numeral : IsNumeral 10 (without_leading_plus text)
  pub value : digits_value 10 (without_leading_plus text) ≡ n

-- an argument is given as a number that fits 64 bits
abbrev pub GivesNumber : List Row → Text → ℕ → Type 0
GivesNumber rows id n = IsNumberIn rows id n × (n < 2 ^ 64)

-- so it is with one that may be left out
abbrev pub GivesOption : List Row → Text → Option ℕ → Type 0
GivesOption rows id None = one_of id rows ≡ None
GivesOption rows id (Some n) = GivesNumber rows id n

-- a flag is given, or is not
abbrev pub GivesFlag : List Row → Text → Bool → Type 0
GivesFlag rows id b = one_of id rows ≡ Some (if b then codes "true" else codes "false")

-- What clap found is a whole audit: evidence or `--make`, and not both, and no early alerts where evidence is made.
pub record IsAuditFound (rows : List Row) (t : Text) (e : Option Text) (workers slice : ℕ) (early : Bool)
    : Type 0 where
  pub trace : first_of (codes "TRACE") rows ≡ Some t
  pub evidence : first_of (codes "EVIDENCE") rows ≡ e
  pub make : GivesFlag rows (codes "make") (not (is_some e))
  pub workers_given : GivesNumber rows (codes "workers") workers
  pub slice_given : GivesNumber rows (codes "slice") slice
  pub early_given : GivesFlag rows (codes "early") early
  pub fits : early ≡ true → is_some e ≡ true

pub record IsMakeFound (rows : List Row) (t : Text) (list : Bool) : Type 0 where
  pub trace : first_of (codes "TRACE") rows ≡ Some t
  pub list_given : GivesFlag rows (codes "list") list

pub record IsHistoryFound (rows : List Row) (t u : Text) : Type 0 where
  pub trace : first_of (codes "TRACE") rows ≡ Some t
  pub tuple : first_of (codes "TUPLE") rows ≡ Some u

-- a whole request to follow: a timestamp, and how many versions, are given only where a carry is asked for
pub record IsFollowFound (rows : List Row) (t : Text) (from carry : Option Text) (oldest versions : Option ℕ)
    (heartbeat : Bool) : Type 0 where
  pub trace : first_of (codes "TRACE") rows ≡ Some t
  pub from_given : first_of (codes "from") rows ≡ from
  pub carry_given : first_of (codes "carry") rows ≡ carry
  pub oldest_given : GivesOption rows (codes "oldest-snapshot") oldest
  pub versions_given : GivesOption rows (codes "keep-versions") versions
  pub heartbeat_given : GivesFlag rows (codes "heartbeat") heartbeat
  pub fits : (is_some oldest || is_some versions) ≡ true → is_some carry ≡ true

-- the text of a flag does not say the other thing
abbrev pub IsFlagIn : List Row → Text → Bool → Type 0
IsFlagIn rows id b = ¬ (one_of id rows ≡ Some (if b then codes "false" else codes "true"))

-- and where no number is read, none is given
abbrev pub IsOptionIn : List Row → Text → Option ℕ → Type 0
IsOptionIn rows id None = (n : ℕ) → ¬ GivesNumber rows id n
IsOptionIn rows id (Some n) = IsNumberIn rows id n

-- what is asked for is what clap found
abbrev pub IsFoundIn : List Row → Asked → Type 0
IsFoundIn rows joined = ⊥
IsFoundIn rows (audits t e workers slice early) =
    (first_of (codes "TRACE") rows ≡ Some t) × (first_of (codes "EVIDENCE") rows ≡ e)
    × IsNumberIn rows (codes "workers") workers × IsNumberIn rows (codes "slice") slice
    × IsFlagIn rows (codes "early") early
IsFoundIn rows (makes t list) = (first_of (codes "TRACE") rows ≡ Some t) × IsFlagIn rows (codes "list") list
IsFoundIn rows (tells t u) = (first_of (codes "TRACE") rows ≡ Some t) × (first_of (codes "TUPLE") rows ≡ Some u)
IsFoundIn rows (follows t from carry oldest versions heartbeat) =
    (first_of (codes "TRACE") rows ≡ Some t) × (first_of (codes "from") rows ≡ from)
    × (first_of (codes "carry") rows ≡ carry) × IsOptionIn rows (codes "oldest-snapshot") oldest
    × IsOptionIn rows (codes "keep-versions") versions
    × IsFlagIn rows (codes "heartbeat") heartbeat

-- and that stands behind the command's name
abbrev pub IsFoundBehind : Option (Text × List Row) → Asked → Type 0
IsFoundBehind None asked = ⊥
IsFoundBehind (Some found) asked = IsFoundIn found.1 asked

-- words ask for it: there are none, or clap finds it in them
abbrev pub IsAskedBy : List Text → Asked → Type 0
IsAskedBy words joined = words ≡ []
IsAskedBy words asked = IsFoundBehind (subcommand_of program words) asked

-- ---- words that clap takes

-- clap finds no fault in the words
abbrev pub AreTaken : List Text → Type 0
AreTaken words = fault_of program words ≡ []

-- what clap found behind the command's name is just this request, whole
abbrev pub IsWholeIn : Option (Text × List Row) → Asked → Type 0
IsWholeIn found joined = ⊥
IsWholeIn found (audits t e workers slice early) =
    (rows : List Row) × (found ≡ Some (codes "audit", rows)) × IsAuditFound rows t e workers slice early
IsWholeIn found (makes t list) = (rows : List Row) × (found ≡ Some (codes "make", rows)) × IsMakeFound rows t list
IsWholeIn found (tells t u) = (rows : List Row) × (found ≡ Some (codes "history", rows)) × IsHistoryFound rows t u
IsWholeIn found (follows t from carry oldest versions heartbeat) =
    (rows : List Row) × (found ≡ Some (codes "follow", rows)) × IsFollowFound rows t from carry oldest versions heartbeat

-- the words write a whole request
abbrev pub Write : List Text → Asked → Type 0
Write words asked = IsWholeIn (subcommand_of program words) asked

-- the words ask for help or for the version
abbrev pub AskForHelp : List Text → Type 0
AskForHelp words = IsAmong DisplayHelp (fault_of program words) ⊎ IsAmong DisplayVersion (fault_of program words)

-- a text is to be shown in place of an answer
abbrev pub is_to_show : Answer → Bool
is_to_show (answer.Shows text) = true
is_to_show _ = false
