-- When each cause applies to a commit, a check or a content check of a trace, whatever else does.
use Rattle.std.specs.Prelude.{◌≡◌, ℕ, Bool, true, false, List, [], ◌∷◌, ◌++◌, Option, None, Some, IsSomeAnd, is_some, option_map, option_and_then, Ok, Err, codes}
use Rattle.serde_json.specs.Data.{Data, string, Items, no_items, item}
use Rattle.tuple_text.specs.Reading.{tuple_at, fact_at}
use Rattle.tuple_text.specs.Sets.{SetValue}
use Rattle.tuple_text.specs.Tuples.{FactValue}
use Rattle.zookie.specs.Reading.{token_at}
use Rattle.json_lines.specs.Fields.{number_at, flag_at, text_at, optional_text_at, strings_at}
use Rattle.strata.specs.Edges.{first_broken, edges_of_tuples}
use Rattle.version_chains.specs.Appends.{append_fault}
use Rattle.trace_lines.specs.Texts.{version_at}
use Rattle.trace_lines.specs.Traces.{is_declared, are_declared, changes_of}
use Rattle.trace_lines.specs.Values.{TraceValue}
use Rattle.trace_lines.specs.Versions.{issuer, version_issued, version_of}
use Rattle.trace_lines.specs.declared.cause.Cause.{Cause}
use Rattle.trace_lines.specs.declared.cause.Cause.TheVariants as causes
use Rattle.trace_lines.specs.declared.entry.EntryKind.{EntryKind}
use Rattle.refusal_laws.specs.LeastCause.{first_fault, readable}

-- the numbers of the causes of a trace line
abbrev pub number : Cause → ℕ
number causes.Read = 1
number causes.TooLong = 2
number causes.NotJson = 3
number causes.Kind = 4
number causes.Shape = 5
number (causes.Text f) = 6
number (causes.Token f) = 7
number (causes.Namespace f) = 8
number causes.Late = 9
number causes.Unknown = 10
number (causes.Strata e) = 11
number (causes.Commit f) = 12
number causes.RepeatedVersion = 13
number causes.OutOfMemory = 14

abbrev pub text_and : Data → List (List ℕ) → List (List ℕ)
text_and (string s) texts = s ∷ texts
text_and _ texts = texts

-- the texts of a list of JSON
abbrev pub texts_of : Items → List (List ℕ)
texts_of no_items = []
texts_of (item d ds) = text_and d (texts_of ds)

-- ---- commits

-- what a commit line has in its fields
pub record CommitFields : Type 0 where
  pub at : ℕ
  pub add : List (List ℕ)
  pub remove : List (List ℕ)

-- the fields, where each is there and has its shape
unfoldable pub commit_fields : Data → Option CommitFields
commit_fields d =
    option_and_then (λ at. option_and_then (λ add. option_map (λ remove.
    record { at = at; add = texts_of add; remove = texts_of remove })
    (strings_at (codes "remove") d)) (strings_at (codes "add") d)) (number_at (codes "at") d)

-- The cause applies to a commit line behind a trace. Of texts that are no tuples the first one's fault does; what is
-- said of tuples is said of those that can be read.
abbrev pub AppliesToCommit : TraceValue → Data → Cause → Type 0
AppliesToCommit t d causes.Shape = commit_fields d ≡ None
AppliesToCommit t d (causes.Text f) = IsSomeAnd (commit_fields d) (λ c. first_fault tuple_at (c.add ++ c.remove) ≡ Some f)
AppliesToCommit t d causes.Unknown =
    IsSomeAnd (commit_fields d) (λ c. are_declared t.declarations (readable tuple_at (c.add ++ c.remove)) ≡ false)
AppliesToCommit t d (causes.Strata e) =
    IsSomeAnd (commit_fields d)
    (λ c. first_broken t.declarations (edges_of_tuples t.declarations (readable tuple_at c.add)) ≡ Err e)
AppliesToCommit t d (causes.Commit f) =
    IsSomeAnd (commit_fields d)
    (λ c. append_fault (changes_of t) c.at (readable tuple_at c.add) (readable tuple_at c.remove) ≡ Some f)
AppliesToCommit t d _ = ⊥

-- ---- checks and content checks

-- what the line of a check or a content check has in its fields
pub record EntryFields : Type 0 where
  pub goal : List ℕ
  pub snapshot : ℕ
  pub reply : Bool
  pub zookie : Option (List ℕ)
  pub version : Option (List ℕ)

-- the fields, where each has its shape
unfoldable pub entry_fields : EntryKind → Data → Option EntryFields
entry_fields kind d =
    option_and_then (λ goal. option_and_then (λ snapshot. option_and_then (λ reply. option_and_then (λ zookie.
    option_map (λ version.
    record { goal = goal; snapshot = snapshot; reply = reply; zookie = zookie; version = version })
    (version_at kind reply d)) (optional_text_at (codes "zookie") d)) (flag_at (codes "reply") d))
    (number_at (codes "snapshot") d)) (text_at (codes "goal") d)

-- an earlier content check issued the version of the userset's object that a content check is to issue
abbrev pub is_issued : TraceValue → EntryKind → SetValue → Option (List ℕ) → Bool
is_issued t kind s label = is_some (option_and_then (issuer t.entries) (version_issued kind (option_map (version_of s) label)))

-- the text is a goal, of which this holds
abbrev pub IsGoalAnd : List ℕ → (FactValue → Type 0) → Type 0
IsGoalAnd text P = (goal : FactValue) × (fact_at text ≡ Ok goal) × P goal

-- the cause applies to the line of a check, or of a content check, behind a trace
abbrev pub AppliesToEntry : EntryKind → TraceValue → Data → Cause → Type 0
AppliesToEntry kind t d causes.Shape = entry_fields kind d ≡ None
AppliesToEntry kind t d (causes.Text f) = IsSomeAnd (entry_fields kind d) (λ e. fact_at e.goal ≡ Err f)
AppliesToEntry kind t d (causes.Token f) = IsSomeAnd (entry_fields kind d) (λ e. IsSomeAnd e.zookie (λ z. token_at z ≡ Err f))
AppliesToEntry kind t d causes.Unknown =
    IsSomeAnd (entry_fields kind d) (λ e. IsGoalAnd e.goal (λ goal. is_declared t.declarations goal.set ≡ false))
AppliesToEntry kind t d causes.RepeatedVersion =
    IsSomeAnd (entry_fields kind d) (λ e. IsGoalAnd e.goal (λ goal. is_issued t kind goal.set e.version ≡ true))
AppliesToEntry kind t d _ = ⊥
