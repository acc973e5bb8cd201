-- A trace that stands in for a log so far, and the log that goes on from there.
use Rattle.std.specs.Prelude.{◌≡◌, ℕ, ◌+◌, ◌<◌, ◌≤◌, ◌==◌, Bool, true, false, List, ◌++◌, length, map, filter, nat_lt, slice_get, All, Option, Some}
use Rattle.std.specs.List.{list_any}
use Rattle.version_chains.specs.Commits.{Commit}
use Rattle.trace_lines.specs.Values.{EntryValue, TraceValue}
use Rattle.trace_lines.specs.Versions.{Version, issues}
use Rattle.token_order.specs.Order.{commit_lines_of}
use Rattle.evidence_check.specs.Evidences.{steps_of}
use Rattle.evidence_check.specs.Steps.{StepValue}
use Rattle.findings.specs.declared.finding.Finding.{Finding}
use Rattle.follow_laws.specs.Told.{left_over, told_on}
use Rattle.carry_laws.specs.Asked.{asked}
use Rattle.carry_laws.specs.declared.known.Known.{Known}
use Rattle.windows.specs.Compaction.{StandsFor, above}
use Rattle.windows.specs.Growth.{GoesOn, is_settled}
use Rattle.windows.specs.Windows.{face}

-- an entry without how many commits stand before it
abbrev pub placeless : EntryValue → EntryValue
placeless = face (λ l. l)

-- a commit of a timestamp is among these
abbrev pub has_commit_at : ℕ → List Commit → Bool
has_commit_at b commits = list_any (λ c. c.at == b) commits

-- the lines of the commits above a timestamp
abbrev pub lines_above : ℕ → TraceValue → List ℕ
lines_above b t = map (λ c. c.line) (filter (λ c. nat_lt b c.at) (commit_lines_of t))

-- Entries of a log that are kept by a test: those that are not settled, which stand from line p on, and those that
-- issue a version from another line on. Where an entry stands among the commits is nothing to the test.
pub record Keeps (versions p : ℕ) (t : TraceValue) (keep : EntryValue → Bool) : Type 0 where
  pub unsettled : (i : ℕ) (e : EntryValue) → slice_get t.entries i ≡ Some e → is_settled t e ≡ false
      → (keep e ≡ true) × (p ≤ e.line)
  pub issuers : (v : Version) (e : EntryValue) → issues v e ≡ true → versions ≤ e.line → keep e ≡ true
  pub by_face : (e : EntryValue) → keep (placeless e) ≡ keep e

-- The trace x stands in for the log that t says, as far as that has to be known. It has the same declarations. In front
-- of line p it has some commits that store what t stores at the base, at which both have a commit; and from line p on it
-- has all commits of t, which are those above the base. Of the entries it has those that are kept. Each stands on its
-- line in the log.
pub record StandsIn (known : Known) (p : ℕ) (t x : TraceValue) : Type 0 where
  pub front : List Commit
  pub front_lines : List ℕ
  pub keep : EntryValue → Bool
  pub declarations : x.declarations ≡ t.declarations
  pub commits : x.commits ≡ front ++ above known.base t.commits
  pub on_lines : x.commit_lines ≡ front_lines ++ lines_above known.base t
  pub entries : map placeless x.entries ≡ map placeless (filter keep t.entries)
  pub stands : StandsFor front known.base t.commits
  pub base : has_commit_at known.base t.commits ≡ true
  pub base_there : has_commit_at known.base front ≡ true
  pub counted : length front_lines ≡ length front
  pub in_front : All (λ l. l < p) front_lines
  pub folded : All (λ c. c.at ≤ known.base → c.line < p) (commit_lines_of t)
  pub behind : All (λ c. known.base < c.at → p ≤ c.line) (commit_lines_of t)
  pub keeps : Keeps known.versions p t keep

-- The log that t says goes on, and the same lines behind x, which stands in for t, make y.
pub record GoesOnAlike {n : ℕ} {t u : TraceValue} (goes : GoesOn n t u) (x y : TraceValue) : Type 0 where
  pub declared : y.declarations ≡ x.declarations ++ goes.declarations
  pub committed : y.commits ≡ x.commits ++ goes.commits
  pub on_lines : y.commit_lines ≡ x.commit_lines ++ goes.commit_lines
  pub recorded : map placeless y.entries ≡ map placeless (x.entries ++ goes.entries)

-- entries on the same line have the same steps
abbrev pub HaveSameSteps : TraceValue → List (Option (List StepValue)) → TraceValue → List (Option (List StepValue))
    → Type 0
HaveSameSteps u evidence y own =
    (i j : ℕ) (e d : EntryValue) → slice_get u.entries i ≡ Some e → slice_get y.entries j ≡ Some d → d.line ≡ e.line
    → steps_of own j ≡ steps_of evidence i

-- ---- what is told of entries that are audited by what is known

-- when line k is taken, and at the end of the log
abbrev pub asked_on : Known → TraceValue → List (Option (List StepValue)) → ℕ → List Finding
asked_on known t evidence k = asked known t (told_on t evidence k)

abbrev pub asked_left : Known → TraceValue → List (Option (List StepValue)) → List Finding
asked_left known t evidence = asked known t (left_over t evidence)
