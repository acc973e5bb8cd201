-- A trace that is cut in time: what a window has of the whole, and what of its findings are the whole's.
use Rattle.std.specs.Prelude.{◌≡◌, ℕ, ◌<◌, ◌≤◌, Bool, true, take, List, [], ◌++◌, length, map, filter, nat_lt, nat_le, slice_get, All, Option, Some, option_map}
use Rattle.namespaces.specs.Lookup.{rule_at}
use Rattle.version_chains.specs.Commits.{Commit}
use Rattle.trace_lines.specs.Values.{EntryValue, TraceValue}
use Rattle.trace_lines.specs.Versions.{Version, entry_version, version_named, issues}
use Rattle.token_order.specs.Order.{on_lines, commit_lines_of}
use Rattle.evidence_check.specs.Steps.{StepValue}
use Rattle.findings.specs.Findings.{found_on, on_line}
use Rattle.findings.specs.declared.finding.Finding.{Finding}
use Rattle.findings.specs.declared.finding.What.{What}
use Rattle.findings.specs.declared.finding.What.TheVariants.{OldToken, NotLatest, OpenSnapshot}
use Rattle.windows.specs.Compaction.{AreRising, above, up_to, StandsFor}
use Rattle.windows.specs.Nearest.{content_entry}

-- The window w of the trace t knows the rules and tuples from timestamp b to timestamp h. Commits in front of its
-- line n stand for those up to b. From line n on, line l of the window is line g l of the whole, and there stand all
-- commits above b up to h.
pub record IsWindow (g : ℕ → ℕ) (n b h : ℕ) (t w : TraceValue) : Type 0 where
  pub front : List Commit
  pub front_lines : List ℕ
  pub own_lines : List ℕ
  pub rules : (s : ℕ) → b ≤ s → s ≤ h → (namespace relation : List ℕ)
      → rule_at t.declarations s namespace relation ≡ rule_at w.declarations s namespace relation
  pub stands : StandsFor front b t.commits
  pub commits : w.commits ≡ front ++ above b (up_to h t.commits)
  pub lines : w.commit_lines ≡ front_lines ++ own_lines
  pub counted : length front_lines ≡ length front
  pub in_front : All (λ l. l < n) front_lines
  pub behind : All (λ l. n ≤ l) own_lines
  pub rise : (l m : ℕ) → n ≤ l → n ≤ m → nat_lt (g l) (g m) ≡ nat_lt l m
  pub own : on_lines (map g own_lines) (above b (up_to h t.commits))
      ≡ filter (λ c. nat_lt b c.at) (filter (λ c. nat_le c.at h) (commit_lines_of t))

-- the window has what judges an entry: its snapshot, all commits before it that are above b, and all behind it up to
-- its snapshot
pub record IsWithin (b h : ℕ) (t : TraceValue) (e : EntryValue) : Type 0 where
  pub from : b ≤ e.snapshot
  pub to : e.snapshot ≤ h
  pub earlier : All (λ c. c.line < e.line → c.at ≤ h) (commit_lines_of t)
  pub later : All (λ c. e.line < c.line → b < c.at) (commit_lines_of t)

-- entry d of the window is entry e of the whole
abbrev pub IsCopy : (ℕ → ℕ) → EntryValue → EntryValue → Type 0
IsCopy g e d = e ≡ record d { line = g d.line; before = e.before }

-- both name content that was issued at the same snapshot, on the same line of the whole, or none
pub record NamesTheSame (g : ℕ → ℕ) (t : TraceValue) (i : ℕ) (w : TraceValue) (j : ℕ) : Type 0 where
  pub snapshot : option_map (λ c. c.snapshot) (content_entry t i) ≡ option_map (λ c. c.snapshot) (content_entry w j)
  pub line : option_map (λ c. c.line) (content_entry t i) ≡ option_map (λ c. g c.line) (content_entry w j)

-- an entry on a line of the whole, without how many commits stand before it
abbrev pub face : (ℕ → ℕ) → EntryValue → EntryValue
face g x = record x { line = g x.line; before = 0 }

-- The entries before entry j of the window are those before entry i of the whole that a test keeps, and it keeps
-- whatever issued the version that e names. So content checks of earlier windows are carried into the window.
pub record Carries (g : ℕ → ℕ) (t : TraceValue) (i : ℕ) (e : EntryValue) (w : TraceValue) (j : ℕ) : Type 0 where
  pub keep : EntryValue → Bool
  pub issuers : (v : Version) → version_named e.kind (entry_version e) ≡ Some v
      → (x : EntryValue) → issues v x ≡ true → keep x ≡ true
  pub faces : map (face g) (take j w.entries) ≡ map (face (λ l. l)) (filter keep (take i t.entries))

-- a finding that tells a line of the whole
abbrev pub relined : (ℕ → ℕ) → What → What
relined g (OldToken l) = OldToken (g l)
relined g (NotLatest l) = NotLatest (g l)
relined g (OpenSnapshot l) = OpenSnapshot (g l)
relined g what = what

-- some window shows entry i of the trace, which is e, and by its own evidence nothing is found on it there
pub record IsSeenClean (t : TraceValue) (i : ℕ) (e : EntryValue) : Type 0 where
  pub line : ℕ → ℕ
  pub first : ℕ
  pub from : ℕ
  pub to : ℕ
  pub window : TraceValue
  pub rising : AreRising window.commits
  pub cut : IsWindow line first from to t window
  pub place : ℕ
  pub entry : EntryValue
  pub there : slice_get window.entries place ≡ Some entry
  pub copied : IsCopy line e entry
  pub own : first ≤ entry.line
  pub within : IsWithin from to t e
  pub names : NamesTheSame line t i window place
  pub evidence : List (Option (List StepValue))
  pub clean : on_line entry.line (found_on window evidence place entry) ≡ []

-- the finding on a line of the whole
abbrev pub refound : (ℕ → ℕ) → Finding → Finding
refound g f = record { line = g f.line; what = relined g f.what }
