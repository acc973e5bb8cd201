-- What a finding on an entry's tokens denies.
use Rattle.std.specs.Prelude.{◌≡◌, ℕ, ◌<◌, ◌≤◌, true, Some, Contains, IsTrue, IfSome, IsSomeAnd}
use Rattle.trace_lines.specs.Values.{EntryValue, TraceValue}
use Rattle.trace_lines.specs.Versions.{Version, entry_version, version_named, issues}
use Rattle.trace_lines.specs.declared.entry.EntryKind.TheVariants.{Check, Content}
use Rattle.token_order.specs.Found.{is_token_of}
use Rattle.token_order.specs.Order.{IsLatest, IsClosed}
use Rattle.token_order.specs.declared.findings.OrderFindings.{OrderFindings}

-- an earlier content check, on this line, issued the version that the check names
pub record IsContentOf (t : TraceValue) (e : EntryValue) (line : ℕ) (c : EntryValue) : Type 0 where
  pub version : Version
  pub named : version_named e.kind (entry_version e) ≡ Some version
  pub issued : IsTrue (issues version c)
  pub recorded : Contains t.entries c
  pub here : c.line ≡ line
  pub earlier : c.line < e.line

-- What is found on an entry, each as the denial of what it is named for.
pub record AreDenied (t : TraceValue) (e : EntryValue) (f : OrderFindings) : Type 0 where
  -- F1: the check's snapshot does not reach its zookie
  pub stale : f.stale ≡ true → (e.kind ≡ Check) × ¬ IfSome e.zookie (λ z. z.at ≤ e.snapshot)
  -- F2: the check's zookie does not demand the snapshot of the content check that issued its version
  pub old_token : (line : ℕ) → f.old_token ≡ Some line
      → (c : EntryValue) × IsContentOf t e line c × ¬ IsSomeAnd e.zookie (λ z. c.snapshot ≤ z.at)
  -- F3: the content check is not latest
  pub not_latest : (line : ℕ) → f.not_latest ≡ Some line → (e.kind ≡ Content) × ¬ IsLatest t e
  -- F4: the entry is not closed
  pub open_snapshot : (line : ℕ) → f.open_snapshot ≡ Some line → ¬ IsClosed t e
  -- F5: the content check was authorized, and issued no token of content that carries its snapshot
  pub wrong_token : f.wrong_token ≡ true → (e.kind ≡ Content) × IsTrue e.reply
      × ¬ IsTrue (is_token_of e.snapshot e.zookie)
  -- F6: no earlier content check issued the version that the check names
  pub unknown_version : f.unknown_version ≡ true → (v : Version) × (version_named e.kind (entry_version e) ≡ Some v)
      × ((c : EntryValue) → Contains t.entries c → c.line < e.line → ¬ IsTrue (issues v c))
