-- What holds of an entry of which a finding on its tokens is not told.
use Rattle.std.specs.Prelude.{◌≡◌, ℕ, ◌≤◌, false, None, Some, IsTrue, IfSome, IsSomeAnd}
use Rattle.trace_lines.specs.Values.{EntryValue, TraceValue}
use Rattle.trace_lines.specs.Versions.{Version, entry_version, version_named}
use Rattle.trace_lines.specs.declared.entry.EntryKind.TheVariants.{Check, Content}
use Rattle.token_order.specs.Denied.{IsContentOf}
use Rattle.token_order.specs.Found.{is_token_of}
use Rattle.token_order.specs.Order.{IsLatest, IsClosed}
use Rattle.token_order.specs.declared.findings.OrderFindings.{OrderFindings}

-- What each finding is named for, where it is not found on an entry: so nothing of it is missed.
pub record AreUpheld (t : TraceValue) (e : EntryValue) (f : OrderFindings) : Type 0 where
  -- F1: the check's snapshot reaches its zookie
  pub fresh : f.stale ≡ false → e.kind ≡ Check → IfSome e.zookie (λ z. z.at ≤ e.snapshot)
  -- F2: the check's zookie demands the snapshot of the content check that issued its version
  pub demanded : f.old_token ≡ None
      → (line : ℕ) (c : EntryValue) → IsContentOf t e line c → IsSomeAnd e.zookie (λ z. c.snapshot ≤ z.at)
  -- F3: the content check is latest
  pub latest : f.not_latest ≡ None → e.kind ≡ Content → IsLatest t e
  -- F4: the entry is closed
  pub closed : f.open_snapshot ≡ None → IsClosed t e
  -- F5: a content check that was authorized issued a token of content that carries its snapshot
  pub token : f.wrong_token ≡ false → e.kind ≡ Content → IsTrue e.reply → IsTrue (is_token_of e.snapshot e.zookie)
  -- F6: an earlier content check issued the version that the check names
  pub known : f.unknown_version ≡ false → (v : Version) → version_named e.kind (entry_version e) ≡ Some v
      → (line : ℕ) × (c : EntryValue) × IsContentOf t e line c
