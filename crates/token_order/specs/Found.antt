-- What is found on an entry where the tokens are not in order.
use Rattle.std.specs.Prelude.{◌≡◌, ℕ, ◌&&◌, ◌==◌, not, Bool, true, false, List, [], ◌∷◌, nat_lt, nat_le, filter, slice_get, is_some, is_none, Option, None, Some, option_and_then, if◌then◌else◌}
use Rattle.std.specs.Option.{option_or}
use Rattle.std.specs.List.{list_any}
use Rattle.zookie.specs.Tokens.{Token}
use Rattle.zookie.specs.declared.token.TokenKind.{TokenKind}
use Rattle.zookie.specs.declared.token.TokenKind.TheVariants.{AclWrite, ContentVersion, ReadSnapshot}
use Rattle.trace_lines.specs.Values.{EntryValue, TraceValue}
use Rattle.trace_lines.specs.Versions.{entry_version, version_named, content_of}
use Rattle.trace_lines.specs.declared.entry.EntryKind.{EntryKind}
use Rattle.trace_lines.specs.declared.entry.EntryKind.TheVariants.{Check, Content}
use Rattle.token_order.specs.Order.{CommitLine, commit_lines_of}
use Rattle.token_order.specs.declared.findings.OrderFindings.{OrderFindings}

abbrev pub is_check : EntryKind → Bool
is_check Check = true
is_check Content = false

abbrev pub is_content : EntryKind → Bool
is_content Check = false
is_content Content = true

-- the zookie is above the timestamp
abbrev pub is_above : Option Token → ℕ → Bool
is_above None s = false
is_above (Some z) s = nat_lt s z.at

-- the zookie is absent, or below the timestamp
abbrev pub is_short_of : Option Token → ℕ → Bool
is_short_of None s = true
is_short_of (Some z) s = nat_lt z.at s

-- a check gives a zookie that is above its snapshot
abbrev pub is_stale : EntryValue → Bool
is_stale e = is_check e.kind && is_above e.zookie e.snapshot

-- the line of the content check, where the zookie is short of its snapshot
abbrev pub line_if_short : Option Token → EntryValue → Option ℕ
line_if_short z c = if is_short_of z c.snapshot then Some c.line else None

-- a check names a version that was issued at a snapshot of which its zookie is short
abbrev pub old_token : TraceValue → ℕ → EntryValue → Option ℕ
old_token t i e = option_and_then (line_if_short e.zookie)
    (option_and_then (slice_get t.entries) (content_of t.entries i))

abbrev pub earlier_commits : TraceValue → EntryValue → List CommitLine
earlier_commits t e = filter (λ c. nat_lt c.line e.line) (commit_lines_of t)

abbrev pub later_commits : TraceValue → EntryValue → List CommitLine
later_commits t e = filter (λ c. nat_lt e.line c.line) (commit_lines_of t)

abbrev pub first_line : List CommitLine → Option ℕ
first_line [] = None
first_line (c ∷ cs) = Some c.line

abbrev pub last_line : List CommitLine → Option ℕ
last_line [] = None
last_line (c ∷ cs) = option_or (last_line cs) (Some c.line)

-- of a content check: some commit on an earlier line is above the snapshot; the last such line is told
abbrev pub not_latest : TraceValue → EntryValue → Option ℕ
not_latest t e = if is_content e.kind && list_any (λ c. nat_lt e.snapshot c.at) (earlier_commits t e)
    then last_line (earlier_commits t e) else None

-- some commit on a later line is at or below the snapshot; the first later line of a commit is told
abbrev pub open_snapshot : TraceValue → EntryValue → Option ℕ
open_snapshot t e = if list_any (λ c. nat_le c.at e.snapshot) (later_commits t e)
    then first_line (later_commits t e) else None

-- a zookie without a kind may be of any
abbrev pub may_stand_for_content : Option TokenKind → Bool
may_stand_for_content None = true
may_stand_for_content (Some AclWrite) = false
may_stand_for_content (Some ContentVersion) = true
may_stand_for_content (Some ReadSnapshot) = false

-- the zookie carries the timestamp, as one of content
abbrev pub is_token_of : ℕ → Option Token → Bool
is_token_of s None = false
is_token_of s (Some z) = (z.at == s) && may_stand_for_content z.kind

-- a content check was authorized and issued no zookie of its snapshot
abbrev pub is_wrong_token : EntryValue → Bool
is_wrong_token e = is_content e.kind && (e.reply && not (is_token_of e.snapshot e.zookie))

-- a check names a version that nobody issued for its object on an earlier line
abbrev pub is_unknown_version : TraceValue → ℕ → EntryValue → Bool
is_unknown_version t i e = is_some (version_named e.kind (entry_version e)) && is_none (content_of t.entries i)

-- what is found on entry i, which is e
abbrev pub order_of : TraceValue → ℕ → EntryValue → OrderFindings
order_of t i e = record {
  stale = is_stale e;
  old_token = old_token t i e;
  not_latest = not_latest t e;
  open_snapshot = open_snapshot t e;
  wrong_token = is_wrong_token e;
  unknown_version = is_unknown_version t i e;
}

abbrev pub nothing_found : OrderFindings
nothing_found = record {
  stale = false;
  old_token = None;
  not_latest = None;
  open_snapshot = None;
  wrong_token = false;
  unknown_version = false;
}

-- none of the six is found on any entry
abbrev pub HasNoOrderFindings : TraceValue → Type 0
HasNoOrderFindings t = (i : ℕ) (e : EntryValue) → slice_get t.entries i ≡ Some e → order_of t i e ≡ nothing_found
