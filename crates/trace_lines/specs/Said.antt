-- What the fields of a check say, each of its shape.
use Rattle.std.specs.Prelude.{ℕ, Option, None, Some, Result, Ok, Err, option_map}
use Rattle.refusals.specs.Refusals.{◌>>=◌}
use Rattle.trace_lines.specs.Texts.{goal_of, token_of}
use Rattle.trace_lines.specs.Values.{EntryValue}
use Rattle.trace_lines.specs.declared.cause.Cause.{Cause}
use Rattle.trace_lines.specs.declared.cause.Cause.TheVariants as causes
use Rattle.trace_lines.specs.declared.entry.EntryKind.{EntryKind}
use Rattle.trace_lines.specs.declared.checks.Said.{Said}

-- the entry that these say
abbrev pub entry_said : EntryKind → ℕ → ℕ → Option Said → Result EntryValue Cause
entry_said kind n before None = Err causes.Shape
entry_said kind n before (Some s) =
    goal_of s.goal.now >>= λ goal. token_of (option_map (λ t. t.now) s.zookie) >>= λ token.
    Ok (record {
      kind = kind;
      line = n;
      goal = goal;
      snapshot = s.snapshot;
      reply = s.reply;
      zookie = token;
      version = option_map (λ t. t.now) s.version;
      before = before;
    })
