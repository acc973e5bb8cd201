-- What a trace says of membership at a timestamp, and so of its replies.
use Rattle.std.specs.Prelude.{◌≡◌, ℕ, true, false, IsTrue, ◌↔◌}
use Rattle.namespaces.specs.Lookup.{rule_at}
use Rattle.version_chains.specs.Commits.{store_at}
use Rattle.strata.specs.Meaning.{Member}
use Rattle.tuple_text.specs.Tuples.{FactValue}
use Rattle.trace_lines.specs.Values.{EntryValue, TraceValue}

-- the user of the fact is a member of its userset, by the rules in force and the tuples stored at a timestamp
abbrev pub IsMemberAt : TraceValue → ℕ → FactValue → Type 0
IsMemberAt t s f = Member (rule_at t.declarations s) (store_at t.commits s) f

-- the reply is what the rules mean over the tuples committed up to its snapshot
abbrev pub IsRight : TraceValue → EntryValue → Type 0
IsRight t e = IsTrue e.reply ↔ IsMemberAt t e.snapshot e.goal

-- it is the opposite: what was allowed is no member, and what was denied is one
pub record IsWrong (t : TraceValue) (e : EntryValue) : Type 0 where
  pub allowed : e.reply ≡ true → ¬ IsMemberAt t e.snapshot e.goal
  pub denied : e.reply ≡ false → IsMemberAt t e.snapshot e.goal
