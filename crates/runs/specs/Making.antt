-- What stands on the next line of a log.
use Rattle.std.specs.Prelude.{ℕ, ◌+◌, ◌<◌, ◌^◌}
use Rattle.runs.specs.declared.making.Next.{Next}
use Rattle.runs.specs.declared.making.Next.TheVariants.{Declares, Commits, Records}

-- a place among so many, behind which there is another number
abbrev pub IsBelow : ℕ → ℕ → Type 0
IsBelow i n = (i < n) × (i + 1 < 2 ^ 64)

-- what is said to stand there is there
abbrev pub IsThere : Type 0 → Type 0 → Type 0 → Next → Type 0
IsThere declaration commit entry Declares = declaration
IsThere declaration commit entry Commits = commit
IsThere declaration commit entry Records = entry
