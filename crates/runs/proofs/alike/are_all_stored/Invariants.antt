use Rattle.std.proofs.Common.{◌≡◌, ◌<◌, ℕ, true, Some}
use Rattle.std.specs.Prelude.{slice_get}
use Rattle.version_chains.specs.Commits.{Touch, changelog, is_stored}
use Rattle.runs.proofs.alike.are_all_stored.Given as goal

-- what was touched so far is stored in the other where it is stored in the log
abbrev pub invariant-loop-i : goal.invariant-loop-i
invariant-loop-i l =
    (k : ℕ) (x : Touch) → k < l.i → slice_get (changelog l.log.commits) k ≡ Some x
    → is_stored l.log.commits l.at x.tuple ≡ true → is_stored l.other.commits l.at x.tuple ≡ true
