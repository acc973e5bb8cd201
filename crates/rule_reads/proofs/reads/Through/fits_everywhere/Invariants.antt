use Rattle.std.proofs.Common.{◌≡◌, ◌<◌, ℕ, List, Some}
use Rattle.namespaces.specs.Lookup.{namespace_numbered}
use Rattle.rule_reads.specs.Reads.{IsLowWhereStored}
use Rattle.rule_reads.proofs.reads.Through.fits_everywhere.Given as goal

abbrev pub invariant-loop-number : goal.invariant-loop-number
invariant-loop-number l =
    (n : ℕ) (users : List ℕ) → n < l.number → namespace_numbered n l.scope.rules.now ≡ Some users → IsLowWhereStored l.scope.rules.now l.scope.kinds.now users l.self
