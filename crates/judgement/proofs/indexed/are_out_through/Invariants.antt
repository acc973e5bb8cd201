use Rattle.std.proofs.Common.{◌≡◌, Some, ℕ, suc, length, ◌<◌, ◌≤◌}
use Rattle.tuple_text.specs.Sets.{SetValue}
use Rattle.tuple_text.specs.declared.users.User.TheVariants.{Set}
use Rattle.namespaces.specs.Lookup.{namespace_names, place_of}
use Rattle.strata.specs.Meaning.{IsStored}
use Rattle.judgement.specs.AskedFact.{asked_set, tuples_over}
use Rattle.judgement.specs.Passes.{AreThroughOut}
use Rattle.judgement.proofs.indexed.are_out_through.Given as goal

abbrev pub invariant-loop-before : goal.invariant-loop-before
invariant-loop-before g l = record {
  each : (n : ℕ) (s : SetValue) → n < l.before → IsStored (tuples_over l.fact) (asked_set l.fact) (Set s)
      → place_of s.namespace (namespace_names l.fact.snapshot.now.timeline.declarations) ≡ Some (suc n)
      → AreThroughOut l.fact.snapshot.now l.index.through l.fact.known.now (asked_set l.fact) l.relation l.fact.user (suc n);
  few : 0 < l.before → length (namespace_names l.fact.snapshot.now.timeline.declarations) ≤ 256;
}
