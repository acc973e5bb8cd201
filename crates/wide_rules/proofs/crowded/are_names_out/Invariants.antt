use Rattle.std.proofs.Common.{◌≡◌, ℕ, List, ◌<◌, Some}
use Rattle.std.specs.Prelude.{Contains, slice_get}
use Rattle.namespaces.specs.InForce.{names_in_force}
use Rattle.rewrites.specs.Parts.{computed_names}
use Rattle.judgement.specs.AskedFact.{IsNumberOut}
use Rattle.wide_rules.proofs.crowded.are_names_out.Given as goal

-- those so far are not read, or nothing stored may have the user under them
abbrev pub invariant-loop-k : goal.invariant-loop-k
invariant-loop-k g l =
    (i : ℕ) (c : List ℕ) → i < l.k → slice_get (names_in_force l.fact.snapshot.now.at l.namespace l.fact.snapshot.now.timeline.declarations) i ≡ Some c
    → Contains (computed_names l.through) c → IsNumberOut l.fact l.index.through l.number c
