use Rattle.std.proofs.Common.{◌≡◌, ◌+◌, ◌≤◌, drop, length, not}
use Rattle.std.specs.Prelude.{filter}
use Rattle.carry_laws.specs.Asked.{is_audited}
use Rattle.follow.specs.Handing.{unaudited}
use Rattle.follow.proofs.handing.count_unaudited.Given as goal

-- those so far, and those of the rest
abbrev pub invariant-loop-i : goal.invariant-loop-i
invariant-loop-i l = record {
  counted : l.count + length (filter (λ e. not (is_audited l.known l.trace.entries e)) (drop l.i l.trace.entries))
      ≡ unaudited l.known l.begun l.trace;
  few : l.count + l.begun ≤ l.i;
}
