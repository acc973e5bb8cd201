use Rattle.std.proofs.Common.{ap, arith}
use Rattle.std.specs.Prelude.{sum_by}
use Rattle.audit_slices.proofs.RunLemmas.{nothing_handed}
use Rattle.audit_slices.proofs.run.member.Goals as goal

pub returns-clause-new : goal.returns-clause-new
returns-clause-new g c = record {
  done = c.new.ensures.items;
  handed = λ h.
      let b = ap (sum_by h) c.requires.lane in
      let d = nothing_handed h c.args.thieves.items c.requires.thieves in
      omega arith;
}
