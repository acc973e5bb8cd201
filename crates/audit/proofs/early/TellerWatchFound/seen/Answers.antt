use Rattle.std.proofs.Common.{◌∙◌}
use Rattle.audit.proofs.EarlyLemmas.{tells, tells_part}
use Rattle.audit.proofs.early.TellerWatchFound.seen.Goals as goal

pub invariant_of-self : goal.invariant_of-self
invariant_of-self g c = record {
  told =
      tells g.N.Names.gives g.N.Names.alerts g.N.Begun.begun _ _ c.args.alert.now.entry c.args.alert.now.report
      c.as_bytes.result.now c.args.self.now.given_up c.if-self.false c.requires
      (c.as_bytes.ensures.value ∙ c.in-Ok.ensures) c.in-Ok-send.ensures.all c.in-Ok-send.ensures.kept
      c.args.self.now.told;
}

pub invariant_of-self-in-Err-send : goal.invariant_of-self-in-Err-send
invariant_of-self-in-Err-send g c = record {
  told =
      tells_part g.N.Names.gives g.N.Names.alerts g.N.Begun.begun _ _ c.args.alert.now.entry c.args.alert.now.report
      c.as_bytes.result.now c.in-Err-send.field-0.written c.args.self.now.given_up c.if-self.false c.requires
      (c.as_bytes.ensures.value ∙ c.in-Ok.ensures)
      c.in-Err-send.ensures.part.1 c.in-Err-send.ensures.refused c.in-Err-send.ensures.last c.args.self.now.told;
}
