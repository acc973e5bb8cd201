use Rattle.std.proofs.Common.{◌∙◌, sym}
use Rattle.audit_slices.proofs.members.raise_one.Goals as goal

pub put-requires : goal.put-requires
put-requires g c = (
  c.requires.names.reports c.args.entry c.args.report.now c.requires.report,
  sym (c.requires.names.alerts c.args.report.now) ∙ sym c.alerts.ensures ∙ c.if-alerts.true,
)
