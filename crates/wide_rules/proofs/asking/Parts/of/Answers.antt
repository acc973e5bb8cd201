use Rattle.wide_rules.proofs.asking.Parts.of.Goals as goal

pub invariant_of-result : goal.invariant_of-result
invariant_of-result c = (
  c.in_ok-nothing_kept.ensures c.args.timeline,
  rw (← c.deref.ensures.value) (c.in_ok-covers_kept.ensures c.args.timeline),
  c.in_ok-covers.ensures,
)
