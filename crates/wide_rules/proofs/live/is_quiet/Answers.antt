use Rattle.rewrites.specs.Parts.{computed_names}
use Rattle.wide_rules.proofs.live.is_quiet.Goals as goal

pub returns-then-not-is_among : goal.returns-then-not-is_among
returns-then-not-is_among c _ =
    (rw c.rules-rules.ensures at (c.is_among.ensures c.if-not-is_among.true)) (computed_names c.args.through.now) c.args.snapshot.now.at c.requires c.fits.ensures
