use Rattle.std.proofs.Common.{◌∙◌}
use Rattle.std.specs.Prelude.{Ok}
use Rattle.std.proofs.lemmas.List.Sorted.{searched}
use Rattle.evidence_check.proofs.Places.{never_falls, found_place}
use Rattle.evidence_check.proofs.placed.place_of.Goals as goal

pub returns-then-lines-likely : goal.returns-then-lines-likely
returns-then-lines-likely c = found_place c.args.lines.now c.requires c.args.line (Ok c.args.likely) (c.if-likely-lines.true, c.if-lines-likely.true)

pub returns : goal.returns
returns c = c.ok.ensures.value ∙ found_place c.args.lines.now c.requires c.args.line c.binary_search.result (searched c.args.lines.now c.args.line c.binary_search.result c.binary_search.ensures.position (never_falls c.args.lines.now c.requires))
