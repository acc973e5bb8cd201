use Rattle.std.proofs.Common.{◌∙◌, sym}
use Rattle.marks.specs.Marks.{set_mark}
use Rattle.marks.proofs.PlacedLemmas.{and-left, and-right}
use Rattle.userset_index.specs.Index.{is_crowded}
use Rattle.judgement.specs.AskedFact.{asked_set}
use Rattle.judgement.proofs.stored.crowd_of.Goals as goal

pub returns-then-is_crowded : goal.returns-then-is_crowded
returns-then-is_crowded g c =
    let v = c.usersets-index.result.now in
    let crowded = is_crowded v.crowds (set_mark (asked_set c.args.fact.now)) in
    let both = sym c.is_crowded.ensures ∙ c.if-is_crowded.true in
    record { whole = c.usersets-index.ensures (and-left v.is_whole crowded both); crowded = and-right v.is_whole crowded both }
