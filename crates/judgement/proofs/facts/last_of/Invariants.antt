use Rattle.std.proofs.Common.{◌≡◌, ◌≤◌, map}
use Rattle.marks.specs.Placed.{last_place}
use Rattle.judgement.specs.Facts.{is_of_user}
use Rattle.judgement.proofs.facts.last_of.Given as goal

-- no fact of the user stands between
abbrev pub invariant-loop-place : goal.invariant-loop-place
invariant-loop-place g l = record {
  within : l.place ≤ l.places;
  none : last_place (is_of_user l.user) (map g.F.KnownFact.fact l.facts) l.places
      ≡ last_place (is_of_user l.user) (map g.F.KnownFact.fact l.facts) l.place;
}

abbrev pub decreases-loop-place : goal.decreases-loop-place
decreases-loop-place g l = l.place
