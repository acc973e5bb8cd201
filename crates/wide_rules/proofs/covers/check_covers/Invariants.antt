use Rattle.rewrites.specs.Parts.{part_expression, parts_shown}
use Rattle.wide_rules.specs.Asked.{AreCovers}
use Rattle.wide_rules.proofs.covers.check_covers.Given as goal

-- those so far are of covers
abbrev pub invariant-loop-number : goal.invariant-loop-number
invariant-loop-number l = AreCovers (parts_shown l.covers) (part_expression l.part) l.numbers.items
