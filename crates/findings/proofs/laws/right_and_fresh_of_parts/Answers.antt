use Rattle.findings.proofs.PartsTogether.{right_of_parts, seen_in_parts}
use Rattle.findings.proofs.laws.right_and_fresh_of_parts.Goals as goal

pub returns : goal.returns
returns c = λ part t clean. (right_of_parts part t clean, seen_in_parts part t clean)
