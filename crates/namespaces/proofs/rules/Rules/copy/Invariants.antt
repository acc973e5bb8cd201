use Rattle.std.proofs.Common.{◌≡◌, take}
use Rattle.namespaces.specs.Shown.{show_lines}
use Rattle.namespaces.proofs.rules.Rules.copy.Given as goal

-- the lines copied so far
abbrev pub invariant-loop-line : goal.invariant-loop-line
invariant-loop-line l = l.rules ≡ show_lines (take l.line-index l.line-items)
