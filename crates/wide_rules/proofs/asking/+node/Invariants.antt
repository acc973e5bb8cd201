use Rattle.std.proofs.Common.{◌≡◌, drop}
use Rattle.rewrites.specs.Parts.{nodes_shown}
use Rattle.wide_rules.specs.Asked.{joined_of}
use Rattle.wide_rules.proofs.AskedLemmas.{IsLeft}
use Rattle.wide_rules.proofs.asking.+node.Given as goal

-- the nodes that are left decide, and the parts are those of before
abbrev pub invariant-nodes_do-loop-node : goal.invariant-nodes_do-loop-node
invariant-nodes_do-loop-node g l = record {
  same : l.parts ≡ l.fn.parts;
  left : IsLeft l.fact l.fn.parts.questions l.is_given (joined_of l.stop l.is_given (nodes_shown l.fn.parts.questions.parts l.node-items))
      (joined_of l.stop l.is_given (nodes_shown l.fn.parts.questions.parts (drop l.node-index l.node-items))) l.fn.answers l.answers;
}
