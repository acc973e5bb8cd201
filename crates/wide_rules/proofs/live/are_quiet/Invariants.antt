use Rattle.rewrites.specs.Parts.{computed_names}
use Rattle.snapshots.specs.Snapshots.{rules_in}
use Rattle.wide_rules.specs.Declaring.{DeclaresNone}
use Rattle.judgement.specs.Passes.{EachSet}
use Rattle.wide_rules.proofs.live.are_quiet.Given as goal

-- what is left decides
abbrev pub invariant-loop-set : goal.invariant-loop-set
invariant-loop-set l =
    EachSet (λ g. DeclaresNone (rules_in l.snapshot) (computed_names l.through) g.namespace) l.set-iterator
    → EachSet (λ g. DeclaresNone (rules_in l.snapshot) (computed_names l.through) g.namespace) l.fn.sets
