use Rattle.std.proofs.Common.{rules, ◌≡◌, [], map}
use Rattle.std.proofs.lemmas.Result.{IfOk-weaker}
use Rattle.namespaces.specs.Lookup.{expression_in}
use Rattle.rewrites.specs.View.{expression_of}
use Rattle.rewrites.proofs.LeavesLemmas.{plain_leaves, no_leaves}
use Rattle.namespaces.proofs.rules.Rules.leaves_in.Goals as goal

pub returns-in-Some : goal.returns-in-Some
returns-in-Some c =
    IfOk-weaker c.leaves_of.result _ _
    (λ v are. plain_leaves (map expression_of v.items) (expression_of c.in-Some.rule.now.rewrite) (expression_in c.args.place c.args.self.now) are c.in-Some.ensures)
    c.leaves_of.ensures

pub returns-in-None : goal.returns-in-None
returns-in-None c =
    let none : c.new.result.items ≡ [] = search rules in
    rw none (no_leaves (expression_in c.args.place c.args.self.now) c.in-None.ensures)
