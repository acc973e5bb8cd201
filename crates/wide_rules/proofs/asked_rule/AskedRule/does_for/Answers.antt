use Rattle.std.proofs.Common.{◌≡◌, Bool, List, subst}
use Rattle.rewrites.specs.Parts.{node_expression, parts_shown, rule_shown}
use Rattle.rewrites.specs.declared.parts.PartedRule.{PartedRule}
use Rattle.wide_rules.specs.Asked.{AreRightPaths, Follows, Questions}
use Rattle.wide_rules.specs.AskedFact.{Tells}
use Rattle.wide_rules.specs.declared.answers.Asked.{Asked}
use Rattle.judgement.specs.declared.asked.AskedFact.{AskedFact}
use Rattle.wide_rules.specs.declared.paths.Path.{Path}
use Rattle.wide_rules.proofs.AskedLemmas.{none_right, right_then}
use Rattle.wide_rules.proofs.asked_rule.AskedRule.does_for.Goals as goal

-- what the top node of a rule's parts tells is told of the rule
of_rule : {F : Type 0} (a : AskedFact F) (q : Questions) (is_given : Bool) (r : PartedRule) (old new : List Asked) (answer : Bool)
    → q.parts ≡ parts_shown r.parts.items → Tells a q is_given (node_expression q.parts r.top) old new answer
    → Tells a q is_given (rule_shown r) old new answer
of_rule a q is_given r old new answer same told =
    subst (λ es. Tells a q is_given (node_expression es r.top) old new answer) same told

-- so the rule's paths stay right where one more is kept
right_still : {F : Type 0} (a : AskedFact F) (q : Questions) (is_given : Bool) (r : PartedRule) (old new : List Asked) (answer : Bool) (paths : List Path)
    → q.parts ≡ parts_shown r.parts.items → Tells a q is_given (node_expression q.parts r.top) old new answer
    → (Follows q new is_given (rule_shown r) answer → AreRightPaths q (rule_shown r) paths)
    → (q.parts ≡ parts_shown r.parts.items) × AreRightPaths q (rule_shown r) paths
right_still a q is_given r old new answer paths same told keep = (same, keep (of_rule a q is_given r old new answer same told).follows)

pub returns-in-Some-clause-does : goal.returns-in-Some-clause-does
returns-in-Some-clause-does g c =
    let q = c.self.inside.parts.questions in
    let rule = rule_shown c.self.inside.rule.now in
    let right = c.in_ok-reached.ensures.right (none_right c.args.fact.now q c.clear.new.self c.clear.ensures) in
    rw (← c.self.view_is)
    (right_then c.args.fact.now q c.ask_again.new.answers c.args.is_given rule c.in-Some.answer right (c.in-Some.ensures q rule c.self.invariant.1))

pub returns-clause-does : goal.returns-clause-does
returns-clause-does g c =
    let s = c.self.inside in
    let q = s.parts.questions in
    let right = c.in_ok-reached.ensures.right (none_right c.args.fact.now q c.clear.new.self c.clear.ensures) in
    let told = of_rule c.args.fact.now q c.args.is_given s.rule.now c.ask_again.new.answers c.node_does.new.answers c.in_ok-answer.answer
    c.self.invariant.0 (rw c.in_ok-reached.ensures.same at c.in_ok-answer.ensures.tells) in
    rw (← c.self.view_is)
    (right_then c.args.fact.now q c.node_does.new.answers c.args.is_given (rule_shown s.rule.now) c.in_ok-answer.answer (told.right right) told.follows)

pub invariant_of-self-in_err-keep : goal.invariant_of-self-in_err-keep
invariant_of-self-in_err-keep g c =
    let s = c.self.inside in
    rw (c.in_ok-answer.ensures.same, c.in_ok-reached.ensures.same)
    (right_still c.args.fact.now s.parts.questions c.args.is_given s.rule.now c.ask_again.new.answers c.node_does.new.answers c.in_ok-answer.answer _
    c.self.invariant.0 (rw c.in_ok-reached.ensures.same at c.in_ok-answer.ensures.tells)
    (λ follows. c.keep.ensures s.parts.questions (rule_shown s.rule.now) c.self.invariant.1 (rw c.as_slice.ensures follows)))

pub invariant_of-self-2 : goal.invariant_of-self-2
invariant_of-self-2 g c =
    let s = c.self.inside in
    rw (c.in_ok-answer.ensures.same, c.in_ok-reached.ensures.same)
    (right_still c.args.fact.now s.parts.questions c.args.is_given s.rule.now c.ask_again.new.answers c.node_does.new.answers c.in_ok-answer.answer _
    c.self.invariant.0 (rw c.in_ok-reached.ensures.same at c.in_ok-answer.ensures.tells)
    (λ follows. c.keep.ensures s.parts.questions (rule_shown s.rule.now) c.self.invariant.1 (rw c.as_slice.ensures follows)))
