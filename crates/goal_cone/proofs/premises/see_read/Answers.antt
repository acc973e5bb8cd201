use Rattle.std.proofs.Common.{◌≡◌, ◌∙◌, ap, List, option_map, inr, sym, subst}
use Rattle.tuple_text.specs.Sets.{SetValue}
use Rattle.namespaces.specs.Declaration.{Declaration}
use Rattle.namespaces.specs.Lookup.{Rule, rule_of, expression_in}
use Rattle.rewrites.specs.Expression.{Expression, children}
use Rattle.snapshots.specs.Snapshots.{rules_in, tuples_in}
use Rattle.goal_cone.specs.Bounds.{links_all, links_of}
use Rattle.goal_cone.specs.Leaves.{HaveLeavesOf, IsNoted, numbered, read_shown}
use Rattle.goal_cone.specs.Pass.{IsRead}
use Rattle.goal_cone.specs.Premises.{ReadsSome}
use Rattle.goal_cone.proofs.PassLemmas.{passes_declared}
use Rattle.goal_cone.proofs.SeenLemmas.{HasLeaves, read_by}
use Rattle.goal_cone.proofs.premises.see_read.Goals.{After-see_parts}
use Rattle.goal_cone.proofs.premises.see_read.Goals as goal

found : (c : After-see_parts) → HasLeaves (rules_in c.args.snapshot.now) c.args.fact.now.set (read_shown c.parts-parts.result.now)
found c =
    subst (λ (es : List Expression). HasLeaves (rules_in c.args.snapshot.now) c.args.fact.now.set es) (sym c.parts-parts.ensures.shown)
    (subst (HaveLeavesOf (numbered c.in_ok-number.number c.number.new.self.found)) (ap (expression_in c.in-Some.place) c.requires ∙
    subst (λ (g : SetValue). expression_in c.in-Some.place c.args.snapshot.now.timeline.declarations ≡ option_map (λ (r : Rule). r.expression) (rule_of (rules_in c.args.snapshot.now) g))
    c.set.ensures.parts (rw c.rules-rules.ensures at c.in-Some.ensures)) c.in_ok-number.ensures.found)

pub returns-clause-passes : goal.returns-clause-passes
returns-clause-passes c =
    let s = c.args.snapshot.now in
    let fact = c.args.fact.now in
    let es = read_shown c.parts-parts.result.now in
    let read = read_by (rules_in s) (tuples_in s) fact es (found (goal.at.returns-clause-passes c).After-see_parts) in
    passes_declared 131072 4194304 s (ReadsSome (tuples_in s) fact (children es))
    (IsRead (rules_in s) (tuples_in s) fact) read.0
    (links_all (tuples_in s) fact.set (children es)) (links_of (rules_in s) (tuples_in s) fact) read.2
    (λ p r. inr (read.1 p r))
    c.see_parts.result c.args.seen.now c.see_parts.new.seen c.args.room.now c.see_parts.new.room
    (rw (c.set-2.ensures.parts, c.user.ensures.value) at c.see_parts.ensures)

pub see_parts-requires : goal.see_parts-requires
see_parts-requires c = λ r there.
    subst (λ (ds : List Declaration). IsNoted ds r) (c.number.ensures.rules ∙ c.requires) (c.parts-parts.ensures.noted r there)
