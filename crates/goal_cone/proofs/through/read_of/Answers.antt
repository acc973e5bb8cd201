use Rattle.std.proofs.Common.{rules, ◌≡◌, ◌++◌, ◌∷◌, ◌+◌, ◌∙◌, ap, Bor, ℕ, List, [], None, Some, length, map, sym, subst}
use Rattle.std.proofs.lemmas.List.{map-append}
use Rattle.std.specs.Prelude.{Contains, slice_get}
use Rattle.namespaces.specs.InForce.{names_in_force}
use Rattle.namespaces.specs.Lookup.{rule_at}
use Rattle.rewrites.specs.Parts.{computed_names}
use Rattle.goal_cone.specs.Targets.{AreReadBefore}
use Rattle.goal_cone.proofs.TargetLemmas.{all_read, passed, pushed}
use Rattle.goal_cone.proofs.through.read_of.Goals.{in-Some+in_ok-push, in_default}
use Rattle.goal_cone.proofs.through.read_of.Goals as goal

abbrev text : Bor (List ℕ) → List ℕ
text s = s.now

pub loop-k-preserved : goal.loop-k-preserved
loop-k-preserved c =
    let source = names_in_force c.args.at c.args.namespace.now c.args.rules.now in
    let names = computed_names c.args.through.now in
    let before = map text c.loop-k.names.items in
    elim c.match-read_at.branch [
      | in-Some+in_ok-push w ↦
          let one_more : c.match-read_at.names.items ≡ c.loop-k.names.items ++ w.in-Some.name ∷ [] = search rules in
          let more : map text c.match-read_at.names.items ≡ before ++ w.in-Some.name.now ∷ [] = ap (map text) one_more ∙ map-append text c.loop-k.names.items (w.in-Some.name ∷ []) in
          let at : slice_get source c.loop-k.k ≡ Some w.in-Some.name.now = search rules in
          subst (AreReadBefore source names (Contains (computed_names c.args.through.now)) (c.loop-k.k + 1)) (sym more)
          (pushed source names (Contains (computed_names c.args.through.now)) c.loop-k.k before w.in-Some.name.now at (search rules) c.loop-k.invariant)
      | in_default w ↦
          let none : c.read_at.result ≡ None = search rules in
          let same : map text c.match-read_at.names.items ≡ before = ap (map text) (let kept : c.match-read_at.names.items ≡ c.loop-k.names.items = search rules in kept) in
          subst (AreReadBefore source names (Contains (computed_names c.args.through.now)) (c.loop-k.k + 1)) (sym same)
          (passed source names (Contains (computed_names c.args.through.now)) c.loop-k.k before (λ x at there. c.read_at.ensures.none none x at there) c.loop-k.invariant)
    ]

pub returns : goal.returns
returns c =
    let rules_of = rule_at c.args.rules.now c.args.at c.args.namespace.now in
    let ks = map text c.loop-k.names.items in
    let all : c.loop-k.k ≡ length (names_in_force c.args.at c.args.namespace.now c.args.rules.now) = search rules in
    all_read rules_of (names_in_force c.args.at c.args.namespace.now c.args.rules.now) (computed_names c.args.through.now) ks c.loop-k.k all c.requires c.count_in_force-k-end.ensures.whole c.loop-k.invariant
