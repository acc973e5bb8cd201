use Rattle.std.proofs.Common.{rules, ◌≡◌, ◌++◌, ◌∷◌, ◌+◌, ◌∙◌, ap, Bor, ℕ, List, [], None, Some, length, map, sym, subst}
use Rattle.std.proofs.lemmas.List.{length-map, map-append}
use Rattle.std.specs.Prelude.{slice_get, string_bytes}
use Rattle.namespaces.specs.Lookup.{rule_at}
use Rattle.rewrites.specs.Parts.{computed_names}
use Rattle.goal_cone.specs.Targets.{AreReadBefore}
use Rattle.goal_cone.proofs.TargetLemmas.{all_declared, at_item, passed, pushed}
use Rattle.goal_cone.proofs.through.declared_of.Goals.{in-Some+in_ok-push, in_default}
use Rattle.goal_cone.proofs.through.declared_of.Goals as goal

abbrev text : Bor (List ℕ) → List ℕ
text s = s.now

pub loop-k-preserved : goal.loop-k-preserved
loop-k-preserved c =
    let source = computed_names c.args.through.now in
    let names = computed_names c.args.through.now in
    let before = map text c.loop-k.names.items in
    elim c.match-declared_at.branch [
      | in-Some+in_ok-push w ↦
          let one_more : c.match-declared_at.names.items ≡ c.loop-k.names.items ++ w.in-Some.name ∷ [] = search rules in
          let more : map text c.match-declared_at.names.items ≡ before ++ w.in-Some.name.now ∷ [] = ap (map text) one_more ∙ map-append text c.loop-k.names.items (w.in-Some.name ∷ []) in
          let at : slice_get source c.loop-k.k ≡ Some w.in-Some.name.now = search rules in
          subst (AreReadBefore source names (λ x. ¬ (rule_at c.args.rules.now c.args.at c.args.namespace.now x ≡ None)) (c.loop-k.k + 1)) (sym more)
          (pushed source names (λ x. ¬ (rule_at c.args.rules.now c.args.at c.args.namespace.now x ≡ None)) c.loop-k.k before w.in-Some.name.now at (at_item names c.loop-k.k w.in-Some.name.now at) c.loop-k.invariant)
      | in_default w ↦
          let none : c.declared_at.result ≡ None = search rules in
          let same : map text c.match-declared_at.names.items ≡ before = ap (map text) (let kept : c.match-declared_at.names.items ≡ c.loop-k.names.items = search rules in kept) in
          subst (AreReadBefore source names (λ x. ¬ (rule_at c.args.rules.now c.args.at c.args.namespace.now x ≡ None)) (c.loop-k.k + 1)) (sym same)
          (passed source names (λ x. ¬ (rule_at c.args.rules.now c.args.at c.args.namespace.now x ≡ None)) c.loop-k.k before (λ x at declared. declared (c.declared_at.ensures.none none x at)) c.loop-k.invariant)
    ]

pub returns : goal.returns
returns c =
    let rules_of = rule_at c.args.rules.now c.args.at c.args.namespace.now in
    let ks = map text c.loop-k.names.items in
    let entries : c.loop-k.k ≡ length c.args.through.now.computed.entries = search rules in
    let all : c.loop-k.k ≡ length (computed_names c.args.through.now) = entries ∙ sym (length-map c.args.through.now.computed.entries (λ e. string_bytes e.0)) in
    all_declared rules_of (computed_names c.args.through.now) ks c.loop-k.k all c.loop-k.invariant
