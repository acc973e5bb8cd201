use Rattle.std.proofs.Common.{rules, true, ◌≡◌, ◌++◌, ◌∷◌, ◌∙◌, ℕ, List, [], map, ap, sym, subst, arith}
use Rattle.std.proofs.lemmas.Grind.{common_steps}
use Rattle.std.proofs.lemmas.List.{nil_from_length}
use Rattle.std.specs.Prelude.{string_bytes}
use Rattle.std.specs.Vec.Iter.{into_iter_items}
use Rattle.tuple_text.specs.Refs.{set_value}
use Rattle.tuple_text.specs.Sets.{SetValue}
use Rattle.rewrites.specs.Parts.{computed_names}
use Rattle.strata.specs.Meaning.{with_relation}
use Rattle.snapshots.specs.Snapshots.{rules_in}
use Rattle.wide_rules.specs.Declaring.{HaveDeclaring}
use Rattle.goal_cone.specs.Targets.{AreObjects, AreRead, AreTargeted, targets_under}
use Rattle.goal_cone.proofs.TargetLemmas.{all_targeted, next_targeted, no_targets, none_targeted}
use Rattle.goal_cone.proofs.through.targets.Goals.{After-into_iter-stored-iterator, then-not-are_of_one+in_ok-names-2, else-not-are_of_one}
use Rattle.goal_cone.proofs.through.targets.Goals as goal

-- what is stored is gone over
gone_over : (c : After-into_iter-stored-iterator) → HaveDeclaring c.args.snapshot.now.timeline.declarations (computed_names c.args.through.now) c.args.declaring
    → AreObjects c.args.snapshot.now (with_relation (set_value c.args.set) (string_bytes c.args.through.now.tupleset)) (computed_names c.args.through.now)
    (map set_value (into_iter_items c.into_iter-stored-iterator.result))
gone_over c declaring =
    let s = c.args.snapshot.now in
    let names = computed_names c.args.through.now in
    let same : into_iter_items c.into_iter-stored-iterator.result ≡ c.in_ok-objects.objects.items = search rules in
    let at : set_value c.of-tupleset.result.set ≡ with_relation (set_value c.args.set) (string_bytes c.args.through.now.tupleset) =
    ap set_value c.of-tupleset.ensures ∙ c.under.ensures ∙ ap (with_relation (set_value c.args.set)) c.as_str.ensures.value in
    rw same (subst (λ (g : SetValue). AreObjects s g names (map set_value c.in_ok-objects.objects.items)) at (c.in_ok-objects.ensures declaring))

pub returns-then-is_empty : goal.returns-then-is_empty
returns-then-is_empty c = λ declaring.
    let s = c.args.snapshot.now in
    let names = computed_names c.args.through.now in
    let at : set_value c.of-tupleset.result.set ≡ with_relation (set_value c.args.set) (string_bytes c.args.through.now.tupleset) =
    ap set_value c.of-tupleset.ensures ∙ c.under.ensures ∙ ap (with_relation (set_value c.args.set)) c.as_str.ensures.value in
    let none : c.in_ok-objects.objects.items ≡ [] = nil_from_length c.in_ok-objects.objects.items (let empty : c.is_empty.result ≡ true = search rules in search rules) in
    let nothing : c.new-targets.result.items ≡ [] = search rules in
    let objects = rw none at (subst (λ (g : SetValue). AreObjects s g names (map set_value c.in_ok-objects.objects.items)) at (c.in_ok-objects.ensures declaring)) in
    rw nothing (no_targets s (with_relation (set_value c.args.set) (string_bytes c.args.through.now.tupleset)) names objects)

pub loop-stored-init : goal.loop-stored-init
loop-stored-init c = λ declaring.
    let s = c.args.snapshot.now in
    let none : c.new-targets.result.items ≡ [] = search rules in (
      rw c.rules-rules.ensures at (c.in_ok-names.ensures (rw c.rules-rules.ensures declaring)),
      rw none (none_targeted s (with_relation (set_value c.args.set) (string_bytes c.args.through.now.tupleset)) (computed_names c.args.through.now)
          (map set_value (into_iter_items c.into_iter-stored-iterator.result))),
    )

pub loop-stored-preserved : goal.loop-stored-preserved
loop-stored-preserved c = λ declaring.
    let s = c.args.snapshot.now in
    let tupleset = with_relation (set_value c.args.set) (string_bytes c.args.through.now.tupleset) in
    let names = computed_names c.args.through.now in
    let g = set_value c.in-Some.stored in
    let gs = map set_value (into_iter_items c.into_iter-stored-iterator.result) in
    let rest = map set_value (into_iter_items c.next.new.self) in
    let ks = map (λ s. s.now) c.if-not-are_of_one.names.items in
    let left : into_iter_items c.loop-stored.stored-iterator ≡ c.in-Some.stored ∷ into_iter_items c.next.new.self = search rules in
    let invariant = c.loop-stored.invariant declaring in
    let read : AreRead (rules_in s (set_value c.if-not-are_of_one.of).namespace) names ks × AreRead (rules_in s g.namespace) names ks = elim c.if-not-are_of_one.branch [
      | then-not-are_of_one+in_ok-names-2 w ↦
          let now = rw c.rules-rules.ensures at (w.in_ok-names-2.ensures (rw c.rules-rules.ensures declaring)) in
          let of_is : c.if-not-are_of_one.of ≡ c.in-Some.stored = search rules in
          let names_is : c.if-not-are_of_one.names ≡ w.in_ok-names-2.names = search rules in
          rw (of_is, names_is) (now, now)
      | else-not-are_of_one w ↦
          let of_is : c.if-not-are_of_one.of ≡ c.loop-stored.of = search rules in
          let names_is : c.if-not-are_of_one.names ≡ c.loop-stored.names = search rules in
          let one : (set_value c.loop-stored.of).namespace ≡ g.namespace = search rules in
          rw (of_is, names_is) (invariant.0, subst (λ (q : List ℕ). AreRead (rules_in s q) names (map (λ s. s.now) c.loop-stored.names.items)) one invariant.0)
    ] in
    let before : AreTargeted s tupleset names gs (g ∷ rest) (map set_value c.loop-stored.targets.items) = rw left at invariant.1 in
    let more : map set_value c.push_under.new.targets.items ≡ map set_value c.loop-stored.targets.items ++ targets_under g ks = rw c.deref.ensures.value at c.in_ok-push_under.ensures in (
      read.0,
      subst (AreTargeted s tupleset names gs rest) (sym more)
          (next_targeted s tupleset names gs rest (map set_value c.loop-stored.targets.items) g ks
          (gone_over (goal.at.loop-stored-preserved c).After-into_iter-stored-iterator declaring).stored read.1 before),
    )

pub returns : goal.returns
returns c = λ declaring.
    let s = c.args.snapshot.now in
    let tupleset = with_relation (set_value c.args.set) (string_bytes c.args.through.now.tupleset) in
    let names = computed_names c.args.through.now in
    let gs = map set_value (into_iter_items c.into_iter-stored-iterator.result) in
    let left : into_iter_items c.loop-stored.stored-iterator ≡ [] = grind (arith, common_steps, c.in-None.ensures.steps) in
    all_targeted s tupleset names gs (map set_value c.loop-stored.targets.items) (gone_over (goal.at.returns c).After-into_iter-stored-iterator declaring)
    (rw left at (c.loop-stored.invariant declaring).1)
