use Rattle.std.proofs.Common.{rules, ◌≡◌, ◌∙◌, ℕ, List, [], Some, true, false, ap, sym}
use Rattle.std.proofs.lemmas.Bool.{not-false}
use Rattle.std.proofs.lemmas.List.{nil_from_length}
use Rattle.namespaces.specs.Lookup.{namespace_names, namespace_numbered}
use Rattle.strata.proofs.LastTuple.{placed}
use Rattle.strata.proofs.Lists.{not_in_nil}
use Rattle.tuple_text.specs.Refs.{set_value}
use Rattle.rewrites.specs.Parts.{computed_names}
use Rattle.snapshots.specs.Snapshots.{rules_in}
use Rattle.wide_rules.proofs.LiveLemmas.{none_absent}
use Rattle.goal_cone.proofs.TargetLemmas.{has_declaring, if_not_some}
use Rattle.goal_cone.proofs.through.is_wanted.Goals.{then-not-has-via-then-not-has, then-not-has-via-else-not-has+then-is_absent, then-not-has-via-else-not-has+else-is_absent+then-stores_none}
use Rattle.goal_cone.proofs.through.is_wanted.Goals as goal

pub returns-in_ok-names-in-Some : goal.returns-in_ok-names-in-Some
returns-in_ok-names-in-Some c = λ declaring unwanted g k is read matters.
    let s = c.args.snapshot.now in
    let ds = s.timeline.declarations in
    let none : c.in_ok-names-in-Some.names.items ≡ [] = nil_from_length c.in_ok-names-in-Some.names.items (let empty : c.is_empty.result ≡ true = not-false c.is_empty.result unwanted in search rules) in
    let read_there = rw c.rules-rules.ensures at (c.in_ok-names-in-Some.ensures (rw c.rules-rules.ensures declaring)) in
    let name : namespace_numbered c.args.number ds ≡ Some c.in-Some.namespace.now = search rules in
    let one : c.in-Some.namespace.now ≡ g.namespace = (let both : Some c.in-Some.namespace.now ≡ Some g.namespace = sym name ∙ placed g.namespace (namespace_names ds) c.args.number is in cc) in
    matters.1 (if_not_some (rules_in s g.namespace k) (λ declared.
    not_in_nil k (rw none at (read_there.declared k read (λ undeclared. declared (ap (λ (q : List ℕ). rules_in s q k) (sym one) ∙ undeclared))))))

pub returns-then-not-has : goal.returns-then-not-has
returns-then-not-has c = λ declaring unwanted g k is read matters.
    let s = c.args.snapshot.now in
    let tupleset = set_value c.args.tupleset.set in
    elim c.then-not-has.branch [
      | then-not-has-via-then-not-has w ↦
          matters.1 (if_not_some (rules_in s g.namespace k) (λ declared.
          let has = has_declaring s tupleset (computed_names c.args.through.now) c.fits.ensures c.args.declaring declaring c.args.number g k is read declared in
          let there : c.has.result ≡ true = c.has.ensures.1 has in
          let none : c.has.result ≡ false = search rules in
          let bad : true ≡ false = sym there ∙ none in
          cc))
      | then-not-has-via-else-not-has+then-is_absent w ↦
          absurd (none_absent s tupleset c.args.stored c.args.number g c.requires (w.is_absent.ensures w.if-is_absent.true) matters.0 is)
      | then-not-has-via-else-not-has+else-is_absent+then-stores_none w ↦ absurd (w.stores_none.ensures w.if-stores_none.true g matters.0 is)
    ]
