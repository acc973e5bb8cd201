use Rattle.std.proofs.Common.{◌≡◌, ◌∙◌, [], map, sym, subst, rules}
use Rattle.std.proofs.lemmas.List.{append-nil}
use Rattle.tuple_text.specs.Refs.{set_value}
use Rattle.snapshots.specs.Leading.{AreAll}
use Rattle.snapshots.proofs.LeadingLemmas as lemma
use Rattle.snapshots.proofs.snapshot.Snapshot.all_stored.Goals as goal

pub returns : goal.returns
returns c =
    let gs = c.usersets-stored-items.result in
    let none : c.loop-stored.stored-iterator ≡ [] = search rules in
    let first : c.into_iter-stored-iterator.result ≡ gs = search rules in
    let all : map set_value c.loop-stored.sets.items ≡ gs =
    sym (append-nil (map set_value c.loop-stored.sets.items)) ∙ rw none at c.loop-stored.invariant ∙ first in
    subst (AreAll c.args.self.now (set_value c.args.set.set)) (sym all)
    (lemma.all_stored c.args.self.now (set_value c.args.set.set) gs c.usersets-stored-items.ensures.distinct c.usersets-stored-items.ensures.stored)
