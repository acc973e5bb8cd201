use Rattle.std.proofs.Common.{◌≡◌, ◌∙◌, ◌++◌, ◌∷◌, [], false, map, All, sym, ap, subst, arith, append-nil, append_assoc}
use Rattle.std.specs.List.{flat_map}
use Rattle.std.specs.Vec.Iter.{into_iter_items}
use Rattle.std.proofs.lemmas.Grind.{common_steps}
use Rattle.std.proofs.lemmas.List.Elements.{All-nil, All-push}
use Rattle.audit_slices.specs.declared.members.Member.{Member}
use Rattle.audit_slices.proofs.RunLemmas.{flat_map-more, map-more}
use Rattle.audit_slices.proofs.run.gather.Given.{Over}
use Rattle.audit_slices.proofs.run.gather.Goals as goal

pub loop-member-preserved : goal.loop-member-preserved
loop-member-preserved g c = record {
  lanes = map-more (λ (m : Member g.row.X.Denot). m.lane) c.loop-member.yielded c.in-Some.member _ _ c.loop-member.invariant.lanes c.in_ok-push.ensures.items;
  thieves = map-more (λ (m : Member g.row.X.Denot). m.thieves) c.loop-member.yielded c.in-Some.member _ _ c.loop-member.invariant.thieves c.in_ok-push-2.ensures.items;
  done = flat_map-more (λ (m : Member g.row.X.Denot). m.done.items) c.loop-member.yielded c.in-Some.member _ _ c.loop-member.invariant.done c.in_ok-append.ensures.items;
  kept = All-push (λ (m : Member g.row.X.Denot). m.lost ≡ false) c.loop-member.yielded c.in-Some.member c.loop-member.invariant.kept c.if-lost.false;
  all = c.loop-member.invariant.all ∙ ap (λ l. c.loop-member.yielded ++ l) c.in-Some.ensures.steps.0 ∙ sym (append_assoc c.loop-member.yielded (c.in-Some.member ∷ []) (into_iter_items c.next.new.self));
}

pub loop-member-init : goal.loop-member-init
loop-member-init g c = record {
  lanes = c.new-lanes.ensures.items;
  thieves = c.new-thieves.ensures.items;
  done = c.new-done.ensures.items;
  kept = All-nil (λ (m : Member g.row.X.Denot). m.lost ≡ false);
  all = sym c.into_iter-member-iterator.ensures.into_iter_gives.0;
}

-- where nothing is left, all were gone through
module _ (g : Over) (c : goal.After-drop-member-iterator-2 g) where
  whole : c.loop-member.yielded ≡ c.args.members.items
  whole =
      let none : into_iter_items c.loop-member.member-iterator ≡ [] = grind (arith, common_steps, c.in-None.ensures.steps) in
      sym (c.loop-member.invariant.all ∙ ap (λ l. c.loop-member.yielded ++ l) none ∙ append-nil c.loop-member.yielded)

pub returns-clause-lanes : goal.returns-clause-lanes
returns-clause-lanes g c = c.loop-member.invariant.lanes ∙ ap (map (λ (m : Member g.row.X.Denot). m.lane)) (whole g c)

pub returns-clause-thieves : goal.returns-clause-thieves
returns-clause-thieves g c = c.loop-member.invariant.thieves ∙ ap (map (λ (m : Member g.row.X.Denot). m.thieves)) (whole g c)

pub returns-clause-done : goal.returns-clause-done
returns-clause-done g c = c.loop-member.invariant.done ∙ ap (flat_map (λ (m : Member g.row.X.Denot). m.done.items)) (whole g c)

pub returns-clause-kept : goal.returns-clause-kept
returns-clause-kept g c = subst (All (λ (m : Member g.row.X.Denot). m.lost ≡ false)) (whole g c) c.loop-member.invariant.kept
