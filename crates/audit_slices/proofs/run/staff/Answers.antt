use Rattle.std.proofs.Common.{◌≡◌, ◌++◌, ◌∷◌, [], All, length, map, arith, sym, ap, subst, ◌∙◌, append_assoc, append-nil}
use Rattle.std.specs.Vec.Iter.{into_iter_items}
use Rattle.std.specs.declared.vec.Vec.{Vec}
use Rattle.std.specs.declared.alloc.Global.{Global}
use Rattle.std.proofs.lemmas.Grind.{common_steps}
use Rattle.std.proofs.lemmas.List.{map-append, length-map}
use Rattle.std.proofs.lemmas.List.Elements.{All-nil}
use Rattle.slice_yard.specs.declared.lane.Thief.{Thief}
use Rattle.audit_slices.specs.declared.members.Member.{Member}
use Rattle.slice_yard.specs.declared.lane.Lane.{Lane}
use Rattle.slice_yard.specs.Lane.{lane_hand, lane_place, thief_place, thief_hand_of}
use Rattle.audit_slices.specs.Members.{Places, member_places, IsNew}
use Rattle.slice_core.proofs.Tables.{All_mid}
use Rattle.audit_slices.proofs.RunLemmas.{staffed_more, new_more, all_taken}
use Rattle.audit_slices.proofs.run.staff.Given.{Over}
use Rattle.audit_slices.proofs.run.staff.Goals as goal

pub loop-lane-init : goal.loop-lane-init
loop-lane-init g c = record {
  lanes = ap (map (λ (m : Member g.row.X.Denot). (member_places m).0)) c.new-members.ensures.items;
  thieves = ([], sym c.into_iter-others.ensures.rest, ap (map (λ (m : Member g.row.X.Denot). (member_places m).1)) c.new-members.ensures.items);
  new = subst (All IsNew) (sym c.new-members.ensures.items) (All-nil IsNew);
  all = sym c.into_iter-lane-iterator.ensures.into_iter_gives.0;
}

pub member-next-requires-clause-lane : goal.member-next-requires-clause-lane
member-next-requires-clause-lane g c =
    All_mid (λ (l : Lane). (lane_hand l).handed ≡ []) c.args.lanes.items c.loop-lane.yielded (into_iter_items c.next.new.self) c.in-Some.lane
    (c.loop-lane.invariant.all ∙ ap (λ l. c.loop-lane.yielded ++ l) c.in-Some.ensures.steps.0) c.requires.lanes

pub member-next-requires-clause-thieves : goal.member-next-requires-clause-thieves
member-next-requires-clause-thieves g c =
    let taken = c.loop-lane.invariant.thieves in
    let next : into_iter_items c.loop-lane.others ≡ c.in-Some-next.ends ∷ into_iter_items c.next-in-loop-lane.new.self = c.in-Some-next.ensures.items in
    All_mid (λ (v : Vec Thief Global). All (λ t. (thief_hand_of t).handed ≡ []) v.items) c.args.thieves.items taken.0 (into_iter_items c.next-in-loop-lane.new.self) c.in-Some-next.ends (taken.1 ∙ ap (λ l. taken.0 ++ l) next) c.requires.thieves

pub loop-lane-preserved : goal.loop-lane-preserved
loop-lane-preserved g c =
    let taken = c.loop-lane.invariant.thieves in
    let next : into_iter_items c.loop-lane.others ≡ c.in-Some-next.ends ∷ into_iter_items c.next-in-loop-lane.new.self = c.in-Some-next.ensures.items in
    record {
      lanes = staffed_more c.loop-lane.members.items c.push.new.self.items c.member-next.result c.in_ok-push.ensures.items (λ m. (member_places m).0) (map lane_place c.loop-lane.yielded) (lane_place c.in-Some.lane) c.loop-lane.invariant.lanes (ap (λ (p : Places). p.0) c.member-next.ensures.places)
          ∙ sym (map-append lane_place c.loop-lane.yielded (c.in-Some.lane ∷ []));
      thieves = (
        taken.0 ++ c.in-Some-next.ends ∷ [],
        taken.1 ∙ ap (λ l. taken.0 ++ l) next ∙ sym (append_assoc taken.0 (c.in-Some-next.ends ∷ []) (into_iter_items c.next-in-loop-lane.new.self)),
        staffed_more c.loop-lane.members.items c.push.new.self.items c.member-next.result c.in_ok-push.ensures.items (λ m. (member_places m).1) (map (λ (v : Vec Thief Global). map thief_place v.items) taken.0) (map thief_place c.in-Some-next.ends.items) taken.2 (ap (λ (p : Places). p.1) c.member-next.ensures.places)
            ∙ sym (map-append (λ (v : Vec Thief Global). map thief_place v.items) taken.0 (c.in-Some-next.ends ∷ [])),
      );
      new = new_more c.loop-lane.members.items c.push.new.self.items c.member-next.result c.in_ok-push.ensures.items c.loop-lane.invariant.new c.member-next.ensures.new;
      all = c.loop-lane.invariant.all ∙ ap (λ l. c.loop-lane.yielded ++ l) c.in-Some.ensures.steps.0 ∙ sym (append_assoc c.loop-lane.yielded (c.in-Some.lane ∷ []) (into_iter_items c.next.new.self));
    }

-- where nothing is left, all were gone through
module _ (g : Over) (c : goal.After-drop-others-2 g) where
  whole : c.loop-lane.yielded ≡ c.args.lanes.items
  whole =
      let none : into_iter_items c.loop-lane.lane-iterator ≡ [] = grind (arith, common_steps, c.in-None.ensures.steps) in
      sym (append-nil c.loop-lane.yielded) ∙ ap (λ l. c.loop-lane.yielded ++ l) (sym none) ∙ sym c.loop-lane.invariant.all

pub returns-clause-lanes : goal.returns-clause-lanes
returns-clause-lanes g c = c.loop-lane.invariant.lanes ∙ ap (map lane_place) (whole g c)

pub returns-clause-new : goal.returns-clause-new
returns-clause-new g c = c.loop-lane.invariant.new

pub returns-clause-thieves : goal.returns-clause-thieves
returns-clause-thieves g c =
    let taken = c.loop-lane.invariant.thieves in
    all_taken c.loop-lane.members.items c.args.thieves.items taken.0 (into_iter_items c.loop-lane.others) taken.1 taken.2
    (sym (length-map c.loop-lane.members.items (λ (m : Member g.row.X.Denot). (member_places m).0)) ∙ ap length c.loop-lane.invariant.lanes ∙ length-map c.loop-lane.yielded lane_place ∙ ap length (whole g c) ∙ sym c.requires.count)
