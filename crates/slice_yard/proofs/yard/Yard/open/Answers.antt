use Rattle.std.proofs.Common.{◌≡◌, ◌++◌, length, map, take, drop, ap, ◌∙◌, sym, arith, rules}
use Rattle.std.proofs.lemmas.List.{length-map}
use Rattle.slice_yard.specs.Lane.{lane_deque, lane_state}
use Rattle.slice_core.specs.Named.{named_from}
use Rattle.slice_yard.specs.Yard.{filled, dealt, thief_lanes, thieves_at_first, lanes_at_first, post_lanes}
use Rattle.slice_core.proofs.Tables.{written_back, table_length}
use Rattle.slice_yard.proofs.YardLemmas.{dealt_states}
use Rattle.slice_yard.proofs.yard.Yard.open.Goals.{After-deal}
use Rattle.slice_yard.proofs.yard.Yard.open.Goals as goal

-- the lanes that were dealt to, and the posts, are as many as was asked for
module _ (c : After-deal) where
  owners : length c.in-Ok.owners.items ≡ c.args.lanes
  owners = search rules

  dealt_to : length c.deal.new.lanes ≡ c.args.lanes
  dealt_to = c.deal.auto.lanes ∙ ap length c.as_mut_slice.ensures.value ∙ owners

  wrote : take c.in-Ok.owners.len (c.deal.new.lanes ++ drop (length c.deal.new.lanes) c.in-Ok.owners.items) ≡ c.deal.new.lanes
  wrote =
      let len : length c.in-Ok.owners.items ≡ c.in-Ok.owners.len = search rules in
      written_back c.in-Ok.owners.len c.in-Ok.owners.items c.deal.new.lanes (c.deal.auto.lanes ∙ ap length c.as_mut_slice.ensures.value ∙ len) len

  posts : length c.in-Ok.posts.items ≡ c.args.workers
  posts = sym (length-map c.in-Ok.posts.items post_lanes) ∙ ap length c.in-Ok.ensures.posts.0 ∙ table_length (thief_lanes c.args.lanes) c.args.workers

pub seat_all-requires-clause-lanes : goal.seat_all-requires-clause-lanes
seat_all-requires-clause-lanes c =
    let at = (goal.at.seat_all-requires-clause-lanes c).After-deal in
    rw (wrote at, dealt_to at, posts at) c.in_default.ensures.none.1

pub seat_all-requires-clause-posts : goal.seat_all-requires-clause-posts
seat_all-requires-clause-posts c =
    let at = (goal.at.seat_all-requires-clause-posts c).After-deal in
    rw (wrote at, dealt_to at, posts at) c.in-Ok.ensures.posts.0

pub seat_all-requires-clause-room : goal.seat_all-requires-clause-room
seat_all-requires-clause-room c =
    let posts = posts (goal.at.seat_all-requires-clause-room c).After-deal in
    let len : length c.in-Ok.posts.items ≡ c.in-Ok.posts.len = search rules in
    let room = c.in-Ok.ensures.thieves.1 in
    (c.in-Ok.ensures.thieves.0, omega arith)

pub returns-in-Ok-clause-opened : goal.returns-in-Ok-clause-opened
returns-in-Ok-clause-opened c =
    let at = (goal.at.returns-in-Ok-clause-opened c).After-deal in
    let n = c.args.lanes in
    let xs = c.args.slices.items in
    let value = c.as_mut_slice.ensures.value in
    let now : length c.as_mut_slice.result.now ≡ n = ap length value ∙ owners at in
    let first = dealt_states c.in-Ok.owners.items c.deal.new.lanes xs n (owners at) c.in_default.ensures.none.0 (λ k d lt. (c.in-Ok.ensures.lanes.1 k d lt).open_still) (c.deal.ensures.same ∙ ap (map lane_deque) value)
    (c.deal.ensures.hands ∙ ap (λ m. named_from (λ l. filled (dealt xs m l) 1) 0 m) now) in
    let taken = ap length (wrote at) ∙ dealt_to at in
    let seated = c.seat_all.ensures xs first.0 (ap (map lane_state) (wrote at) ∙ first.1 ∙ ap (λ m. lanes_at_first first.0 xs m 1) (sym taken)) in
    record {
      deques = first.0;
      owners = seated.0 ∙ ap (λ m. lanes_at_first first.0 xs m (length c.in-Ok.posts.items)) taken ∙ ap (lanes_at_first first.0 xs n) (posts at);
      others = seated.1 ∙ ap (λ m. thieves_at_first first.0 xs m (length c.in-Ok.posts.items)) taken ∙ ap (thieves_at_first first.0 xs n) (posts at);
    }
