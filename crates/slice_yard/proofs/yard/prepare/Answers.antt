use Rattle.std.proofs.Common.{◌≡◌, ◌+◌, List, All, length, arith, rules, map, ap, ◌∙◌, subst, sym}
use Rattle.std.proofs.lemmas.List.Elements.{All-push}
use Rattle.slice_yard.specs.declared.lane.Lane.{Lane}
use Rattle.slice_yard.specs.declared.yard.Post.{Post}
use Rattle.slice_yard.specs.Lane.{lane_deque}
use Rattle.slice_yard.specs.Yard.{thief_lanes, post_lanes, IsPostOf}
use Rattle.slice_core.proofs.Tables.{table_push}
use Rattle.slice_yard.proofs.yard.prepare.Goals as goal

pub loop-worker-preserved : goal.loop-worker-preserved
loop-worker-preserved c =
    let lanes : List Lane = c.in_ok-owners.owners.items in
    let same : c.as_slice.result.now ≡ lanes = search rules in
    let count : length c.as_slice.result.now ≡ c.args.lanes = ap length same ∙ search rules in
    let w : c.loop-worker.worker ≡ 0 + c.loop-worker.worker = omega arith in
    record {
      lanes = table_push post_lanes (thief_lanes c.args.lanes) 0 c.loop-worker.worker c.loop-worker.posts.items c.push.new.self.items c.in_ok-new_post.field-0 c.in_ok-push.ensures.items c.loop-worker.invariant.lanes
          (c.in_ok-new_post.ensures.lanes ∙ ap (λ n. thief_lanes n c.loop-worker.worker) count ∙ ap (thief_lanes c.args.lanes) w);
      fits = subst (λ (ps : List Post). All (IsPostOf (map lane_deque lanes)) ps) (sym c.in_ok-push.ensures.items)
          (All-push (IsPostOf (map lane_deque lanes)) c.loop-worker.posts.items _ c.loop-worker.invariant.fits
          (subst (λ (ls : List Lane). IsPostOf (map lane_deque ls) c.in_ok-new_post.field-0) same c.in_ok-new_post.ensures.fits));
    }
