use Rattle.std.proofs.Common.{ℕ, List, map}
use Rattle.std.specs.Prelude.{vec_capacity}
use Rattle.std.specs.declared.collections.VecDeque.{VecDeque}
use Rattle.std.specs.declared.alloc.Global.{Global}
use Rattle.slice_core.proofs.MachineLemmas.{start_fits}
use Rattle.slice_core.proofs.machine.Core.opening.Goals as goal

pub invariant_of-result : goal.invariant_of-result
invariant_of-result c =
    let items : VecDeque ℕ Global → List ℕ = λ d. d.items in record {
      done_fits = start_fits c.args.slices c.args.lanes c.args.workers (vec_capacity c.in_ok-done.done) (map items c.in_ok-lanes.lanes.items) c.in_ok-hands.hands.items c.in_ok-done.done.items c.in_ok-lost.lost.items
          c.requires c.in_ok-lanes.ensures c.in_ok-hands.ensures c.in_ok-done.ensures.items c.in_ok-lost.ensures.items c.in_ok-done.ensures.capacity;
      lost_fits = start_fits c.args.slices c.args.lanes c.args.workers (vec_capacity c.in_ok-lost.lost) (map items c.in_ok-lanes.lanes.items) c.in_ok-hands.hands.items c.in_ok-done.done.items c.in_ok-lost.lost.items
          c.requires c.in_ok-lanes.ensures c.in_ok-hands.ensures c.in_ok-done.ensures.items c.in_ok-lost.ensures.items c.in_ok-lost.ensures.capacity;
    }
