use Rattle.std.proofs.Common.{◌≡◌, ◌+◌, ◌<◌, ℕ, List, All, length, get_or, map, subst}
use Rattle.slice_yard.specs.declared.rule.Hand.{Hand}
use Rattle.slice_yard.specs.declared.lane.Lane.{Lane}
use Rattle.slice_yard.specs.Hands.{owner_hand}
use Rattle.slice_yard.specs.Lane.{lane_hand}
use Rattle.slice_yard.specs.Receipts.{receipt_hands}
use Rattle.slice_yard.specs.ClosedRuns.{WereOpened, ListsAreRun}
use Rattle.slice_yard.specs.Shared.{IsSpent, HasEachOnce}
use Rattle.slice_core.proofs.Tables.{All_map, on_none}
use Rattle.slice_yard.proofs.ReceiptLemmas.{each_once, lists_run}
use Rattle.slice_yard.proofs.receipts.Receipts.next.Goals as goal

pub returns-clause-once : goal.returns-clause-once
returns-clause-once c =
    let self = c.args.self.now in
    let joined : All (λ v. v.seats ≡ length v.closed + 1) (receipt_hands self) = All_map (λ (v : Hand). v.seats ≡ length v.closed + 1) lane_hand self.lanes.items (λ k d lt. (get_or self.lanes.items k d).all_joined (self.ended k d lt)) in
    on_none (All IsSpent (map lane_hand c.as_mut_slice.result.now)) (All HasEachOnce (receipt_hands self)) c.next_of.result
    (λ spent. each_once (receipt_hands self) (subst (λ (ls : List Lane). All IsSpent (map lane_hand ls)) c.as_mut_slice.ensures.value spent) joined) c.next_of.ensures.all

pub returns-clause-runs : goal.returns-clause-runs
returns-clause-runs c =
    let self = c.args.self.now in
    on_none (All IsSpent (map lane_hand c.as_mut_slice.result.now))
    ((slices lanes workers : ℕ) → WereOpened slices lanes workers (receipt_hands self) → (l : ℕ) → l < lanes → ListsAreRun slices lanes workers l (get_or (receipt_hands self) l owner_hand)) c.next_of.result
    (λ spent. lists_run (receipt_hands self) (subst (λ (ls : List Lane). All IsSpent (map lane_hand ls)) c.as_mut_slice.ensures.value spent)) c.next_of.ensures.all
