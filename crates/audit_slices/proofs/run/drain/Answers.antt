use Rattle.std.proofs.Common.{◌≤◌, ◌+◌, All, sym, subst}
use Rattle.std.proofs.lemmas.List.Elements.{All-push}
use Rattle.audit_slices.specs.Reports.{IsReported}
use Rattle.slice_yard.specs.declared.slices.Slice.{Slice}
use Rattle.slice_yard.specs.Receipts.{receipt_hands}
use Rattle.audit_slices.proofs.RunLemmas.{drained_sum, drained_same, drained_below}
use Rattle.audit_slices.proofs.run.drain.Goals as goal

pub check_slice-requires : goal.check_slice-requires
check_slice-requires g c =
    drained_below (λ (x : Slice). x.from + x.count ≤ g.C.Check.entries c.args.check.now) (receipt_hands c.args.receipts) (receipt_hands c.loop.receipts) _ c.in-Some-next.slice c.in-Some-next.ensures.some c.loop.invariant.same c.requires.covered

pub loop-preserved : goal.loop-preserved
loop-preserved g c = record {
  same = drained_same (receipt_hands c.args.receipts) (receipt_hands c.loop.receipts) _ c.in-Some-next.slice c.in-Some-next.ensures.some c.loop.invariant.same;
  given = subst (All (IsReported (g.C.Check.gives c.args.check.now))) (sym c.in_ok-push.ensures.items)
      (All-push (IsReported (g.C.Check.gives c.args.check.now)) c.loop.done.items c.in-Ok.report c.loop.invariant.given c.in-Ok.ensures.reports);
  sums = drained_sum c.loop.done.items c.push.new.self.items c.in-Ok.report (receipt_hands c.args.receipts) (receipt_hands c.loop.receipts) (receipt_hands c.next-in-loop.new.self) c.args.done.items c.in-Some-next.slice c.in-Some-next.ensures.some
      c.in_ok-push.ensures.items c.in-Ok.ensures.slice c.loop.invariant.sums;
}
