use Rattle.std.proofs.Common.{◌≡◌, List, All, length, sym, subst, ap, rules}
use Rattle.std.specs.declared.vec.Vec.{Vec}
use Rattle.std.specs.declared.alloc.Global.{Global}
use Rattle.std.proofs.lemmas.List.Sorted.{All-permutation}
use Rattle.audit_slices.specs.declared.checks.SliceReport.{SliceReport}
use Rattle.audit_slices.specs.Reports.{IsReported}
use Rattle.slice_yard.specs.Receipts.{receipt_hands}
use Rattle.audit_slices.proofs.PoolLemmas.{may_start, covered_left, whole_same, given_all, all_slices, in_order, all_reports}
use Rattle.audit_slices.proofs.MemberLemmas.{worked_back}
use Rattle.audit_slices.specs.declared.members.Member.{Member}
use Rattle.audit_slices.specs.Members.{MayWork, HaveWorked}
use Rattle.audit_slices.specs.Run.{IsWhole}
use Rattle.audit_slices.proofs.run.run_pool.Given.{Over}
use Rattle.audit_slices.proofs.run.run_pool.Goals.{After-as_mut_slice-all, Joined-board, in-Some, in-None}
use Rattle.audit_slices.proofs.run.run_pool.Goals as goal

-- the workers before they begin
may : (g : Over) (c : After-as_mut_slice-all g) → All (MayWork (g.C.Check.entries c.args.check.now) (g.C.Check.gives c.args.check.now)) c.as_mut_slice-all.result.now
may g c =
    let before = c.in_ok-members.members.items in
    subst (All (MayWork (g.C.Check.entries c.args.check.now) (g.C.Check.gives c.args.check.now))) (sym c.as_mut_slice-all.ensures.value)
    (may_start (g.C.Check.entries c.args.check.now) (g.C.Check.gives c.args.check.now) c.args.slices.items before c.in_ok-members.ensures.whole c.in_ok-members.ensures.new c.requires.covered)

pub run_watched-requires-clause-may : goal.run_watched-requires-clause-may
run_watched-requires-clause-may g c κs within = may g (goal.at.run_watched-requires-clause-may g c).After-as_mut_slice-all

pub run_watched-requires-in-None-clause-may : goal.run_watched-requires-in-None-clause-may
run_watched-requires-in-None-clause-may g c κs within = may g (goal.at.run_watched-requires-in-None-clause-may g c).After-as_mut_slice-all

-- the workers after it
module _ (g : Over) (c : Joined-board g) where
  worked : HaveWorked (g.C.Check.gives c.args.check.now) c.in_ok-members.members.items c.match-board.members.items
  worked =
      let P = g.C.Check.gives c.args.check.now in
      let before = c.in_ok-members.members in
      let slice = c.as_mut_slice-all.result.now in
      let count : length before.items ≡ before.len = search rules in
      elim c.match-board.branch [
        | in-Some w ↦ worked_back P before.len before.items slice w.run_watched.new.members _ count c.as_mut_slice-all.ensures.value (ap (λ (v : Vec (Member g.row.X.Denot) Global). v.items) w.members-is) w.run_watched.ensures.worked
        | in-None w ↦ worked_back P before.len before.items slice w.run_watched-in-None.new.members _ count c.as_mut_slice-all.ensures.value (ap (λ (v : Vec (Member g.row.X.Denot) Global). v.items) w.members-is) w.run_watched-in-None.ensures.worked
      ]

  whole : IsWhole c.args.slices.items c.match-board.members.items
  whole = whole_same c.args.slices.items c.in_ok-members.members.items c.match-board.members.items worked.places c.in_ok-members.ensures.whole

pub finish-requires : goal.finish-requires
finish-requires g c = (c.args.slices.items, whole g (goal.at.finish-requires g c).Joined-board)

pub drain-requires-clause-covered : goal.drain-requires-clause-covered
drain-requires-clause-covered g c =
    let whole = whole g (goal.at.drain-requires-clause-covered g c).Joined-board in
    covered_left (g.C.Check.entries c.args.check.now) c.args.slices.items c.match-board.members.items (receipt_hands c.in_ok-receipts.receipts) c.in_ok-receipts.done.items (c.in_ok-receipts.ensures c.args.slices.items whole) c.requires.covered

pub drain-requires-clause-given : goal.drain-requires-clause-given
drain-requires-clause-given g c =
    let at = (goal.at.drain-requires-clause-given g c).Joined-board in
    let whole = whole g at in
    subst (λ (l : List (SliceReport g.row.X.Denot)). All (IsReported (g.C.Check.gives c.args.check.now)) l) (sym (c.in_ok-receipts.ensures c.args.slices.items whole).done)
    (given_all (g.C.Check.gives c.args.check.now) c.match-board.members.items (worked g at).after)

pub returns-clause-slices : goal.returns-clause-slices
returns-clause-slices g c =
    let at = (goal.at.returns-clause-slices g c).Joined-board in
    let whole = whole g at in
    in_order c.args.slices.items c.in_ok-_spent.done.items _ c.requires.numbered
    (all_slices (g.C.Check.gives c.args.check.now) c.args.slices.items c.match-board.members.items (receipt_hands c.in_ok-receipts.receipts) (receipt_hands c.in_ok-_spent._spent) c.in_ok-receipts.done.items c.in_ok-_spent.done.items
    (c.in_ok-receipts.ensures c.args.slices.items whole) (worked g at).after c.in_ok-_spent.ensures.same c.in_ok-_spent.ensures.all c.in_ok-_spent.ensures.sums)
    c.in_order.ensures.moved c.in_order.ensures.rising

pub returns-clause-given : goal.returns-clause-given
returns-clause-given g c = All-permutation (IsReported (g.C.Check.gives c.args.check.now)) c.in_ok-_spent.done.items _ c.in_order.ensures.moved c.in_ok-_spent.ensures.given

pub returns-clause-all : goal.returns-clause-all
returns-clause-all g c = all_reports (g.C.Check.gives c.args.check.now) c.args.slices.items c.in_order.result.items (returns-clause-slices g c) (returns-clause-given g c)
