use Rattle.std.proofs.Common.{◌≡◌, ◌&&◌, ◌++◌, ◌+◌, ◌∙◌, ℕ, suc, true, [], map, ap, sym, subst, rules, arith}
use Rattle.tuple_text.specs.Refs.{set_value}
use Rattle.marks.specs.Marks.{set_mark}
use Rattle.marks.proofs.PlacedLemmas.{and-left, and-right}
use Rattle.userset_index.specs.Index.{is_crowded}
use Rattle.namespaces.specs.Numbers.{Has}
use Rattle.snapshots.specs.Leading.{AreGathered, sets_of}
use Rattle.snapshots.proofs.LeadingLemmas.{none_gathered, passed, more_gathered, all_gathered}
use Rattle.snapshots.proofs.snapshot.Snapshot.leading_through.Goals.{then-has+in_ok-push_of, else-has}
use Rattle.snapshots.proofs.snapshot.Snapshot.leading_through.Goals as goal

pub loop-before-init : goal.loop-before-init
loop-before-init c =
    let s = c.args.self.now in
    let set = set_value c.args.set.set in
    let none : map set_value c.new-sets.result.items ≡ [] = search rules in
    subst (AreGathered s set (Has c.args.wanted) 0) (sym none) (none_gathered s set (Has c.args.wanted))

pub loop-before-preserved : goal.loop-before-preserved
loop-before-preserved c =
    let s = c.args.self.now in
    let set = set_value c.args.set.set in
    let v = c.usersets-index.result.now in
    let n = c.loop-before.before in
    let gs = map set_value c.loop-before.sets.items in
    let crowded : (v.is_whole && is_crowded v.crowds (set_mark set)) ≡ true = search rules in
    let whole = c.usersets-index.ensures (and-left v.is_whole (is_crowded v.crowds (set_mark set)) crowded) in
    let crowd = and-right v.is_whole (is_crowded v.crowds (set_mark set)) crowded in
    let next : suc n ≡ n + 1 = omega arith in
    subst (λ (k : ℕ). AreGathered s set (Has c.args.wanted) k (map set_value c.if-has.sets.items)) next
    (elim c.if-has.branch [
      | then-has+in_ok-push_of w ↦
          let all : map set_value c.if-has.sets.items ≡ gs ++ sets_of s v set (n + 1) = search rules in
          subst (AreGathered s set (Has c.args.wanted) (suc n)) (sym (all ∙ ap (λ (k : ℕ). gs ++ sets_of s v set k) (sym next)))
          (more_gathered s c.fits.ensures v whole set crowd (Has c.args.wanted) c.is_well_formed.ensures.distinct n gs c.loop-before.invariant)
      | else-has w ↦
          let same : map set_value c.if-has.sets.items ≡ gs = search rules in
          let unwanted : ¬ Has c.args.wanted (n + 1) = search rules in
          subst (AreGathered s set (Has c.args.wanted) (suc n)) (sym same)
          (passed s set (Has c.args.wanted) n gs (λ has. unwanted (subst (Has c.args.wanted) next has)) c.loop-before.invariant)
    ])

pub returns : goal.returns
returns c =
    let s = c.args.self.now in
    let set = set_value c.args.set.set in
    let all : c.loop-before.before ≡ 256 = search rules in
    all_gathered s set (Has c.args.wanted) c.is_well_formed.ensures (map set_value c.loop-before.sets.items)
    (subst (λ (n : ℕ). AreGathered s set (Has c.args.wanted) n (map set_value c.loop-before.sets.items)) all c.loop-before.invariant)
