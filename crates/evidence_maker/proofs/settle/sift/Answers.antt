use Rattle.std.proofs.Common.{rules, ◌≡◌, ◌∙◌, sym}
use Rattle.namespaces.specs.Lookup.{rule_at}
use Rattle.version_chains.specs.Commits.{store_at}
use Rattle.evidence_maker.proofs.MakingLemmas.{take_next, sifted_pass, sifted_push}
use Rattle.evidence_maker.proofs.settle.sift.Goals.{then-branch+in_ok-clone+in_ok-push, else-branch}
use Rattle.evidence_maker.proofs.settle.sift.Goals as goal

pub loop-fact-preserved : goal.loop-fact-preserved
loop-fact-preserved c = record {
  asked = c.in_ok-look_at.ensures.asked ∙ c.loop-fact.invariant.asked;
  kept = λ C k inside before. (rw c.loop-fact.invariant.asked at c.in_ok-look_at.ensures.kept) C k (inside c.fact-item.result (c.loop-fact.fact-index, c.loop-fact-test.true, sym c.fact-item.is)) (c.loop-fact.invariant.kept C k inside before);
  sifted =
      let next = take_next c.args.facts.now c.loop-fact.fact-index c.fact-item.result c.loop-fact-test.true c.fact-item.is in
      elim c.if-branch.branch [
        | then-branch+in_ok-clone+in_ok-push w ↦
            let same : w.in_ok-clone.field-0 ≡ c.fact-item.result = search rules in
            let left = (rw c.loop-fact.invariant.asked at c.in_ok-look_at.ensures.left) w.if-branch.true in
            rw (w.left-is, w.in_ok-push.ensures.items, same, left.0, next)
            (sifted_push (rule_at c.args.asked.now.declarations c.args.at) (store_at c.args.asked.now.commits c.args.at) c.args.known.now c.loop-fact.known _ c.loop-fact.left.items c.fact-item.result
            c.loop-fact.invariant.sifted left.1 left.2)
        | else-branch w ↦
            rw (w.left-is, next)
            (sifted_pass (rule_at c.args.asked.now.declarations c.args.at) (store_at c.args.asked.now.commits c.args.at) c.args.known.now c.loop-fact.known _ c.loop-fact.left.items c.fact-item.result
            c.loop-fact.invariant.sifted c.look_at.new.known c.in_ok-look_at.ensures.grows (c.in_ok-look_at.ensures.settled w.if-branch.false))
      ];
}
