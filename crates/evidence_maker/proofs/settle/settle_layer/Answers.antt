use Rattle.std.proofs.Common.{rules, ◌≡◌, ◌∙◌, ◌≤◌, ◌+◌, length, arith}
use Rattle.namespaces.specs.Lookup.{rule_at}
use Rattle.version_chains.specs.Commits.{store_at}
use Rattle.evidence_maker.specs.Making.{IsSifted}
use Rattle.evidence_maker.proofs.MakingLemmas.{left_next, are_left, none_are_left, is_none_left}
use Rattle.evidence_maker.proofs.settle.settle_layer.Goals as goal

pub returns-then-len-clause-kept : goal.returns-then-len-clause-kept
returns-then-len-clause-kept c = λ C k inside before.
    (rw c.loop-round.invariant.asked at c.in_ok-rest.ensures.kept) C k
    (λ f d. inside f (c.loop-round.invariant.left.inside f (rw c.deref.ensures.value at d))) (c.loop-round.invariant.kept C k inside before)

pub returns-then-len-clause-left : goal.returns-then-len-clause-left
returns-then-len-clause-left c =
    let same : length c.in_ok-rest.rest.items ≡ length c.loop-round.left.items = search rules in
    are_left (rule_at c.args.asked.now.declarations c.args.at) (store_at c.args.asked.now.commits c.args.at) c.loop-round.known c.sift.new.known c.args.layer.items
    c.loop-round.left.items c.in_ok-rest.rest.items c.loop-round.invariant.left (rw (c.deref.ensures.value, c.loop-round.invariant.asked) at c.in_ok-rest.ensures.sifted) same

pub returns-then-len-clause-asked : goal.returns-then-len-clause-asked
returns-then-len-clause-asked c = c.in_ok-rest.ensures.asked ∙ c.loop-round.invariant.asked

pub returns-in_err-rest-clause-asked : goal.returns-in_err-rest-clause-asked
returns-in_err-rest-clause-asked c = c.in_err-rest.ensures.asked ∙ c.loop-round.invariant.asked

pub loop-round-preserved : goal.loop-round-preserved
loop-round-preserved c =
    let sifted : IsSifted (rule_at c.args.asked.now.declarations c.args.at) (store_at c.args.asked.now.commits c.args.at) c.loop-round.known c.sift.new.known
    c.loop-round.left.items c.in_ok-rest.rest.items = rw (c.deref.ensures.value, c.loop-round.invariant.asked) at c.in_ok-rest.ensures.sifted in
    record {
      asked = c.in_ok-rest.ensures.asked ∙ c.loop-round.invariant.asked;
      kept = λ C k inside before.
          (rw c.loop-round.invariant.asked at c.in_ok-rest.ensures.kept) C k (λ f d. inside f (c.loop-round.invariant.left.inside f (rw c.deref.ensures.value at d))) (c.loop-round.invariant.kept C k inside before);
      left = left_next (rule_at c.args.asked.now.declarations c.args.at) (store_at c.args.asked.now.commits c.args.at) c.loop-round.known c.sift.new.known c.args.layer.items
          c.loop-round.left.items c.in_ok-rest.rest.items c.loop-round.invariant.left sifted;
      count = (let le : length c.in_ok-rest.rest.items ≤ length c.loop-round.left.items = sifted.shorter in
          let all : length c.loop-round.left.items + c.loop-round.round ≤ c.len-rounds.result = c.loop-round.invariant.count in
          let other : ¬ (length c.in_ok-rest.rest.items ≡ length c.loop-round.left.items) = search rules in omega arith);
    }

pub returns-clause-left : goal.returns-clause-left
returns-clause-left c =
    none_are_left (rule_at c.args.asked.now.declarations c.args.at) (store_at c.args.asked.now.commits c.args.at) c.loop-round.known c.args.layer.items c.loop-round.left.items
    c.loop-round.invariant.left
    (is_none_left c.loop-round.left.items (let all : length c.loop-round.left.items + c.loop-round.round ≤ c.len-rounds.result = c.loop-round.invariant.count in
    let ended = c.loop-round-test.false in omega arith))
