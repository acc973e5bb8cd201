use Rattle.std.proofs.Common.{rules}
use Rattle.namespaces.proofs.NumberSets.{low_has, low_kept, low_only, high_has, high_kept, high_only}
use Rattle.namespaces.proofs.number_set.Numbers.with.Goals as goal

pub returns-then-number-lt128 : goal.returns-then-number-lt128
returns-then-number-lt128 c = record {
  has = low_has c.args.self c.args.number
      (search rules);
  kept = low_kept c.args.self _;
  only = λ n. low_only c.args.self c.args.number n (search rules);
}

pub returns-else-number-lt128 : goal.returns-else-number-lt128
returns-else-number-lt128 c = record {
  has = high_has c.args.self c.args.number
      (search rules);
  kept = high_kept c.args.self _;
  only = λ n. high_only c.args.self c.args.number n (search rules);
}
