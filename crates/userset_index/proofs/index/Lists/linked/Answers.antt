use Rattle.userset_index.specs.declared.life.Way.TheVariants.{Own, Object}
use Rattle.userset_index.proofs.BuildLemmas.{holds_permuted}
use Rattle.userset_index.proofs.ExactLemmas.{exact_permuted}
use Rattle.userset_index.proofs.ObjectLemmas.{through_permuted}
use Rattle.userset_index.proofs.index.Lists.linked.Goals as goal

pub returns : goal.returns
returns c ds touches counts lives = record {
  own_held = holds_permuted ds Own touches counts _ _ c.in_ok-own.ensures lives.own_held;
  own_exact = exact_permuted touches _ _ c.in_ok-own.ensures lives.own_exact;
  through_held = through_permuted ds touches counts _ _ c.in_ok-through.ensures lives.through_held;
  through_exact = exact_permuted touches _ _ c.in_ok-through.ensures lives.through_exact;
  objects_held = holds_permuted ds Object touches counts _ _ c.in_ok-objects.ensures lives.objects_held;
}
