use Rattle.std.specs.Prelude.{All}
use Rattle.tuple_text.specs.Refs.{set_value}
use Rattle.judgement.specs.Passes.{IsTouchApart}
use Rattle.judgement.proofs.leading.is_one_of_object.Given as goal

-- what is left decides
abbrev pub invariant-loop-touch : goal.invariant-loop-touch
invariant-loop-touch l =
    All (IsTouchApart l.snapshot (set_value l.set.set) (set_value l.other)) l.touch-iterator
    → All (IsTouchApart l.snapshot (set_value l.set.set) (set_value l.other)) l.fn.touches
