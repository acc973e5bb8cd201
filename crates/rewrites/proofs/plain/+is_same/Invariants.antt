use Rattle.std.proofs.Common.{◌≡◌, length, map, take}
use Rattle.rewrites.specs.View.{expression_of}
use Rattle.rewrites.proofs.plain.+is_same.Given as goal

-- so far one is as the other
abbrev pub invariant-are_same-loop-k : goal.invariant-are_same-loop-k
invariant-are_same-loop-k l =
    (length l.some.items ≡ length l.others.items) × (map expression_of (take l.k l.some.items) ≡ map expression_of (take l.k l.others.items))
