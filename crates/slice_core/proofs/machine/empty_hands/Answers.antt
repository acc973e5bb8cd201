use Rattle.std.proofs.Common.{◌≡◌, ℕ, arith, ◌∙◌, ap, sym, refl, ◌++◌, ◌∷◌, [], ◌+◌}
use Rattle.std.specs.Prelude.{Option, None}
use Rattle.std.proofs.lemmas.List.FromFn.{map-range_with_len_more}
use Rattle.slice_core.specs.Named.{named_from}
use Rattle.slice_core.proofs.machine.empty_hands.Goals as goal

pub loop-preserved : goal.loop-preserved
loop-preserved c = c.in_ok-push.ensures.items ∙ ap (λ l. l ++ None ∷ []) c.loop.invariant ∙ sym (map-range_with_len_more (λ _. None) 0 c.loop.counter (0 + c.loop.counter) refl)

pub loop-init : goal.loop-init
loop-init c = c.in_ok-hands.ensures.items

pub returns : goal.returns
returns c =
    let all : c.loop.counter ≡ c.args.workers = omega arith in
    c.loop.invariant ∙ ap (named_from {X = Option ℕ} (λ _. None) 0) all
