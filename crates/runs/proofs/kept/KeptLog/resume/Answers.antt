use Rattle.std.proofs.Common.{[], ◌∙◌, ℕ, List, ap}
use Rattle.carry.specs.Values.{carry_value, item_values}
use Rattle.carry.specs.declared.value.Item.{Item}
use Rattle.runs.specs.DeclaredTexts.{declared_by, declared_in}
use Rattle.runs.proofs.DeclaredLemmas.{begun_texts}
use Rattle.runs.proofs.kept.KeptLog.resume.Goals as goal

pub invariant_of-result : goal.invariant_of-result
invariant_of-result c =
    ap (λ (ts : List (List ℕ)). declared_by [] ts)
    (c.in_ok-declared.ensures ∙ ap (λ (is : List Item). declared_in (item_values is)) c.deref.ensures.value)
    ∙ begun_texts (carry_value c.args.carry.now) c.in_ok-log.log c.in_ok-log.ensures.begun
