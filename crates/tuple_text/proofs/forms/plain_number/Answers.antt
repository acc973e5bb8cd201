use Rattle.std.proofs.Common.{◌∙◌, ap, rules}
use Rattle.tuple_text.specs.Forms.{plain_number}
use Rattle.tuple_text.proofs.Numbers.{empty_number, few_begun, number_begun, number_not_begun}
use Rattle.tuple_text.proofs.forms.plain_number.Goals as goal
use Rattle.tuple_text.proofs.forms.plain_number.Goals.{then-is_empty-via-then-is_empty, then-is_empty-via-else-is_empty+then-not-begins_plainly}

pub returns-then-is_empty : goal.returns-then-is_empty
returns-then-is_empty c = elim c.then-is_empty.branch [
  | then-is_empty-via-then-is_empty w ↦ empty_number c.args.text.now (search rules)
  | then-is_empty-via-else-is_empty+then-not-begins_plainly w ↦ number_not_begun c.args.text.now (search rules)
]

pub returns-then-bytes-le-FEW_DIGITS : goal.returns-then-bytes-le-FEW_DIGITS
returns-then-bytes-le-FEW_DIGITS c =
    c.short_number.ensures
    ∙ few_begun c.as_bytes-bytes.result.now (search rules) (search rules) (search rules)
    ∙ ap plain_number c.as_bytes-bytes.ensures.value

pub returns : goal.returns
returns c = c.ok.ensures.value ∙ number_begun c.args.text.now c.parse_u64.result (search rules) (search rules)
