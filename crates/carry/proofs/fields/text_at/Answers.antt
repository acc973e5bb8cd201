use Rattle.std.specs.Prelude.{IsUtf8}
use Rattle.std.proofs.Common.{subst, rules}
use Rattle.std.proofs.lemmas.Str.{IsCharBoundary-after_ascii}
use Rattle.carry.proofs.fields.text_at.Goals as goal

pub range_from-requires : goal.range_from-requires
range_from-requires c = λ h. IsCharBoundary-after_ascii c.in_ok-len.rest.now c.in_ok-len.len (subst IsUtf8 c.as_bytes.ensures.value c.as_bytes.ensures.utf8) c.if-len-rest.true (search rules)
