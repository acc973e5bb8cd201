use Rattle.std.proofs.Common.{true≢false, refl, sym, arith}
use Rattle.std.proofs.lemmas.Bool.Decides.{nat_tests}
use Rattle.tuple_text.proofs.Fronts.{no_name, name_is}
use Rattle.tuple_text.proofs.forms.name_before.Goals as goal
use Rattle.tuple_text.proofs.forms.name_before.Goals.{then-len-eq0-via-then-len-eq0, then-len-eq0-via-else-len-eq0+then-len-gt64, then-len-eq0-via-else-len-eq0+else-len-gt64+then-not-is_ascii_lowercase}

pub returns-then-not-ends_at : goal.returns-then-not-ends_at
returns-then-not-ends_at c = no_name c.args.delimiter c.args.fault c.args.text.now c.as_bytes-bytes.result.now c.name_len-len.result (record { outside = c.requires.ends; same = c.as_bytes-bytes.ensures.value; size = c.name_len-len.ensures }) (λ end. true≢false (sym (c.if-not-ends_at.ensures.1 end)))

pub returns-then-len-eq0 : goal.returns-then-len-eq0
returns-then-len-eq0 c =
    let is = name_is c.args.delimiter c.args.fault c.args.text.now c.as_bytes-bytes.result.now c.name_len-len.result (record { outside = c.requires.ends; same = c.as_bytes-bytes.ensures.value; size = c.name_len-len.ensures }) (c.if-not-ends_at.ensures.0 refl) in
    elim c.then-len-eq0.branch [ then-len-eq0-via-then-len-eq0 w ↦ grind (arith, nat_tests) | then-len-eq0-via-else-len-eq0+then-len-gt64 w ↦ grind (arith, nat_tests) | then-len-eq0-via-else-len-eq0+else-len-gt64+then-not-is_ascii_lowercase w ↦ grind (arith, nat_tests) ]

pub returns : goal.returns
returns c =
    let is = name_is c.args.delimiter c.args.fault c.args.text.now c.as_bytes-bytes.result.now c.name_len-len.result (record { outside = c.requires.ends; same = c.as_bytes-bytes.ensures.value; size = c.name_len-len.ensures }) (c.if-not-ends_at.ensures.0 refl) in
    grind (arith, nat_tests)
