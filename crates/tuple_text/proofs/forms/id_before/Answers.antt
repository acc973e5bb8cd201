use Rattle.std.proofs.Common.{true≢false, refl, sym, arith}
use Rattle.std.proofs.lemmas.Bool.Decides.{nat_tests}
use Rattle.tuple_text.proofs.Fronts.{no_id, id_is}
use Rattle.tuple_text.proofs.forms.id_before.Goals as goal

pub returns-then-not-ends_at : goal.returns-then-not-ends_at
returns-then-not-ends_at c = no_id c.args.delimiter c.args.fault c.args.text.now c.as_bytes-bytes.result.now c.id_len-len.result (record { outside = c.requires.ends; same = c.as_bytes-bytes.ensures.value; size = c.id_len-len.ensures }) (λ end. true≢false (sym (c.if-not-ends_at.ensures.1 end)))

pub returns-then-len-eq0 : goal.returns-then-len-eq0
returns-then-len-eq0 c =
    let is = id_is c.args.delimiter c.args.fault c.args.text.now c.as_bytes-bytes.result.now c.id_len-len.result (record { outside = c.requires.ends; same = c.as_bytes-bytes.ensures.value; size = c.id_len-len.ensures }) (c.if-not-ends_at.ensures.0 refl) in
    grind (arith, nat_tests)

pub returns : goal.returns
returns c =
    let is = id_is c.args.delimiter c.args.fault c.args.text.now c.as_bytes-bytes.result.now c.id_len-len.result (record { outside = c.requires.ends; same = c.as_bytes-bytes.ensures.value; size = c.id_len-len.ensures }) (c.if-not-ends_at.ensures.0 refl) in
    grind (arith, nat_tests)
