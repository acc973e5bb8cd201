use Rattle.std.proofs.Common.{refl, arith}
use Rattle.std.proofs.lemmas.Bool.Decides.{nat_tests}
use Rattle.tuple_text.proofs.Fronts.{is_object_id_taken}
use Rattle.tuple_text.proofs.QuotedLemmas.{id_split}
use Rattle.tuple_text.proofs.forms.plain_id_before.Goals as goal

pub returns-clause-form : goal.returns-clause-form
returns-clause-form c =
    let n = c.part_len-len.result in
    let ends = c.if-not-ends_at.ensures.0 refl in
    let split = id_split c.args.text.now c.as_bytes-bytes.result.now n c.as_bytes-bytes.ensures.value c.part_len-len.ensures ends.0 ends.1 in
    let taken = is_object_id_taken n c.as_bytes-bytes.result.now (omega (arith, ends)) split.1 in
    let some = c.if-len-eq0.false in
    let few = c.if-len-gt128.false in
    rw (c.split_around.ensures.front, ← c.as_bytes-bytes.ensures.value, taken) (grind (arith, nat_tests, some, few))

pub returns-clause-parts : goal.returns-clause-parts
returns-clause-parts c =
    let ends = c.if-not-ends_at.ensures.0 refl in
    let split = id_split c.args.text.now c.as_bytes-bytes.result.now c.part_len-len.result c.as_bytes-bytes.ensures.value c.part_len-len.ensures ends.0 ends.1 in
    rw (c.split_around.ensures.front, c.split_around.ensures.rest) split.0
