use Rattle.std.proofs.Common.{◌≡◌, take, rules, arith}
use Rattle.std.proofs.lemmas.Str.{IsCharBoundary-after_ascii}
use Rattle.compact_json.proofs.Pieces.{text_ends}
use Rattle.compact_json.proofs.text_before.Goals as goal

pub range_from-requires : goal.range_from-requires
range_from-requires c =
    let ends = text_ends c.args.text.now c.as_bytes-bytes.result.now c.in_ok-end.end c.as_bytes-bytes.ensures.value c.in_ok-end.ensures c.if-bytes-end-ne34.false in
    let quote = ends.1 in
    λ h. IsCharBoundary-after_ascii c.args.text.now c.in_ok-end.end c.utf8.text ends.0 (omega (arith, quote))

pub returns : goal.returns
returns c =
    let ends = text_ends c.args.text.now c.as_bytes-bytes.result.now c.in_ok-end.end c.as_bytes-bytes.ensures.value c.in_ok-end.ensures c.if-bytes-end-ne34.false in
    let front : c.range.result.now ≡ take c.in_ok-end.end c.args.text.now = search rules in
    rw (front, c.range_from.ensures.value) (ends.2, ends.3)
