use Rattle.std.proofs.Common.{length, arith}
use Rattle.std.proofs.lemmas.List.{at_drop_all}
use Rattle.json.specs.Print.{escape}
use Rattle.record_text.proofs.Counted.{counted_all}
use Rattle.record_text.proofs.count.escaped_bytes.Goals as goal

pub returns : goal.returns
returns c =
    let none = at_drop_all (λ bs. length (escape bs)) c.args.text.now c.loop-byte.byte-index (omega (arith, c.loop-byte-test.false)) in
    counted_all c.loop-byte.count _ (length (escape c.args.text.now)) c.loop-byte.invariant.0 c.loop-byte.invariant.1 none
