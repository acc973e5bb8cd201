use Rattle.std.proofs.Common.{◌≡◌, ◌+◌, ◌-◌, ◌^◌, ◌≤◌, min, length, drop}
use Rattle.json.specs.Print.{escape}
use Rattle.record_text.proofs.count.escaped_bytes.Given as goal

abbrev pub invariant-loop-byte : goal.invariant-loop-byte
invariant-loop-byte l = (l.count ≤ 2 ^ 64 - 1) × (min (l.count + length (escape (drop l.byte-index l.text))) (2 ^ 64 - 1) ≡ min (length (escape l.text)) (2 ^ 64 - 1))
