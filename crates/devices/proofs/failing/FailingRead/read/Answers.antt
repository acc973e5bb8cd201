use Rattle.std.proofs.Common.{◌<◌, length, drop, arith}
use Rattle.std.proofs.lemmas.List.{take-append-le, length-append, length-drop, length-take}
use Rattle.devices.proofs.failing.FailingRead.read.Goals as goal

pub returns-clause-bytes : goal.returns-clause-bytes
returns-clause-bytes g c =
    let bytes = c.in_ok-given.ensures.bytes in
    let part = c.part-part.result in
    let part_len = length-take part c.args.buf.now in
    let rest_len = length-drop part c.args.buf.now in
    let whole_len = length-append c.read.new.buf (drop part c.args.buf.now) in
    rw (← c.fails.ensures.kept, c.spend.ensures, take-append-le c.in_ok-given.given c.read.new.buf (drop part c.args.buf.now) c.in_ok-given.ensures.bound.0) (
      bytes.0,
      λ zero some. bytes.1 zero (
          let full : 0 < length c.args.buf.now = omega (arith, some, whole_len, rest_len, part_len, c.read.auto.buf) in
          let asked = c.part-part.ensures.some (c.fails.ensures.room c.if-fails.false) full in
          omega (arith, asked, full, part_len, c.read.auto.buf)
          ),
    )
