use Rattle.std.proofs.Common.{◌≡◌, length, arith}
use Rattle.rewrites.proofs.PartLemmas.{part_pushed}
use Rattle.rewrites.proofs.parts.Numbering.push.Goals as goal

pub returns : goal.returns
returns c =
    let parts = c.args.self.now.parts in
    let number : c.len-number.result ≡ length parts.items = omega (arith, c.len-number.ensures, parts.ok.0) in
    rw (c.in_ok-push.ensures.items, number) (part_pushed parts.items c.args.part)
