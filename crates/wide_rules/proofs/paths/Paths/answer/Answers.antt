use Rattle.std.proofs.Common.{◌≡◌, ◌<◌, length, arith, refl, sym}
use Rattle.std.specs.Prelude.{Contains}
use Rattle.wide_rules.proofs.AskedLemmas.{follows_later, same_beq}
use Rattle.wide_rules.proofs.paths.Paths.answer.Goals as goal

pub returns-then-have : goal.returns-then-have
returns-then-have c = λ q e right.
    let p = c.in_ok-path.path.now in
    let items : c.deref.result.now ≡ c.args.self.now = rw (c.deref.ensures.value, c.self.view_is) refl in
    let lookup = rw items at c.in_ok-path.ensures.lookup in
    let within : c.in-Path.number < length c.args.self.now = omega arith in
    let there : Contains c.args.self.now p = (c.in-Path.number, within, sym lookup.1) in
    let given : p.is_given ≡ c.args.is_given = same_beq p.is_given c.args.is_given c.if-path-is_given.true in
    let more = rw c.deref-then-path-is_given.ensures.value at (c.have.ensures c.if-have.true) in
    follows_later q p.asked.items c.args.answers.now c.args.is_given e p.answer more (rw given at (right p there))
