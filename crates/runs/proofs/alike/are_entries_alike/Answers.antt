use Rattle.std.proofs.Common.{◌<◌, ℕ, List, ◌∙◌, sym, ap, arith, drop, length, map}
use Rattle.trace_lines.specs.Values.{EntryValue}
use Rattle.carry_laws.specs.Carried.{placeless}
use Rattle.runs.specs.Alike.{goes_on}
use Rattle.runs.proofs.WalkLemmas.{mapped_at, passed_at, there_is}
use Rattle.runs.proofs.alike.are_entries_alike.Goals as goal
use Rattle.runs.proofs.alike.are_entries_alike.Goals.{then-goes_on+else-j-len+else-not-is_same_entry, else-goes_on}

pub loop-i-preserved : goal.loop-i-preserved
loop-i-preserved c =
    let log = c.args.log.now in
    let other = c.args.other.now in
    let i = c.loop-i.i in
    let j = c.loop-i.j in
    let turn = c.loop-i-test.true in
    let all = c.len-i-end.ensures.count in
    let own = there_is log.entries i (omega (arith, turn, all)) in
    let within = c.loop-i.invariant.0 in
    let rest_of : ℕ → List EntryValue = λ n. map placeless (drop n other.entries) in
    elim c.if-goes_on.branch [
      | then-goes_on+else-j-len+else-not-is_same_entry w ↦
          let len = w.len.ensures.count in
          let at = w.j-is in
          let before : j < length other.entries = omega (arith, within, len, w.if-j-len.false) in
          let there = there_is other.entries j before in (
            omega (arith, before, at),
            λ rest. c.loop-i.invariant.1
                (mapped_at (goes_on c.args.from log) placeless log.entries other.entries i j own.0 there.0 own.1 there.1
                (sym (c.goes_on.ensures own.0 own.1) ∙ w.if-goes_on.true)
                (w.is_same_entry.ensures w.if-not-is_same_entry.false own.0 there.0 own.1 there.1)
                (rest ∙ ap rest_of at)),
          )
      | else-goes_on w ↦
          let at = w.j-is in (
            omega (arith, within, at),
            λ rest. c.loop-i.invariant.1
                (ap (map placeless) (passed_at (goes_on c.args.from log) log.entries i own.0 own.1
                (sym (c.goes_on.ensures own.0 own.1) ∙ w.if-goes_on.false))
                ∙ rest ∙ ap rest_of at),
          )
    ]
