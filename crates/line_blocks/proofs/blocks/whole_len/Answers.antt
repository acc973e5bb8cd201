use Rattle.std.proofs.Common.{◌≡◌, ◌+◌, drop, arith}
use Rattle.line_blocks.proofs.Endings.{all_behind, newline_last_from, none_behind_from, lacks_all_of, none_behind}
use Rattle.line_blocks.proofs.blocks.whole_len.Goals as goal

pub returns-in-Some-clause-whole : goal.returns-in-Some-clause-whole
returns-in-Some-clause-whole c =
    let found = rw (all_behind c.args.bytes.now c.args.seen) at c.in-Some.ensures in
    newline_last_from c.args.bytes.now c.args.seen c.in-Some.last found.0.high c.requires.within found.1

pub returns-in-Some-clause-rest : goal.returns-in-Some-clause-rest
returns-in-Some-clause-rest c =
    let found = rw (all_behind c.args.bytes.now c.args.seen) at c.in-Some.ensures in
    let there : c.args.seen + (c.in-Some.last + 1) ≡ c.args.seen + c.in-Some.last + 1 = omega arith in
    rw there at (none_behind_from c.args.bytes.now c.args.seen (c.in-Some.last + 1) c.requires.within found.0.after)

pub returns-in-None-clause-rest : goal.returns-in-None-clause-rest
returns-in-None-clause-rest c =
    let none = rw (all_behind c.args.bytes.now c.args.seen) at c.in-None.ensures in
    lacks_all_of c.args.bytes.now c.args.seen c.requires.seen (none_behind (drop c.args.seen c.args.bytes.now) 0 none)
