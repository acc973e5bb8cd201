use Rattle.std.proofs.Common.{bit_xor, ap}
use Rattle.std.specs.Hash.DefaultHasher.{write_word}
use Rattle.std.specs.declared.hash.DefaultHasher.{DefaultHasher}
use Rattle.marks.proofs.words.WordHasher.with.Goals as goal

pub returns : goal.returns
unfolding write_word
returns c =
    let mixed : DefaultHasher → DefaultHasher = λ s. record { v0 = bit_xor s.v0 c.args.word; v1 = s.v1; v2 = s.v2; v3 = s.v3; tail = s.tail; length = s.length } in
    ap mixed c.round-state.ensures
