use Rattle.std.proofs.Common.{bit_xor, ap, ◌∙◌}
use Rattle.std.specs.Hash.DefaultHasher.{round}
use Rattle.std.specs.declared.hash.DefaultHasher.{DefaultHasher}
use Rattle.marks.specs.Words.{finished}
use Rattle.marks.proofs.words.WordHasher.finish.Goals as goal

pub returns : goal.returns
unfolding finished
returns c =
    ap (λ (s : DefaultHasher). bit_xor (bit_xor (bit_xor s.v0 s.v1) s.v2) s.v3)
    (c.round-state.ensures ∙ ap round (c.round-2.ensures ∙ ap round c.round.ensures))
