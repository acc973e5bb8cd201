use Rattle.std.proofs.Common.{◌≡◌, length, fold}
use Rattle.std.specs.Hash.DefaultHasher.{write_word}
use Rattle.marks.specs.Words.{state_of, words}
use Rattle.marks.proofs.words.WordHasher.with_text.Given as goal

-- what is left gives the same
abbrev pub invariant-loop-word : goal.invariant-loop-word
invariant-loop-word l = fold write_word (state_of l.state) (words l.rest) ≡ fold write_word (state_of l.initial.state) (words l.initial.rest)

abbrev pub decreases-loop-word : goal.decreases-loop-word
decreases-loop-word l = length l.rest
