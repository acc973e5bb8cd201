use Rattle.std.proofs.Common.{rules, ◌≡◌, ◌<◌, ◌≤◌, length, take, drop, fold, sym, ap, ◌∙◌, w64}
use Rattle.std.specs.Int.{from_le_bytes}
use Rattle.std.specs.Hash.DefaultHasher.{write_word}
use Rattle.marks.specs.Words.{state_of, words}
use Rattle.marks.proofs.WordLemmas.{first_word, last_word, no_word}
use Rattle.marks.proofs.words.WordHasher.with_text.Goals as goal

pub loop-word-preserved : goal.loop-word-preserved
loop-word-preserved c =
    let rest = c.loop-word.rest.now in
    let long : 8 ≤ length rest = search rules in
    let front : c.in-Some.word.now ≡ take 8 rest = search rules in
    let behind : c.in-Some.behind.now ≡ drop 8 rest = search rules in
    let word = c.from_le_bytes.ensures ∙ ap (from_le_bytes w64) front in
    let state = c.with-state.ensures ∙ ap (write_word (state_of c.loop-word.state)) word in
    (λ i. fold write_word (state i) (words (behind i)))
    ∙ ap (fold write_word (state_of c.loop-word.state)) (sym (first_word rest long))
    ∙ c.loop-word.invariant

pub returns-then-is_empty : goal.returns-then-is_empty
returns-then-is_empty c =
    let none : length c.loop-word.rest.now ≡ 0 = search rules in
    ap (fold write_word (state_of c.loop-word.state)) (sym (no_word c.loop-word.rest.now none))
    ∙ c.loop-word.invariant
    ∙ ap (λ text. fold write_word (state_of c.args.self) (words text)) c.as_bytes-rest.ensures.value

pub returns : goal.returns
returns c =
    let rest = c.loop-word.rest.now in
    let some : 0 < length rest = search rules in
    let short : length rest < 8 = search rules in
    let word = c.last_word.ensures in
    c.with.ensures
    ∙ ap (write_word (state_of c.loop-word.state)) word
    ∙ ap (fold write_word (state_of c.loop-word.state)) (sym (last_word rest some short))
    ∙ c.loop-word.invariant
    ∙ ap (λ text. fold write_word (state_of c.args.self) (words text)) c.as_bytes-rest.ensures.value
