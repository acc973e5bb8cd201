use Rattle.std.proofs.Common.{◌≡◌, ◌∙◌, ◌++◌, ap, sym, subst, List, ℕ, length, take, drop, append_assoc, true, false}
use Rattle.tuple_text.specs.Tuples.{TupleValue}
use Rattle.version_chains.specs.Arena.{AreNumbersOf, AreUpTo}
use Rattle.version_chains.specs.Commits.{Touch}
use Rattle.version_chains.proofs.CommitLemmas.{side, up_to_more}
use Rattle.version_chains.proofs.RepeatLemmas.{numbers_split}
use Rattle.version_chains.proofs.chains.push_commit.Goals as goal

-- the two parts of the numbers
module _ (tuples : List TupleValue) (numbers : List ℕ) (adds : ℕ) (added removed : List TupleValue) (len : length added ≡ adds) (are : AreNumbersOf tuples numbers (added ++ removed)) where
  front : (ns : List ℕ) → ns ≡ take adds numbers → AreNumbersOf tuples ns added
  front ns e = subst (λ (xs : List ℕ). AreNumbersOf tuples xs added) (ap (λ (n : ℕ). take n numbers) len ∙ sym e) (numbers_split tuples numbers added removed are).0

  back : (ns : List ℕ) → ns ≡ drop adds numbers → AreNumbersOf tuples ns removed
  back ns e = subst (λ (xs : List ℕ). AreNumbersOf tuples xs removed) (ap (λ (n : ℕ). drop n numbers) len ∙ sym e) (numbers_split tuples numbers added removed are).1

pub push_all-requires-clause-numbers : goal.push_all-requires-clause-numbers
push_all-requires-clause-numbers c =
    let n = c.requires.numbers in
    (n.0, front c.args.arena.now.tuples c.args.numbers.now c.args.adds n.0 n.1 n.2 n.3 c.split_at.result.0.now c.split_at.ensures.front)

pub push_all-requires-2-clause-numbers : goal.push_all-requires-2-clause-numbers
push_all-requires-2-clause-numbers c =
    let n = c.requires.numbers in
    (n.1, rw c.push_all.ensures.tuples (back c.args.arena.now.tuples c.args.numbers.now c.args.adds n.0 n.1 n.2 n.3 c.split_at.result.1.now c.split_at.ensures.back))

pub push_all-requires-2-clause-late : goal.push_all-requires-2-clause-late
push_all-requires-2-clause-late c =
    let n = c.requires.numbers in
    let first = front c.args.arena.now.tuples c.args.numbers.now c.args.adds n.0 n.1 n.2 n.3 c.split_at.result.0.now c.split_at.ensures.front in
    subst (AreUpTo c.args.at) (sym (c.push_all.ensures.pushes n.0 first)) (up_to_more c.args.at true c.args.arena.now.touches n.0 c.requires.late)

pub returns : goal.returns
returns c added removed len are =
    let first = front c.args.arena.now.tuples c.args.numbers.now c.args.adds added removed len are c.split_at.result.0.now c.split_at.ensures.front in
    let second = back c.args.arena.now.tuples c.args.numbers.now c.args.adds added removed len are c.split_at.result.1.now c.split_at.ensures.back in
    c.push_all-2.ensures.pushes removed (rw c.push_all.ensures.tuples second)
    ∙ ap (λ (xs : List Touch). xs ++ side c.args.at false removed) (c.push_all.ensures.pushes added first)
    ∙ append_assoc c.args.arena.now.touches (side c.args.at true added) (side c.args.at false removed)
