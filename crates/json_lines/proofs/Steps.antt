-- One line, in however many reads it comes.
use Rattle.std.proofs.Common.{◌≡◌, ℕ, ◌+◌, ◌<◌, ◌≤◌, Bool, true, false, eqb, not, List, [], ◌∷◌, ◌++◌, length, take, drop, get_or, arith, refl, sym, ap, ◌∙◌, inl, inr, append_assoc, append-nil, length-append}
use Rattle.std.proofs.Math.ListN.{drop_of_length-le}
use Rattle.std.proofs.lemmas.Bool.{cases_lt, and_from, ltb-true, ltb-false, eqb-true}
use Rattle.std.proofs.lemmas.List.{take_at, length-take-le, take-append-drop}
use Rattle.std.proofs.lemmas.List.Folds.{list_all-append}
use Rattle.std.proofs.lemmas.List.Sums.{split_at_first, passes_at_first}
use Rattle.json_lines.specs.Lines.{lacks, line_len, first_line, after_line, has_newline, line_ending, Takes, BeginsTooLong, ComeAtMost}
use Rattle.json_lines.proofs.Cuts.{line_len_within, line_len_le, lacks_all}

pub lacks_first : (xs : List ℕ) → lacks (first_line xs) ≡ true
lacks_first xs =
    let len : length (first_line xs) ≡ line_len xs = length-take-le (line_len xs) xs (line_len_le xs) in
    let whole : first_line xs ++ drop (line_len xs) xs ≡ xs = take-append-drop (line_len xs) xs in
    elim (cases_lt (line_len (first_line xs)) (length (first_line xs))) [
      | inl lt ↦ let e : line_len (first_line xs ++ drop (line_len xs) xs) ≡ line_len (first_line xs) = line_len_within (first_line xs) (drop (line_len xs) xs) lt in
          let same : line_len (first_line xs ++ drop (line_len xs) xs) ≡ line_len xs = ap line_len whole in absurd (omega (arith, e, same, len))
      | inr le ↦ lacks_all (first_line xs) le
    ]

take_past_all : (piece : List ℕ) → length piece ≤ line_len piece → first_line piece ≡ piece
take_past_all piece le = let e : line_len piece ≡ length piece = omega (arith, line_len_le piece) in rw e (ap (λ (l : List ℕ). take (length piece) l) (sym (append-nil piece)) ∙ take_at piece [] (length piece) refl)

pub nothing_after : (xs : List ℕ) → false ≡ has_newline xs → after_line xs ≡ []
nothing_after xs h = let le : length xs ≤ line_len xs = ltb-false _ _ (sym h) in drop_of_length-le xs (omega (arith, le))

-- a line, its newline where it has one, and what comes after it
pub split_line : (xs : List ℕ) (more : Bool) → more ≡ has_newline xs → xs ≡ (first_line xs ++ line_ending more) ++ after_line xs
split_line xs true h =
    let lt : line_len xs < length xs = ltb-true _ _ (sym h) in
    let at : get_or xs (line_len xs) 0 ≡ 10 = eqb-true _ _ (passes_at_first (λ b. eqb b 10) xs 0 lt) in
    split_at_first (λ b. eqb b 10) xs 0 lt ∙ ap (λ (b : ℕ). first_line xs ++ (b ∷ after_line xs)) at ∙ sym (append_assoc (first_line xs) (10 ∷ []) (after_line xs))
split_line xs false h =
    let le : length xs ≤ line_len xs = ltb-false _ _ (sym h) in
    rw (take_past_all xs le, nothing_after xs h) (sym (append-nil (xs ++ []) ∙ append-nil xs))

-- ---- bytes that are taken piece by piece

pub takes_then : (a b c at_hand mid left line : List ℕ) → Takes a b at_hand mid line → Takes b c mid left [] → Takes a c at_hand left line
takes_then a b c at_hand mid left line one two before is = two (before ++ line) (one before is ∙ sym (append_assoc before line mid)) ∙ append_assoc before line left

pub takes_on : (a b c at_hand mid left line piece : List ℕ) → Takes a b at_hand mid line → Takes b c mid (piece ++ left) [] → Takes a c at_hand left (line ++ piece)
takes_on a b c at_hand mid left line piece one two before is =
    takes_then a b c at_hand mid (piece ++ left) line one two before is ∙ ap (λ (l : List ℕ). before ++ l) (sym (append_assoc line piece left))

pub lacks_more : (line piece : List ℕ) → lacks line ≡ true → lacks piece ≡ true → lacks (line ++ piece) ≡ true
lacks_more line piece h k = list_all-append (λ b. not (eqb b 10)) line piece ∙ and_from (lacks line) (lacks piece) h k

pub lacks_line : (line piece : List ℕ) → lacks line ≡ true → lacks (line ++ first_line piece) ≡ true
lacks_line line piece h = lacks_more line (first_line piece) h (lacks_first piece)

-- what is at hand goes on with the first line there, and its newline
pub takes_line : (a b c at_hand mid piece : List ℕ) (line : List ℕ) (more : Bool) → Takes a b at_hand mid line → Takes b c mid piece [] → more ≡ has_newline piece
    → Takes a c at_hand (after_line piece) ((line ++ first_line piece) ++ line_ending more)
takes_line a b c at_hand mid piece line more one two h before is =
    takes_on a b c at_hand mid (after_line piece) line (first_line piece ++ line_ending more) one (λ start eq. two start eq ∙ ap (λ (l : List ℕ). start ++ l) (split_line piece more h)) before is
    ∙ ap (λ (l : List ℕ). before ++ (l ++ after_line piece)) (sym (append_assoc line (first_line piece) (line_ending more)))

-- no newline is at hand
pub goes_on : (a b c at_hand mid piece : List ℕ) (line : List ℕ) → Takes a b at_hand mid line → Takes b c mid piece [] → false ≡ has_newline piece
    → Takes a c at_hand (after_line piece) (line ++ first_line piece)
goes_on a b c at_hand mid piece line one two h before is =
    takes_line a b c at_hand mid piece line false one two h before is ∙ ap (λ (l : List ℕ). before ++ (l ++ after_line piece)) (append-nil (line ++ first_line piece))

pub too_long : (max : ℕ) (a b c at_hand mid piece line : List ℕ) → Takes a b at_hand mid line → Takes b c mid piece [] → lacks line ≡ true → max < length line + line_len piece
    → BeginsTooLong max a c at_hand
too_long max a b c at_hand mid piece line one two h lt before is =
    let whole : first_line piece ++ drop (line_len piece) piece ≡ piece = take-append-drop (line_len piece) piece in
    let len : length (first_line piece) ≡ line_len piece = length-take-le (line_len piece) piece (line_len_le piece) in (
      line ++ first_line piece,
      drop (line_len piece) piece,
      takes_on a b c at_hand mid (drop (line_len piece) piece) line (first_line piece) one (λ start eq. two start eq ∙ ap (λ (l : List ℕ). start ++ l) (sym whole)) before is,
      lacks_line line piece h,
      omega (arith, length-append line (first_line piece), len, lt),
    )

pub come_at_most : (max few : ℕ) (a b c at_hand mid piece line : List ℕ) → Takes a b at_hand mid line → Takes b c mid piece [] → length line ≤ max → length piece ≤ few
    → ComeAtMost (max + few) a c at_hand
come_at_most max few a b c at_hand mid piece line one two short small before is = (
  line ++ piece,
  takes_then a b c at_hand mid piece line one two before is,
  omega (arith, length-append line piece, short, small),
)
