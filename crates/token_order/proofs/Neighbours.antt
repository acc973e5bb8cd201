-- The commits before and behind an entry, by those next to it.
use Rattle.std.proofs.Common.{◌≡◌, ℕ, ◌+◌, ◌<◌, ◌≤◌, ◌||◌, Bool, true, false, ltb, leb, List, [], ◌∷◌, ◌++◌, length, suc, map, take, drop, get_or, Some, arith, refl, sym, ap, subst, ◌∙◌, inl, inr}
use Rattle.std.specs.Prelude.{All, filter}
use Rattle.std.specs.List.{list_any, AllByRecursion}
use Rattle.std.specs.List.Sorted.{IsStrictlyIncreasing}
use Rattle.std.proofs.Math.Seq.{drop-cons}
use Rattle.std.proofs.lemmas.Bool.{cases_lt, lt-ltb, le-ltb, lt-leb, le-leb, or_right}
use Rattle.std.proofs.lemmas.List.{length-map, get_or-map, take-map, drop-map, take_more, take-append-drop, length-take, length-drop, get_or-take, get_or-drop, drop_all}
use Rattle.std.proofs.lemmas.List.Elements.{filter-append, recursion_from_All}
use Rattle.std.proofs.lemmas.List.Folds.{list_any-append, list_any_none}
use Rattle.std.proofs.lemmas.List.Kept.{AllPairs-from_increasing}
use Rattle.version_chains.specs.Commits.{Commit}
use Rattle.token_order.specs.Order.{CommitLine, on_lines}
use Rattle.token_order.specs.Found.{first_line, last_line}

lines-on_lines : (ls : List ℕ) (cs : List Commit) → length ls ≡ length cs → map (λ (c : CommitLine). c.line) (on_lines ls cs) ≡ ls
lines-on_lines [] cs e = refl
lines-on_lines (l ∷ ls) [] e = absurd (omega (arith, e))
lines-on_lines (l ∷ ls) (c ∷ cs) e = ap (λ (ns : List ℕ). l ∷ ns) (lines-on_lines ls cs (omega (arith, e)))

times-on_lines : (ls : List ℕ) (cs : List Commit) → length ls ≡ length cs → map (λ (c : CommitLine). c.at) (on_lines ls cs) ≡ map (λ (c : Commit). c.at) cs
times-on_lines [] [] e = refl
times-on_lines [] (c ∷ cs) e = absurd (omega (arith, e))
times-on_lines (l ∷ ls) [] e = absurd (omega (arith, e))
times-on_lines (l ∷ ls) (c ∷ cs) e = ap (λ (ns : List ℕ). c.at ∷ ns) (times-on_lines ls cs (omega (arith, e)))

-- ---- what a filter gives of a front that passes and a rest that does not

keeps_all : {X : Type 0} (p : X → Bool) (xs : List X) → AllByRecursion (λ x. p x ≡ true) xs → filter p xs ≡ xs
keeps_all p [] h = refl
keeps_all p (x ∷ xs) h = rw h.0 (ap (λ (ys : List _). x ∷ ys) (keeps_all p xs h.1))

keeps_none : {X : Type 0} (p : X → Bool) (xs : List X) → AllByRecursion (λ x. p x ≡ false) xs → filter p xs ≡ []
keeps_none p [] h = refl
keeps_none p (x ∷ xs) h = rw h.0 (keeps_none p xs h.1)

append_nothing : {X : Type 0} (xs : List X) → xs ++ [] ≡ xs
append_nothing [] = refl
append_nothing (x ∷ xs) = ap (λ (ys : List _). x ∷ ys) (append_nothing xs)

filter-front : {X : Type 0} (p : X → Bool) (n : ℕ) (xs : List X) → All (λ x. p x ≡ true) (take n xs) → All (λ x. p x ≡ false) (drop n xs) → filter p xs ≡ take n xs
filter-front p n xs in_front behind =
    ap (λ (ys : List _). filter p ys) (sym (take-append-drop n xs)) ∙ filter-append p (take n xs) (drop n xs)
    ∙ rw (keeps_all p (take n xs) (recursion_from_All _ (take n xs) in_front), keeps_none p (drop n xs) (recursion_from_All _ (drop n xs) behind)) (append_nothing (take n xs))

filter-rest : {X : Type 0} (p : X → Bool) (n : ℕ) (xs : List X) → All (λ x. p x ≡ false) (take n xs) → All (λ x. p x ≡ true) (drop n xs) → filter p xs ≡ drop n xs
filter-rest p n xs in_front behind =
    ap (λ (ys : List _). filter p ys) (sym (take-append-drop n xs)) ∙ filter-append p (take n xs) (drop n xs)
    ∙ rw (keeps_none p (take n xs) (recursion_from_All _ (take n xs) in_front), keeps_all p (drop n xs) (recursion_from_All _ (drop n xs) behind)) refl

last_line-push : (cs : List CommitLine) (c : CommitLine) → last_line (cs ++ c ∷ []) ≡ Some c.line
last_line-push [] c = refl
last_line-push (d ∷ ds) c = rw (last_line-push ds c) refl

-- ---- an entry's place among the commits

module _ (lines : List ℕ) (commits : List Commit) (before line : ℕ) (counted : length lines ≡ length commits) (rising : IsStrictlyIncreasing (map (λ (c : Commit). c.at) commits))
    (within : before ≤ length commits) (earlier : All (λ l. l < line) (take before lines)) (later : All (λ l. line < l) (drop before lines)) where
  abbrev all : List CommitLine
  all = on_lines lines commits

  len : length all ≡ length commits
  len = sym (length-map all (λ (c : CommitLine). c.line)) ∙ ap (λ (ns : List ℕ). length ns) (lines-on_lines lines commits counted) ∙ counted

  line_at : (k : ℕ) (d : CommitLine) → k < length all → get_or lines k 0 ≡ (get_or all k d).line
  line_at k d lt = ap (λ (ns : List ℕ). get_or ns k 0) (sym (lines-on_lines lines commits counted)) ∙ get_or-map (λ (c : CommitLine). c.line) all k d 0 lt

  time_at : (k : ℕ) (d : CommitLine) → k < length all → get_or (map (λ (c : Commit). c.at) commits) k 0 ≡ (get_or all k d).at
  time_at k d lt = ap (λ (ns : List ℕ). get_or ns k 0) (sym (times-on_lines lines commits counted)) ∙ get_or-map (λ (c : CommitLine). c.at) all k d 0 lt

  all_mapped : (P : ℕ → Type 0) (cs : List CommitLine) → All P (map (λ (c : CommitLine). c.line) cs) → All (λ (c : CommitLine). P c.line) cs
  all_mapped P cs h k d lt = subst P (get_or-map (λ (c : CommitLine). c.line) cs k d 0 lt) (h k 0 (rw (length-map cs (λ (c : CommitLine). c.line)) lt))

  front_earlier : All (λ (c : CommitLine). c.line < line) (take before all)
  front_earlier = all_mapped (λ l. l < line) (take before all) (rw (← take-map (λ (c : CommitLine). c.line) before all, lines-on_lines lines commits counted) earlier)

  rest_later : All (λ (c : CommitLine). line < c.line) (drop before all)
  rest_later = all_mapped (λ l. line < l) (drop before all) (rw (← drop-map (λ (c : CommitLine). c.line) before all, lines-on_lines lines commits counted) later)

  pub earlier_are : filter (λ (c : CommitLine). ltb c.line line) all ≡ take before all
  earlier_are = filter-front _ before all (λ k d lt. lt-ltb _ _ (front_earlier k d lt)) (λ k d lt. le-ltb _ _ (let h = rest_later k d lt in omega (arith, h)))

  pub later_are : filter (λ (c : CommitLine). ltb line c.line) all ≡ drop before all
  later_are = filter-rest _ before all (λ k d lt. le-ltb _ _ (let h = front_earlier k d lt in omega (arith, h))) (λ k d lt. lt-ltb _ _ (rest_later k d lt))

  -- timestamps rise from one commit to a later one
  time_rises : (j k : ℕ) (c d : CommitLine) → j ≤ k → k < length all → (get_or all j c).at ≤ (get_or all k d).at
  time_rises j k c d le lt =
      let mapped : length (map (λ (x : Commit). x.at) commits) ≡ length commits = length-map commits (λ (x : Commit). x.at) in
      let a = time_at j c (omega (arith, le, lt)) in
      let b = time_at k d lt in
      elim (cases_lt j k) [
        | inl below ↦ let up = AllPairs-from_increasing (map (λ (x : Commit). x.at) commits) rising j k 0 below (omega (arith, mapped, lt, len)) in omega (arith, up, a, b)
        | inr ge ↦ let same : j ≡ k = omega (arith, le, ge) in let e : (get_or all j c).at ≡ (get_or all k d).at = sym a ∙ ap (λ (n : ℕ). get_or (map (λ (x : Commit). x.at) commits) n 0) same ∙ b in omega (arith, e)
      ]

  module _ (s : ℕ) where
    abbrev above : CommitLine → Bool
    above c = ltb s c.at

    abbrev covered : CommitLine → Bool
    covered c = leb c.at s

    -- the last commit before the entry is above the snapshot
    pub last_above : (last : ℕ) → before ≡ last + 1 → s < get_or (map (λ (c : Commit). c.at) commits) last 0
        → (list_any above (take before all) ≡ true) × (last_line (take before all) ≡ Some (get_or lines last 0))
    last_above last is lt =
        let within' : last < length all = omega (arith, is, within, len) in
        let d : CommitLine = record { line = 0; at = 0 } in
        let more : take before all ≡ take last all ++ get_or all last d ∷ [] = ap (λ (n : ℕ). take n all) is ∙ take_more all last d within' in
        let passes : above (get_or all last d) ≡ true = lt-ltb _ _ (let t = time_at last d within' in omega (arith, t, lt)) in (
          rw more (list_any-append above (take last all) (get_or all last d ∷ []) ∙ or_right (list_any above (take last all)) (above (get_or all last d) || false) (rw passes refl)),
          rw more (last_line-push (take last all) (get_or all last d) ∙ ap (λ (n : ℕ). Some n) (sym (line_at last d within'))),
        )

    -- no commit before the entry is, where the last is not
    pub none_above : (last : ℕ) → before ≡ last + 1 → get_or (map (λ (c : Commit). c.at) commits) last 0 ≤ s → list_any above (take before all) ≡ false
    none_above last is le =
        list_any_none above (take before all) (λ k d lt.
        let shorter = length-take before all in
        let within' : last < length all = omega (arith, is, within, len) in
        let here : get_or (take before all) k d ≡ get_or all k d = get_or-take before all k d (omega (arith, lt, shorter)) in
        let up = time_rises k last d d (omega (arith, lt, shorter, is)) within' in
        let t = time_at last d within' in
        rw here (le-ltb _ _ (omega (arith, up, t, le))))

    -- the first commit behind the entry is not above the snapshot
    pub first_covered : before < length commits → get_or (map (λ (c : Commit). c.at) commits) before 0 ≤ s
        → (list_any covered (drop before all) ≡ true) × (first_line (drop before all) ≡ Some (get_or lines before 0))
    first_covered lt le =
        let d : CommitLine = record { line = 0; at = 0 } in
        let here : before < length all = omega (arith, lt, len) in
        let more : drop before all ≡ get_or all before d ∷ drop (suc before) all = drop-cons all before d here in
        let passes : covered (get_or all before d) ≡ true = le-leb _ _ (let t = time_at before d here in omega (arith, t, le)) in
        (rw (more, passes) refl, rw more (ap (λ (n : ℕ). Some n) (sym (line_at before d here))))

    -- no commit behind the entry is covered, where the first is not
    pub none_covered : s < get_or (map (λ (c : Commit). c.at) commits) before 0 → list_any covered (drop before all) ≡ false
    none_covered lt' =
        list_any_none covered (drop before all) (λ k d lt.
        let shorter = length-drop before all in
        let here : get_or (drop before all) k d ≡ get_or all (before + k) d = get_or-drop before all k d in
        let up = time_rises before (before + k) d d (omega arith) (omega (arith, lt, shorter)) in
        let t = time_at before d (omega (arith, lt, shorter)) in
        rw here (lt-leb _ _ (omega (arith, up, t, lt'))))

    pub none_behind : length commits ≤ before → list_any covered (drop before all) ≡ false
    none_behind le = rw (drop_all before all (omega (arith, le, len))) refl
