-- Which commit is the first to reach a timestamp.
use Rattle.std.proofs.Common.{◌≡◌, ℕ, suc, ◌<◌, ◌≤◌, ◌||◌, ◌⊎◌, inl, inr, Bool, true, false, cond, eqb, ltb, leb, List, [], ◌∷◌, ◌++◌, length, Option, Some, refl, sym, ◌∙◌, ap, arith}
use Rattle.std.specs.Prelude.{filter}
use Rattle.std.specs.List.{AllByRecursion, list_any}
use Rattle.std.proofs.lemmas.Bool.{eqb-true, ne_eqb, lt-leb, leb-true, leb-false}
use Rattle.version_chains.specs.Commits.{Commit}
use Rattle.token_order.specs.Order.{CommitLine, on_lines}
use Rattle.windows.specs.Compaction.{above}
use Rattle.windows.proofs.NearestLemmas.{IsLater, AreInTime}
use Rattle.follow_laws.specs.Told.{line_reaching}

pub any_on_lines : (q : ℕ → Bool) (ls : List ℕ) (cs : List Commit) → length ls ≡ length cs
    → list_any (λ (c : CommitLine). q c.at) (on_lines ls cs) ≡ list_any (λ (c : Commit). q c.at) cs
any_on_lines q [] [] e = refl
any_on_lines q [] (c ∷ cs) e = absurd (omega (arith, e))
any_on_lines q (l ∷ ls) [] e = absurd (omega (arith, e))
any_on_lines q (l ∷ ls) (c ∷ cs) e = ap (λ (b : Bool). q c.at || b) (any_on_lines q ls cs (omega (arith, e)))

pub any_weaker : {X : Type 0} (q r : X → Bool) → ((x : X) → q x ≡ true → r x ≡ true) → (xs : List X)
    → list_any q xs ≡ true → list_any r xs ≡ true
any_weaker q r imp [] h = h
any_weaker {X} q r imp (x ∷ xs) h = by_test (any_weaker q r imp xs) (q x) refl (r x) refl h
  where
    by_test : (list_any q xs ≡ true → list_any r xs ≡ true) → (a : Bool) → q x ≡ a → (b : Bool) → r x ≡ b
        → (a || list_any q xs) ≡ true → (b || list_any r xs) ≡ true
    by_test rest a is true ris h = refl
    by_test rest true is false ris h = let no : false ≡ true = sym ris ∙ imp x is in absurd cc
    by_test rest false is false ris h = rest h

none_there : (b at : ℕ) (cs : List CommitLine) → b ≤ at → AllByRecursion (IsLater at) cs
    → list_any (λ (c : CommitLine). eqb c.at b) cs ≡ false
none_there b at [] le h = refl
none_there b at (c ∷ cs) le h =
    let lt = h.0 in
    rw (ne_eqb c.at b (λ same. omega (arith, le, lt, same))) (none_there b at cs le h.1)

-- Where there is a commit at a timestamp, and those up to that stand before line p, the first that reaches it does.
pub reached_before : (b p : ℕ) (cs : List CommitLine) → AreInTime cs
    → AllByRecursion (λ (c : CommitLine). c.at ≤ b → c.line < p) cs
    → list_any (λ (c : CommitLine). eqb c.at b) cs ≡ true → (l : ℕ) × (line_reaching b cs ≡ Some l) × (l < p)
reached_before b p [] time before has = absurd (let no : false ≡ true = has in cc)
reached_before b p (c ∷ cs) time before has =
    by_reach (reached_before b p cs time.1 before.1) (leb b c.at) refl (eqb c.at b) refl has
  where
    there : Bool
    there = list_any (λ (d : CommitLine). eqb d.at b) cs

    by_reach : (there ≡ true → (l : ℕ) × (line_reaching b cs ≡ Some l) × (l < p)) → (r : Bool) → leb b c.at ≡ r → (q : Bool)
        → eqb c.at b ≡ q → (q || there) ≡ true
        → (l : ℕ) × (cond r (Some c.line) (line_reaching b cs) ≡ Some l) × (l < p)
    by_reach rest true reach true at has = (c.line, refl, before.0 (let same = eqb-true c.at b at in omega (arith, same)))
    by_reach rest true reach false at has =
        let no : false ≡ true = sym (none_there b c.at cs (leb-true b c.at reach) time.0) ∙ has in absurd cc
    by_reach rest false reach true at has =
        let lt = leb-false b c.at reach in
        let same = eqb-true c.at b at in
        absurd (omega (arith, lt, same))
    by_reach rest false reach false at has = rest has

-- what stands in front below the timestamp does not reach it
pub reaching_behind : (s : ℕ) (cs ds : List CommitLine) → AllByRecursion (λ (c : CommitLine). c.at < s) cs
    → line_reaching s (cs ++ ds) ≡ line_reaching s ds
reaching_behind s [] ds h = refl
reaching_behind s (c ∷ cs) ds h = rw (lt-leb s c.at h.0) (reaching_behind s cs ds h.1)

-- nor do commits up to an earlier one
pub reaching_above : (b s : ℕ) (cs : List CommitLine) → b < s
    → line_reaching s (filter (λ (c : CommitLine). ltb b c.at) cs) ≡ line_reaching s cs
reaching_above b s [] lt = refl
reaching_above b s (c ∷ cs) lt = by_test (reaching_above b s cs lt) (ltb b c.at) refl (leb s c.at) refl
  where
    kept : List CommitLine
    kept = filter (λ (d : CommitLine). ltb b d.at) cs

    by_test : line_reaching s kept ≡ line_reaching s cs → (x : Bool) → ltb b c.at ≡ x → (y : Bool) → leb s c.at ≡ y
        → line_reaching s (cond x (c ∷ kept) kept) ≡ cond y (Some c.line) (line_reaching s cs)
    by_test rest true up y is =
        ap (λ (o : Option ℕ). cond (leb s c.at) (Some c.line) o) rest
        ∙ ap (λ (z : Bool). cond z (Some c.line) (line_reaching s cs)) is
    by_test rest false up true is =
        let low = leb-false (suc b) c.at up in
        let high = leb-true s c.at is in
        absurd (omega (arith, low, high, lt))
    by_test rest false up false is = rest

-- a commit that reaches a timestamp is above another one, or that is reached by then
pub reached_above : (b s : ℕ) (cs : List Commit) → list_any (λ (c : Commit). leb s c.at) cs ≡ true
    → (list_any (λ (c : Commit). leb s c.at) (above b cs) ≡ true) ⊎ (s ≤ b)
reached_above b s [] h = absurd (let no : false ≡ true = h in cc)
reached_above b s (c ∷ cs) h = by_test (reached_above b s cs) (leb s c.at) refl (ltb b c.at) refl h
  where
    reaches : Commit → Bool
    reaches d = leb s d.at

    Reached : Type 0
    Reached = (list_any reaches (above b cs) ≡ true) ⊎ (s ≤ b)

    by_test : (list_any reaches cs ≡ true → Reached) → (x : Bool) → reaches c ≡ x → (y : Bool) → ltb b c.at ≡ y
        → (x || list_any reaches cs) ≡ true
        → (list_any reaches (cond y (c ∷ above b cs) (above b cs)) ≡ true) ⊎ (s ≤ b)
    by_test rest true is true up h = inl (ap (λ (z : Bool). z || list_any reaches (above b cs)) is)
    by_test rest true is false up h =
        let low = leb-false (suc b) c.at up in
        let high = leb-true s c.at is in
        inr (omega (arith, low, high))
    by_test rest false is true up h = elim (rest h) [
      | inl there ↦ inl (ap (λ (z : Bool). z || list_any reaches (above b cs)) is ∙ there)
      | inr le ↦ inr le
    ]
    by_test rest false is false up h = rest h
