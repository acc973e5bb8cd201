-- What is told stands in each longer log.
use Rattle.std.proofs.Common.{◌≡◌, ℕ, suc, ◌+◌, ◌<◌, ◌⊎◌, ◌||◌, inl, inr, Bool, true, false, cond, leb, max, List, [], ◌∷◌, ◌++◌, length, Option, Some, None, refl, sym, ◌∙◌, ap, subst, arith}
use Rattle.std.specs.Prelude.{slice_get, option_map, All, Contains}
use Rattle.std.specs.List.{list_any}
use Rattle.std.proofs.lemmas.List.Elements.{All-nil, All-cons, All-append, All-weaker, Contains-append_left, Contains-append_right}
use Rattle.std.proofs.lemmas.Option.{slice_get_within}
use Rattle.version_chains.specs.Commits.{Commit}
use Rattle.trace_lines.specs.Values.{EntryValue, TraceValue}
use Rattle.token_order.specs.Order.{on_lines, commit_lines_of}
use Rattle.token_order.specs.Found.{open_snapshot, order_of}
use Rattle.token_order.specs.declared.findings.OrderFindings.{OrderFindings}
use Rattle.evidence_check.specs.Evidences.{steps_of}
use Rattle.evidence_check.specs.Judged.{judged}
use Rattle.evidence_check.specs.Steps.{StepValue}
use Rattle.findings.specs.Findings.{found_by, if_told, found_on_tokens, found_on, on_line, findings_from, findings_of}
use Rattle.findings.specs.declared.finding.Finding.{Finding}
use Rattle.findings.specs.declared.finding.What.{What}
use Rattle.findings.specs.declared.finding.What.TheVariants.{Stale, OldToken, NotLatest, OpenSnapshot, WrongToken, UnknownVersion}
use Rattle.follow_laws.specs.Begun.{Begins}
use Rattle.windows.specs.Growth.{IsSettled}
use Rattle.follow_laws.specs.Told.{line_reaching, settling_line, moments, at_moments, told_from, is_at, told_on}
use Rattle.windows.proofs.SettledLemmas.{opened_stays, same_judgement}
use Rattle.windows.proofs.GrownLemmas.{stands}

-- ---- each thing is left out, or the same

abbrev pub IsNoneOr : Option What → Option What → Type 0
IsNoneOr a b = (a ≡ None) ⊎ (a ≡ b)

abbrev pub AreSomeOf : List (Option What) → List (Option What) → Type 0
AreSomeOf [] ys = Unit {0}
AreSomeOf (a ∷ xs) [] = ⊥
AreSomeOf (a ∷ xs) (b ∷ ys) = IsNoneOr a b × AreSomeOf xs ys

pub either_way : (test : Bool) (o : Option What) → IsNoneOr (cond test o None) o
either_way true o = inr refl
either_way false o = inl refl

on_longer : (line : ℕ) (b : Option What) (ys : List (Option What)) (f : Finding) → Contains (on_line line ys) f
    → Contains (on_line line (b ∷ ys)) f
on_longer line None ys f h = h
on_longer line (Some what) ys f h = Contains-append_right (record { line = line; what = what } ∷ []) (on_line line ys) f h

pub some_of : (line : ℕ) (xs ys : List (Option What)) → AreSomeOf xs ys
    → All (Contains (on_line line ys)) (on_line line xs)
some_of line [] ys h = All-nil (Contains (on_line line ys))
some_of line (None ∷ xs) [] h = absurd h
some_of line (Some what ∷ xs) [] h = absurd h
some_of line (None ∷ xs) (b ∷ ys) h =
    All-weaker (Contains (on_line line ys)) (Contains (on_line line (b ∷ ys))) (on_longer line b ys) (on_line line xs)
    (some_of line xs ys h.1)
some_of line (Some what ∷ xs) (b ∷ ys) h =
    by_case h.0 (All-weaker (Contains (on_line line ys)) (Contains (on_line line (b ∷ ys))) (on_longer line b ys) (on_line
    line xs) (some_of line xs ys h.1))
  where
    by_case : IsNoneOr (Some what) b → All (Contains (on_line line (b ∷ ys))) (on_line line xs)
        → All (Contains (on_line line (b ∷ ys))) (record { line = line; what = what } ∷ on_line line xs)
    by_case (inl none) rest = absurd cc
    by_case (inr same) rest = All-cons (Contains (on_line line (b ∷ ys))) (record { line = line; what = what }) (on_line
        line xs) (subst (λ (o : Option What). Contains (on_line line (o ∷ ys)) (record { line = line; what = what })) same
        (0, omega arith, refl)) rest

-- ---- an entry that a commit reaches is settled

reached : (s : ℕ) (ls : List ℕ) (cs : List Commit) (l : ℕ) → line_reaching s (on_lines ls cs) ≡ Some l
    → list_any (λ c. leb s c.at) cs ≡ true
reached s [] cs l h = cc
reached s (m ∷ ls) [] l h = cc
reached s (m ∷ ls) (c ∷ cs) l h = by_test (reached s ls cs l) (leb s c.at) h
  where
    by_test : (line_reaching s (on_lines ls cs) ≡ Some l → list_any (λ c. leb s c.at) cs ≡ true) → (b : Bool)
        → cond b (Some m) (line_reaching s (on_lines ls cs)) ≡ Some l → (b || list_any (λ c. leb s c.at) cs) ≡ true
    by_test rest true h = refl
    by_test rest false h = rest h

pub settled_at : (t : TraceValue) (e : EntryValue) (m : ℕ) → settling_line t e ≡ Some m → IsSettled t e
settled_at t e m h = by_line (line_reaching e.snapshot (commit_lines_of t)) refl h
  where
    by_line : (o : Option ℕ) → line_reaching e.snapshot (commit_lines_of t) ≡ o → option_map (max e.line) o ≡ Some m
        → IsSettled t e
    by_line None is h = cc
    by_line (Some l) is h = reached e.snapshot t.commit_lines t.commits l is

-- ---- what is told of an entry

module _ {k : ℕ} (t u : TraceValue) (b : Begins k t u) (evidence more : List (Option (List StepValue))) (test : Option ℕ → Bool)
    (none_waits : test None ≡ false) where
  module _ (i : ℕ) (e : EntryValue) (at : slice_get t.entries i ≡ Some e) (same : steps_of more i ≡ steps_of evidence i)
    where
      abbrev old : OrderFindings
      old = order_of t i e

      opened_some : (o : Option ℕ) → open_snapshot t e ≡ o → IsNoneOr (cond (test o) (option_map OpenSnapshot o) None)
          (option_map OpenSnapshot (open_snapshot u e))
      opened_some None is = inl (ap (λ (x : Bool). cond x None None) none_waits)
      opened_some (Some l) is = subst (IsNoneOr (cond (test (Some l)) (Some (OpenSnapshot l)) None)) (sym (ap (option_map
          OpenSnapshot) (opened_stays t u b.goes b.first.rising b.whole.rising e l is))) (either_way (test (Some l)) (Some (OpenSnapshot l)))

      judged_some : (o : Option ℕ) → settling_line t e ≡ o → IsNoneOr (cond (test o) (found_by (judged t e (steps_of
          evidence i))) None) (found_by (judged u e (steps_of more i)))
      judged_some None is = inl (ap (λ (x : Bool). cond x (found_by (judged t e (steps_of evidence i))) None) none_waits)
      judged_some (Some m) is =
          let stays : judged u e (steps_of more i) ≡ judged t e (steps_of evidence i) =
          same_judgement t u b.goes b.first.rising b.whole.rising i e at (settled_at t e m is) (steps_of more i) ∙ ap (judged t e) same in
          subst (IsNoneOr (cond (test (Some m)) (found_by (judged t e (steps_of evidence i))) None)) (sym (ap found_by
          stays)) (either_way (test (Some m)) (found_by (judged t e (steps_of evidence i))))

      told_some : AreSomeOf (at_moments test (moments t e) (found_on t evidence i e)) (found_on u more i e)
      told_some =
          let own : Bool = test (Some e.line) in
          subst (λ (f : OrderFindings). AreSomeOf (at_moments test (moments t e) (found_on t evidence i e)) (found_on_tokens
          f ++ found_by (judged u e (steps_of more i)) ∷ [])) (sym ((stands t u b.goes b.first.rising.commits b.first.rising.entries).tokens i e at)) (
            either_way own (if_told Stale old.stale),
            (
              either_way own (option_map OldToken old.old_token),
              (
                either_way own (option_map NotLatest old.not_latest),
                (
                  opened_some (open_snapshot t e) refl,
                  (
                    either_way own (if_told WrongToken old.wrong_token),
                    (
                      either_way own (if_told UnknownVersion old.unknown_version),
                      (judged_some (settling_line t e) refl, tt),
                    ),
                  ),
                ),
              ),
            ),
          )

-- ---- what is told of some entries

told_among : (t u : TraceValue) (evidence more : List (Option (List StepValue))) (test : Option ℕ → Bool) (i : ℕ)
    (es rest : List EntryValue)
    → ((j : ℕ) (e : EntryValue) → slice_get es j ≡ Some e
    → AreSomeOf (at_moments test (moments t e) (found_on t evidence (i + j) e)) (found_on u more (i + j) e))
    → All (Contains (findings_from u more i (es ++ rest))) (told_from test t evidence i es)
told_among t u evidence more test i [] rest each = All-nil (Contains (findings_from u more i rest))
told_among t u evidence more test i (e ∷ es) rest each =
    All-append (Contains whole) told_here (told_from test t evidence (i + 1) es)
    (All-weaker (Contains here) (Contains whole) (Contains-append_left here behind) told_here (some_of e.line (at_moments
    test (moments t e) (found_on t evidence i e)) (found_on u more i e) (at_place (i + 0) i (omega arith) e (each 0 e
    refl))))
    (All-weaker (Contains behind) (Contains whole) (Contains-append_right here behind) (told_from test t evidence (i + 1)
    es) (told_among t u evidence more test (i + 1) es rest (λ j x at. at_place (i + suc j) (i + 1 + j) (omega arith) x
    (each (suc j) x at))))
  where
    here : List Finding
    here = on_line e.line (found_on u more i e)

    behind : List Finding
    behind = findings_from u more (i + 1) (es ++ rest)

    whole : List Finding
    whole = here ++ behind

    told_here : List Finding
    told_here = on_line e.line (at_moments test (moments t e) (found_on t evidence i e))

    at_place : (m n : ℕ) → m ≡ n → (x : EntryValue)
        → AreSomeOf (at_moments test (moments t x) (found_on t evidence m x)) (found_on u more m x)
        → AreSomeOf (at_moments test (moments t x) (found_on t evidence n x)) (found_on u more n x)
    at_place m n same x h = subst (λ (k : ℕ). AreSomeOf (at_moments test (moments t x) (found_on t evidence k x)) (found_on
        u more k x)) same h

pub told_law : (k : ℕ) (t u : TraceValue) → Begins k t u → (evidence more : List (Option (List StepValue)))
    → ((i : ℕ) → i < length t.entries → steps_of more i ≡ steps_of evidence i)
    → (j : ℕ) → All (Contains (findings_of u more)) (told_on t evidence j)
told_law l t u b evidence more same k =
    subst (λ (es : List EntryValue). All (Contains (findings_from u more 0 es)) (told_on t evidence k)) (sym
    b.goes.recorded)
    (told_among t u evidence more (is_at k) 0 t.entries b.goes.entries (λ j e at. at_first j (0 + j) (omega arith) e
    (told_some t u b evidence more (is_at k) refl j e at (same j (slice_get_within t.entries j e at)))))
  where
    at_first : (m n : ℕ) → m ≡ n → (x : EntryValue)
        → AreSomeOf (at_moments (is_at k) (moments t x) (found_on t evidence m x)) (found_on u more m x)
        → AreSomeOf (at_moments (is_at k) (moments t x) (found_on t evidence n x)) (found_on u more n x)
    at_first m n same x h = subst (λ (p : ℕ). AreSomeOf (at_moments (is_at k) (moments t x) (found_on t evidence p x))
        (found_on u more p x)) same h
