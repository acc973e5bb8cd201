-- A log that goes on twice.
use Rattle.std.proofs.Common.{◌≡◌, ℕ, ◌<◌, ◌≤◌, ◌||◌, not, Bool, true, false, eqb, List, ◌++◌, length, map, refl, sym, ◌∙◌, ap, subst, arith, append_assoc, length-append}
use Rattle.std.specs.Prelude.{Contains}
use Rattle.std.proofs.Math.Bool.{or-true}
use Rattle.std.proofs.lemmas.Bool.{eqb-false, ne_eqb}
use Rattle.std.proofs.lemmas.List.{map-append}
use Rattle.std.proofs.lemmas.List.Elements.{All-append, All-weaker, Contains-append_left, Contains-append_right}
use Rattle.namespaces.specs.Declaration.{Declaration}
use Rattle.version_chains.specs.Commits.{Commit}
use Rattle.trace_lines.specs.Traces.{is_begun}
use Rattle.trace_lines.specs.Values.{EntryValue, TraceValue}
use Rattle.windows.specs.Growth.{GoesOn}

still_some : {X : Type 0} (xs ys : List X) → eqb (length xs) 0 ≡ false → eqb (length (xs ++ ys)) 0 ≡ false
still_some xs ys some =
    let long = length-append xs ys in
    let other = eqb-false (length xs) 0 some in
    ne_eqb (length (xs ++ ys)) 0 (λ none. other (omega (arith, long, none)))

module _ {n m : ℕ} (t u v : TraceValue) (le : n ≤ m) (a : GoesOn n t u) (b : GoesOn m u v) where
  begun_still : is_begun t ≡ true → is_begun u ≡ true
  begun_still begun = by_tests (eqb (length t.commit_lines) 0) refl (eqb (length t.entries) 0) refl begun
    where
      by_tests : (x : Bool) → eqb (length t.commit_lines) 0 ≡ x → (y : Bool) → eqb (length t.entries) 0 ≡ y
          → (not x || not y) ≡ true → is_begun u ≡ true
      by_tests false some y also begun =
          let lines = ap (λ (ls : List ℕ). eqb (length ls) 0) a.on_lines ∙ still_some t.commit_lines a.commit_lines some in
          ap (λ (z : Bool). not z || not (eqb (length u.entries) 0)) lines
      by_tests true none false some begun =
          let entries = ap (λ (es : List EntryValue). eqb (length es) 0) a.recorded ∙ still_some t.entries a.entries some in
          ap (λ (z : Bool). not (eqb (length u.commit_lines) 0) || not z) entries ∙ or-true (not (eqb (length u.commit_lines) 0))
      by_tests true none true also begun = absurd (let no : false ≡ true = begun in cc)

  abbrev times : List Commit → List ℕ
  times cs = map (λ (c : Commit). c.at) cs

  abbrev IsTimed : List Commit → Declaration → Type 0
  IsTimed cs d = Contains (times cs) d.at

  timed_first : (d : Declaration) → IsTimed a.commits d → IsTimed (a.commits ++ b.commits) d
  timed_first d h = subst (λ (ts : List ℕ). Contains ts d.at) (sym (map-append (λ (c : Commit). c.at) a.commits b.commits))
      (Contains-append_left (times a.commits) (times b.commits) d.at h)

  timed_later : (d : Declaration) → IsTimed b.commits d → IsTimed (a.commits ++ b.commits) d
  timed_later d h = subst (λ (ts : List ℕ). Contains ts d.at) (sym (map-append (λ (c : Commit). c.at) a.commits b.commits))
      (Contains-append_right (times a.commits) (times b.commits) d.at h)

  pub goes_twice : GoesOn n t v
  goes_twice = record {
    declarations = a.declarations ++ b.declarations;
    commits = a.commits ++ b.commits;
    commit_lines = a.commit_lines ++ b.commit_lines;
    entries = a.entries ++ b.entries;
    declared = b.declared ∙ ap (λ (ds : List Declaration). ds ++ b.declarations) a.declared
        ∙ append_assoc t.declarations a.declarations b.declarations;
    committed = b.committed ∙ ap (λ (cs : List Commit). cs ++ b.commits) a.committed
        ∙ append_assoc t.commits a.commits b.commits;
    on_lines = b.on_lines ∙ ap (λ (ls : List ℕ). ls ++ b.commit_lines) a.on_lines
        ∙ append_assoc t.commit_lines a.commit_lines b.commit_lines;
    recorded = b.recorded ∙ ap (λ (es : List EntryValue). es ++ b.entries) a.recorded
        ∙ append_assoc t.entries a.entries b.entries;
    within = a.within;
    commits_behind = All-append (λ (l : ℕ). n < l) a.commit_lines b.commit_lines a.commits_behind
        (All-weaker (λ (l : ℕ). m < l) (λ (l : ℕ). n < l) (λ l lt. omega (arith, le, lt)) b.commit_lines b.commits_behind);
    entries_behind = All-append (λ (e : EntryValue). n < e.line) a.entries b.entries a.entries_behind
        (All-weaker (λ (e : EntryValue). m < e.line) (λ (e : EntryValue). n < e.line) (λ e lt. omega (arith, le, lt)) b.entries
        b.entries_behind);
    changes = λ begun. All-append (IsTimed (a.commits ++ b.commits)) a.declarations b.declarations
        (All-weaker (IsTimed a.commits) (IsTimed (a.commits ++ b.commits)) timed_first a.declarations (a.changes begun))
        (All-weaker (IsTimed b.commits) (IsTimed (a.commits ++ b.commits)) timed_later b.declarations (b.changes (begun_still begun)));
  }
