-- A copy of the rules, declaration by declaration.
use Rattle.std.proofs.Common.{◌≡◌, ℕ, zero, suc, ◌+◌, ◌<◌, ◌≤◌, false, cond, List, [], ◌∷◌, ◌++◌, length, take, drop, get_or, refl, sym, ap, ◌∙◌, length-append, add-one, arith}
use Rattle.std.proofs.lemmas.List.{take-append-drop}
use Rattle.std.proofs.lemmas.List.Sums.{sum_by-append}
use Rattle.std.proofs.Math.Seq.{take-suc}
use Rattle.std.specs.Str.{bytes_eq}
use Rattle.std.specs.List.{AllByRecursion, list_any}
use Rattle.namespaces.specs.Declaration.{Declaration}
use Rattle.namespaces.specs.Lookup.{with_name, names_after, namespace_names}
use Rattle.namespaces.specs.Adding.{has_repeats}
use Rattle.namespaces.specs.Changing.{change_count}
use Rattle.namespaces.specs.WellFormed.{Continues, AreContinued, IsFit, IsWellFormed}
use Rattle.namespaces.specs.Shown.{show_line, show_lines}
use Rattle.namespaces.specs.declared.rules.Line.{Line}
use Rattle.rewrites.proofs.Names.{by_bool, or_false, list_any-append}

-- ---- the first declarations of a list that is well formed

more_names : (names : List (List ℕ)) (ds : List Declaration) → length names ≤ length (names_after names ds)
more_names names [] = omega arith
more_names names (d ∷ ds) =
    let later = more_names (with_name names d.name) ds in
    let first : length names ≤ length (with_name names d.name) = by_bool (list_any (bytes_eq d.name) names) (λ t. rw t (omega arith)) (λ f. rw (f, length-append names (d.name ∷ [])) (omega arith)) in
    omega arith

names_after-append : (names : List (List ℕ)) (ds es : List Declaration) → names_after names (ds ++ es) ≡ names_after (names_after names ds) es
names_after-append names [] es = refl
names_after-append names (d ∷ ds) es = names_after-append (with_name names d.name) ds es

once_before : (xs ys : List (List ℕ)) → has_repeats (xs ++ ys) ≡ false → has_repeats xs ≡ false
once_before [] ys h = refl
once_before (x ∷ xs) ys h =
    let parts = or_false (list_any (bytes_eq x) (xs ++ ys)) (has_repeats (xs ++ ys)) h in
    let none = or_false (list_any (bytes_eq x) xs) (list_any (bytes_eq x) ys) (rw (list_any-append (bytes_eq x) xs ys) at parts.0) in
    rw none.0 (once_before xs ys parts.1)

names_once_before : (names : List (List ℕ)) (ds : List Declaration) → has_repeats (names_after names ds) ≡ false → has_repeats names ≡ false
names_once_before names [] h = h
names_once_before names (d ∷ ds) h =
    let later = names_once_before (with_name names d.name) ds h in
    by_bool (list_any (bytes_eq d.name) names) (λ t. rw t at later) (λ f. once_before names (d.name ∷ []) (rw f at later))

each_before : (P : Declaration → Type 0) (ds es : List Declaration) → AllByRecursion P (ds ++ es) → AllByRecursion P ds
each_before P [] es all = tt
each_before P (d ∷ ds) es all = (all.0, each_before P ds es all.1)

continued_before : (ds es : List Declaration) → AreContinued (ds ++ es) → AreContinued ds
continued_before [] es all = tt
continued_before (d ∷ ds) es all = (each_before (λ e. d.name ≡ e.name → Continues d e) ds es all.0, continued_before ds es all.1)

well_before : (ds es : List Declaration) → IsWellFormed (ds ++ es) → IsWellFormed ds
well_before ds es w =
    let count : change_count (ds ++ es) ≡ change_count ds + change_count es = sum_by-append (λ (c : Declaration). cond c.is_change 1 0) ds es in
    let some : change_count (ds ++ es) ≤ 4096 = w.changes in
    let few = rw (names_after-append [] ds es) at w.namespaces in
    let more = more_names (namespace_names ds) es in
    record {
      namespaces = omega arith;
      distinct = names_once_before (namespace_names ds) es (rw (names_after-append [] ds es) at w.distinct);
      fit = each_before IsFit ds es w.fit;
      changes = omega arith;
      continued = continued_before ds es w.continued;
    }

show_lines-append : (ls ks : List Line) → show_lines (ls ++ ks) ≡ show_lines ls ++ show_lines ks
show_lines-append [] ks = refl
show_lines-append (l ∷ ls) ks = ap (λ ds. show_line l ∷ ds) (show_lines-append ls ks)

-- one line more of a list of lines
show_lines-next : (ls : List Line) (i : ℕ) (l : Line) → i < length ls → l ≡ get_or ls i l → show_lines (take (i + 1) ls) ≡ show_lines (take i ls) ++ show_line l ∷ []
show_lines-next ls i l within at = rw (add-one, take-suc ls i l within, ← at) (show_lines-append (take i ls) (l ∷ []))

-- each part of the lines, from the front on, is well formed
well_taken : (ls : List Line) (k : ℕ) → IsWellFormed (show_lines ls) → IsWellFormed (show_lines (take k ls))
well_taken ls k w =
    let parts : show_lines (take k ls) ++ show_lines (drop k ls) ≡ show_lines ls = sym (show_lines-append (take k ls) (drop k ls)) ∙ ap show_lines (take-append-drop k ls) in
    well_before (show_lines (take k ls)) (show_lines (drop k ls)) (rw parts w)

pub well_next : (ls : List Line) (i : ℕ) (l : Line) → i < length ls → l ≡ get_or ls i l → IsWellFormed (show_lines ls) → IsWellFormed (show_lines (take i ls) ++ show_line l ∷ [])
well_next ls i l within at w = rw (show_lines-next ls i l within at) at (well_taken ls (i + 1) w)

pub fit_line : (ls : List Line) (i : ℕ) (l : Line) → i < length ls → l ≡ get_or ls i l → AllByRecursion IsFit (show_lines ls) → IsFit (show_line l)
fit_line [] i l within at all = absurd (omega arith)
fit_line (k ∷ ls) zero l within at all = rw at all.0
fit_line (k ∷ ls) (suc i) l within at all = fit_line ls i l (omega arith) at all.1
