-- What a cover of parts says of them.
use Rattle.std.proofs.Common.{◌≡◌, ℕ, zero, suc, List, [], ◌∷◌, ◌++◌, ◌∙◌, inl, inr, Bool, true, false, not, refl, sym, ap, subst, length, map, arith, true≢false, String, Global}
use Rattle.std.proofs.lemmas.List.Elements.{Contains-append_cases}
use Rattle.std.specs.Prelude.{Contains, string_bytes}
use Rattle.std.specs.declared.vec.Vec.{Vec}
use Rattle.rewrites.specs.Alike.{Leaves}
use Rattle.rewrites.specs.Expression.{Expression, tuple_to, union, children}
use Rattle.rewrites.specs.Parts.{computed_names, part_at, through_expression}
use Rattle.rewrites.specs.declared.parts.Through.{Through}
use Rattle.strata.proofs.Lists.{Contains-cons_cases}
use Rattle.marks.proofs.PlacedLemmas.{slice_get-cases}
use Rattle.wide_rules.specs.Asked.{AreCovers, AreCoversByPart, IsCoveredBy, Questions, does, joined_of}
use Rattle.wide_rules.proofs.AskedLemmas.{goes_on, joined_none, joined_step, joined_stops, union_joins}

apart : (g : Bool) → g ≡ not g → ⊥
apart true h = true≢false h
apart false h = true≢false (sym h)

is_not : (b g : Bool) → ¬ (b ≡ g) → b ≡ not g
is_not true true other = absurd (other refl)
is_not true false other = refl
is_not false true other = refl
is_not false false other = absurd (other refl)

-- where a union has no answer that helps, none of its children has
pub child_covered : (es : List Expression) (e : Expression) → Contains es e → IsCoveredBy e (union (children es))
child_covered es e there l g none =
    is_not (does l g e) g (λ is. apart g (sym (joined_stops l g g es e there is) ∙ (ap (does l g) (union_joins g es) ∙ none)))

module _ (q : List ℕ) where
  abbrev each : List (String Global × Unit {0}) → List Expression
  each es = map (λ e. tuple_to q (string_bytes e.0)) es

  abbrev names : List (String Global × Unit {0}) → List (List ℕ)
  names es = map (λ e. string_bytes e.0) es

  named_there : (es : List (String Global × Unit {0})) (c : List ℕ) → Contains (names es) c → Contains (each es) (tuple_to q c)
  named_there [] c (k, within, is) = absurd (omega arith)
  named_there (e ∷ es) c (zero, within, is) = (0, omega arith, ap (tuple_to q) is)
  named_there (e ∷ es) c (suc k, within, is) = let w = named_there es c (k, omega (arith, within), is) in (suc w.0, omega (arith, w.1), w.2)

  none_of : (l : Leaves) (g : Bool) (es : List (String Global × Unit {0}))
      → ((c : List ℕ) → Contains (names es) c → does l g (tuple_to q c) ≡ not g) → does l g (joined_of g g (each es)) ≡ not g
  none_of l g [] h = joined_none l g g
  none_of l g (e ∷ es) h =
      let first : does l g (tuple_to q (string_bytes e.0)) ≡ not g = h (string_bytes e.0) (0, omega arith, refl) in
      joined_step l g g (tuple_to q (string_bytes e.0)) (each es)
      ∙ goes_on g (does l g (tuple_to q (string_bytes e.0))) (does l g (joined_of g g (each es))) (λ is. apart g (sym is ∙ first))
      ∙ none_of l g es (λ c there. h c (suc there.0, omega (arith, there.1), there.2))

  names_covered : (fs es : List (String Global × Unit {0})) → ((c : List ℕ) → Contains (names fs) c → Contains (names es) c)
      → IsCoveredBy (union (children (each fs))) (union (children (each es)))
  names_covered fs es within l g none =
      sym (ap (does l g) (union_joins g (each fs)))
      ∙ none_of l g fs (λ c there. child_covered (each es) (tuple_to q c) (named_there es c (within c there)) l g none)

-- a relation that is read through a tupleset
pub leaf_covered : (t : Through) (q c : List ℕ) → string_bytes t.tupleset ≡ q → Contains (computed_names t) c
    → IsCoveredBy (tuple_to q c) (through_expression t)
leaf_covered t q c same there =
    rw (← same) (child_covered (each (string_bytes t.tupleset) t.computed.entries) (tuple_to (string_bytes t.tupleset) c)
    (named_there (string_bytes t.tupleset) t.computed.entries c there))

-- several
pub through_covered : (t part : Through) → string_bytes t.tupleset ≡ string_bytes part.tupleset
    → ((c : List ℕ) → Contains (computed_names part) c → Contains (computed_names t) c) → IsCoveredBy (through_expression part) (through_expression t)
through_covered t part same within =
    subst (λ q. IsCoveredBy (union (children (each q part.computed.entries))) (union (children (each (string_bytes t.tupleset) t.computed.entries)))) same
    (names_covered (string_bytes t.tupleset) part.computed.entries t.computed.entries within)

-- ---- numbers of covers

pub one_cover_more : (covers : List Expression) (e : Expression) (numbers : List ℕ) (n : ℕ) → AreCovers covers e numbers
    → IsCoveredBy e (part_at covers n) → AreCovers covers e (numbers ++ n ∷ [])
one_cover_more covers e numbers n are is k there =
    elim (Contains-append_cases numbers (n ∷ []) k there) [
      | inl before ↦ are k before
      | inr last ↦ elim (Contains-cons_cases n [] k last) [
        | inl same ↦ subst (λ m. IsCoveredBy e (part_at covers m)) same is
        | inr none ↦ absurd (omega (arith, none.1))
      ]
    ]

pub covers_by_part_more : (q : Questions) (each : List (Vec ℕ Global)) (one : Vec ℕ Global) → AreCoversByPart q each
    → AreCovers q.covers (part_at q.parts (length each)) one.items → AreCoversByPart q (each ++ one ∷ [])
covers_by_part_more q each one are is k o at =
    elim (slice_get-cases each one k o at) [
      | inl before ↦ are k o before
      | inr last ↦
          subst (λ n. AreCovers q.covers (part_at q.parts n) o.items) (sym last.0)
          (subst (λ (v : Vec ℕ Global). AreCovers q.covers (part_at q.parts (length each)) v.items) last.1 is)
    ]
