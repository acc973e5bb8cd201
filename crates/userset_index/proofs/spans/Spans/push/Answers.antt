use Rattle.std.proofs.Common.{◌≡◌, ◌∙◌, ◌++◌, ◌∷◌, [], ℕ, List, ap, length, subst, sym}
use Rattle.std.proofs.lemmas.List.{map-append}
use Rattle.userset_index.specs.Spans.{AreBounded, IsBounded, life_of, lives_of, marks_of}
use Rattle.userset_index.specs.declared.life.Life.{Life}
use Rattle.userset_index.specs.declared.spans.Span.{Span}
use Rattle.userset_index.proofs.SpanLemmas.{more_bounded}
use Rattle.userset_index.proofs.spans.Spans.push.Goals as goal

-- what holds of these spans holds of the same ones
same_spans : (links : List ℕ) (old new : List Span) → new ≡ old → (links ≡ marks_of (lives_of old)) × AreBounded old
    → (links ≡ marks_of (lives_of new)) × AreBounded new
same_spans links old new same is = subst (λ (ss : List Span). (links ≡ marks_of (lives_of ss)) × AreBounded ss) (sym same) is

pub invariant_of-self : goal.invariant_of-self
invariant_of-self c = same_spans _ _ _ c.reserve.ensures.items c.self.invariant

pub invariant_of-self-in_err-reserve-2 : goal.invariant_of-self-in_err-reserve-2
invariant_of-self-in_err-reserve-2 c = same_spans _ _ _ c.reserve.ensures.items c.self.invariant

pub span_behind-rank-requires-clause-bounded : goal.span_behind-rank-requires-clause-bounded
span_behind-rank-requires-clause-bounded c =
    subst AreBounded (sym (c.deref.ensures.value ∙ c.reserve.ensures.items)) c.self.invariant.1

pub invariant_of-self-in_err-push : goal.invariant_of-self-in_err-push
invariant_of-self-in_err-push c =
    same_spans _ _ _ c.reserve.ensures.items (subst (λ (ms : List ℕ). (ms ≡ marks_of (lives_of c.self.inside.spans.items))
    × AreBounded c.self.inside.spans.items) (sym c.in_err-push.ensures.err) c.self.invariant)

-- with a life more
one_more : (links new_links : List ℕ) (old new : List Span) (s : Span) (life : Life)
    → (links ≡ marks_of (lives_of old)) × AreBounded old → life_of s ≡ life → new ≡ old ++ s ∷ []
    → new_links ≡ links ++ life.mark ∷ [] → IsBounded (lives_of old ++ life ∷ []) (length old) s
    → (new_links ≡ marks_of (lives_of new)) × AreBounded new
one_more links new_links old new s life is of items more bounded =
    let lives : lives_of (old ++ s ∷ []) ≡ lives_of old ++ life_of s ∷ [] = map-append life_of old (s ∷ []) in
    let marks : marks_of (lives_of old ++ life_of s ∷ []) ≡ marks_of (lives_of old) ++ s.mark ∷ [] = map-append (λ (l : Life). l.mark) (lives_of old) (life_of s ∷ []) in
    let same : life.mark ≡ s.mark = ap (λ (l : Life). l.mark) (sym of) in (
      more ∙ ap (λ (m : ℕ). links ++ m ∷ []) same ∙ ap (λ (ms : List ℕ). ms ++ s.mark ∷ []) is.0
          ∙ sym (ap marks_of (ap lives_of items ∙ lives) ∙ marks),
      subst AreBounded (sym items) (more_bounded old s is.1
          (subst (λ (l : Life). IsBounded (lives_of old ++ l ∷ []) (length old) s) (sym of) bounded)),
    )

pub invariant_of-self-2 : goal.invariant_of-self-2
invariant_of-self-2 c =
    let old = c.self.inside.spans.items in
    let read : c.deref.result.now ≡ old = c.deref.ensures.value ∙ c.reserve.ensures.items in
    let s = c.span_behind-rank.result.0 in
    one_more c.self.inside.links c.push.new.self old c.push_reserved-2.new.self.items s c.args.life c.self.invariant
    c.span_behind-rank.ensures.life
    (c.push_reserved-2.ensures.items ∙ ap (λ (ss : List Span). ss ++ s ∷ []) c.reserve.ensures.items)
    c.in_ok-push.ensures.ok
    (subst (λ (ss : List Span). IsBounded (lives_of ss ++ c.args.life ∷ []) (length ss) s) read c.span_behind-rank.ensures.bounded)
