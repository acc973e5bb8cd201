use Rattle.std.proofs.Common.{◌≡◌, ◌∙◌, ◌<◌, ◌⊎◌, inl, inr, ℕ, List, Option, None, Some, ap, subst, sym, nat_eq}
use Rattle.std.specs.Prelude.{slice_get}
use Rattle.std.specs.Bool.{then_some}
use Rattle.marks.specs.Placed.{last_place}
use Rattle.version_chains.proofs.ArenaLemmas.{item_of}
use Rattle.marks.proofs.PlacedLemmas.{read_item}
use Rattle.userset_index.specs.Lives.{is_alive}
use Rattle.userset_index.specs.Spans.{Steps, life_of, lives_of, marks_of}
use Rattle.userset_index.specs.declared.life.Life.{Life}
use Rattle.userset_index.specs.declared.spans.Span.{Span}
use Rattle.userset_index.specs.declared.spans.Step.{Step}
use Rattle.userset_index.proofs.SpanLemmas.{steps_on, steps_past}
use Rattle.userset_index.proofs.spans.Spans.step.Goals.{then-at-span-via-then-at-span, then-at-span-via-else-at-span+then-span-at}
use Rattle.userset_index.proofs.spans.Spans.step.Goals as goal

-- a step is that of the life that stands in its span
seen : (items : List Span) (lives : List Life) (i at : ℕ) (s : Span) (l : Life) (step : Step) → lives_of items ≡ lives → slice_get items i ≡ Some s → slice_get lives i ≡ Some l
    → Steps s.mark at (lives_of items) i step → Steps l.mark at lives i step
seen items lives i at s l step view read here steps =
    let same : Some (life_of s) ≡ Some l = sym (item_of life_of items i s read) ∙ ap (λ (ls : List Life). slice_get ls i) view ∙ here in
    let life : life_of s ≡ l = cc in
    subst (λ (x : Life). Steps x.mark at lives i step) life (subst (λ (ls : List Life). Steps s.mark at ls i step) view steps)

pub returns-then-at-span : goal.returns-then-at-span
returns-then-at-span c l here =
    let span = c.in-Some.span.now in
    let items = c.self.inside.spans.items in
    let read = read_item items c.deref.result.now c.args.index span c.deref.ensures.value c.in-Some.ensures.lookup.3.0 c.in-Some.ensures.lookup.1 in
    let out : (c.args.at < span.first) ⊎ (span.last < c.args.at) = elim c.then-at-span.branch [
      | then-at-span-via-then-at-span w ↦ inl w.if-at-span.true
      | then-at-span-via-else-at-span+then-span-at w ↦ inr w.if-span-at.true
    ] in
    seen items c.args.self.now c.args.index c.args.at span l (record { place = span.jump; found = None }) c.self.view_is read here
    (steps_past (lives_of items) c.args.index span c.args.at (c.self.invariant.1 c.args.index span read) out)

pub returns : goal.returns
returns c l here =
    let span = c.in-Some.span.now in
    let items = c.self.inside.spans.items in
    let read = read_item items c.deref.result.now c.args.index span c.deref.ensures.value c.in-Some.ensures.lookup.3.0 c.in-Some.ensures.lookup.1 in
    let life = item_of life_of items c.args.index span read in
    let older : c.older.result ≡ last_place (nat_eq span.mark) (marks_of (lives_of items)) c.args.index =
    c.older.ensures span.mark (ap (λ (ms : List ℕ). slice_get ms c.args.index) c.self.invariant.0 ∙ item_of (λ (l : Life). l.mark) (lives_of items) c.args.index (life_of span) life)
    ∙ ap (λ (ms : List ℕ). last_place (nat_eq span.mark) ms c.args.index) c.self.invariant.0 in
    let found : c.then_some.result ≡ then_some (is_alive c.args.at (life_of span)) span.touch =
    c.then_some.ensures ∙ ap (λ b. then_some b span.touch) c.is_alive.ensures in
    seen items c.args.self.now c.args.index c.args.at span l (record { place = c.older.result; found = c.then_some.result }) c.self.view_is read here
    (subst (λ (o : Option ℕ). Steps span.mark c.args.at (lives_of items) c.args.index (record { place = c.older.result; found = o })) (sym found)
    (steps_on (lives_of items) c.args.index (life_of span) c.args.at c.older.result life older))
