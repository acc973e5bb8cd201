use Rattle.std.proofs.Common.{◌≡◌, ◌∙◌, List, Some, length, ap, refl, subst, sym, arith}
use Rattle.std.specs.Prelude.{slice_get}
use Rattle.std.proofs.lemmas.Option.{slice_get_read}
use Rattle.userset_index.specs.Spans.{Bounds, marks_of}
use Rattle.userset_index.specs.declared.spans.Span.{Span}
use Rattle.userset_index.proofs.EndedLemmas.{bounded_tighter, lives_bounded}
use Rattle.userset_index.proofs.spans.tighten.Goals as goal

pub returns-clause-grown : goal.returns-clause-grown
returns-clause-grown c =
    let spans = c.args.spans.now.items in
    let s = c.index-span.result.now in
    let within = c.if-index-len.false in
    let there : slice_get spans c.args.index ≡ Some s = slice_get_read spans (length spans) c.args.index s refl (omega (arith, within, c.len.ensures)) c.index-span.ensures in
    let bound : Bounds spans c.args.index c.in-Some.last = subst (λ (ss : List Span). Bounds ss c.args.index c.in-Some.last) c.deref.ensures.value c.in-Some.ensures in
    record {
      linked = c.requires.linked ∙ ap marks_of (sym (lives_bounded spans c.args.index s (record s { last = c.in-Some.last }) there refl));
      bounded = bounded_tighter spans c.args.index c.in-Some.last s there c.requires.bounded bound;
    }

pub returns-clause-lives : goal.returns-clause-lives
returns-clause-lives c =
    let spans = c.args.spans.now.items in
    let s = c.index-span.result.now in
    let within = c.if-index-len.false in
    let there : slice_get spans c.args.index ≡ Some s = slice_get_read spans (length spans) c.args.index s refl (omega (arith, within, c.len.ensures)) c.index-span.ensures in
    lives_bounded spans c.args.index s (record s { last = c.in-Some.last }) there refl
