use Rattle.std.proofs.Common.{◌≡◌, ◌∙◌, ℕ, Some, length, min, refl, ap, subst, sym, arith, rules}
use Rattle.std.specs.Prelude.{slice_get, slice_set}
use Rattle.std.proofs.lemmas.List.{length-map}
use Rattle.std.proofs.lemmas.Option.{slice_get_read}
use Rattle.userset_index.specs.Spans.{AreBounded, life_of, lives_of}
use Rattle.userset_index.proofs.EndedLemmas.{bounded_shorter, ended_past, lives_set}
use Rattle.userset_index.proofs.spans.shorten.Goals as goal

pub returns-then-index-len-clause-lives : goal.returns-then-index-len-clause-lives
returns-then-index-len-clause-lives c =
    let spans = c.args.spans.now.items in
    let s = c.index-span.result.now in
    let within = c.if-index-len.true in
    let there : slice_get spans c.args.index ≡ Some s = slice_get_read spans (length spans) c.args.index s refl (omega (arith, within, c.len.ensures)) c.index-span.ensures in
    let by : c.min.result ≡ min s.until c.args.until = search rules in
    ap (λ (u : ℕ). lives_of (slice_set spans c.args.index (record s { until = u }))) by ∙ lives_set spans c.args.index c.args.until s there

pub returns-then-index-len-clause-bounded : goal.returns-then-index-len-clause-bounded
returns-then-index-len-clause-bounded c are =
    let spans = c.args.spans.now.items in
    let s = c.index-span.result.now in
    let within = c.if-index-len.true in
    let there : slice_get spans c.args.index ≡ Some s = slice_get_read spans (length spans) c.args.index s refl (omega (arith, within, c.len.ensures)) c.index-span.ensures in
    let by : c.min.result ≡ min s.until c.args.until = search rules in
    subst (λ (u : ℕ). AreBounded (slice_set spans c.args.index (record s { until = u }))) (sym by)
    (bounded_shorter spans c.args.index c.args.until s there are)

pub returns-else-index-len-clause-lives : goal.returns-else-index-len-clause-lives
returns-else-index-len-clause-lives c =
    let spans = c.args.spans.now.items in
    let past = c.if-index-len.false in
    let same = length-map spans life_of in
    sym (ended_past c.args.index c.args.until (lives_of spans) (omega (arith, past, c.len.ensures, same)))
