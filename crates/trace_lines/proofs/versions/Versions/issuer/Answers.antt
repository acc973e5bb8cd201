use Rattle.std.proofs.Common.{ℕ, length, ap, ◌∙◌, sym, rules}
use Rattle.marks.specs.Placed.{indices_of}
use Rattle.trace_lines.specs.Issued.{version_value}
use Rattle.trace_lines.proofs.IssuerWalk.{issuer_start, issuer_nowhere, issuer_within, issuer_entry, issuer_behind, issuer_found}
use Rattle.trace_lines.proofs.versions.Versions.issuer.Goals as goal

pub loop-index-init : goal.loop-index-init
loop-index-init c =
    let marks = c.args.self.now.marks in
    issuer_start c.args.recorded.now c.args.self.now c.requires (version_value c.args.version)
    _ (c.into_iter-index-iterator.ensures.into_iter_gives ∙ c.with-index-items.ensures ∙ ap (λ (m : ℕ). indices_of m marks (length marks)) c.args.version.is_its_mark)

pub index-number-requires : goal.index-number-requires
index-number-requires c =
    let within = issuer_within c.args.recorded.now c.args.self.now c.requires (version_value c.args.version) c.loop-index.index-iterator c.in-Some.index _ c.in-Some.ensures.steps c.loop-index.invariant in
    search rules

pub has_version-requires : goal.has_version-requires
has_version-requires c =
    issuer_entry c.args.recorded.now c.args.self.now c.requires (version_value c.args.version) c.loop-index.index-iterator c.in-Some.index _ c.in-Some.ensures.steps c.loop-index.invariant
    c.index-number.result.now c.index-number.ensures

pub loop-index-preserved : goal.loop-index-preserved
loop-index-preserved c =
    issuer_behind c.args.recorded.now c.args.self.now c.requires (version_value c.args.version) c.loop-index.index-iterator c.in-Some.index _ c.in-Some.ensures.steps c.loop-index.invariant
    c.index-number.result.now c.index-number.ensures c.has_version.result c.has_version.ensures c.if-has_version.false

pub returns-then-has_version : goal.returns-then-has_version
returns-then-has_version c =
    sym (issuer_found c.args.recorded.now c.args.self.now c.requires (version_value c.args.version) c.loop-index.index-iterator c.in-Some.index _ c.in-Some.ensures.steps c.loop-index.invariant
    c.index-number.result.now c.index-number.ensures c.has_version.result c.has_version.ensures c.if-has_version.true)

pub returns : goal.returns
returns c = sym (issuer_nowhere c.args.recorded.now c.args.self.now c.requires (version_value c.args.version) c.loop-index.index-iterator c.in-None.ensures.steps.0 c.loop-index.invariant)
