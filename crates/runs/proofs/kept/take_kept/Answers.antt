use Rattle.std.proofs.Common.{◌++◌, ◌∷◌, [], ◌∙◌, ℕ, List, ap, arith}
use Rattle.std.proofs.lemmas.List.{map-append}
use Rattle.std.specs.Prelude.{string_bytes}
use Rattle.runs.specs.DeclaredTexts.{declared_by, texts_of}
use Rattle.runs.specs.declared.declared.DeclaredLine.{DeclaredLine}
use Rattle.runs.proofs.KeptLemmas.{kept_as_long, kept_longer}
use Rattle.runs.proofs.kept.take_kept.Goals as goal

pub returns-in_ok-push-clause-kept : goal.returns-in_ok-push-clause-kept
returns-in_ok-push-clause-kept c =
    let texts = texts_of c.args.declared.now.items in
    let grown = c.if-declared-before.true in
    let before = c.declared-before.ensures in
    let now = c.declared.ensures in
    ap (λ (ts : List (List ℕ)). declared_by [] ts)
    (ap texts_of c.in_ok-push.ensures.items
    ∙ map-append (λ (d : DeclaredLine). string_bytes d.text) c.args.declared.now.items (_ ∷ [])
    ∙ ap (λ (text : List ℕ). texts ++ text ∷ []) c.in_ok-text.ensures.ok)
    ∙ kept_longer c.in-Some.line c.args.log.now c.take.new.self c.args.text.now texts c.in_ok-take.ensures.answer c.requires.kept
    (omega (arith, grown, before, now))

pub returns-else-declared-before-clause-kept : goal.returns-else-declared-before-clause-kept
returns-else-declared-before-clause-kept c =
    let grown = c.if-declared-before.false in
    let before = c.declared-before.ensures in
    let now = c.declared.ensures in
    kept_as_long c.in-Some.line c.args.log.now c.take.new.self c.args.text.now (texts_of c.args.declared.now.items)
    c.in_ok-take.ensures.answer c.requires.kept (omega (arith, grown, before, now))
