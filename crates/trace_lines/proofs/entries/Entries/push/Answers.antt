use Rattle.std.proofs.Common.{◌++◌, ◌∷◌, [], List, ap, ◌∙◌, map, subst, sym}
use Rattle.std.specs.Prelude.{string_bytes}
use Rattle.version_chains.proofs.KeptLemmas.{on_err}
use Rattle.trace_lines.specs.KeptEntries.{AreEntriesIn, recorded_in}
use Rattle.trace_lines.specs.Recorded.{Recorded}
use Rattle.trace_lines.specs.declared.entries.KeptEntry.{KeptEntry}
use Rattle.trace_lines.proofs.EntryLemmas.{all-recorded, entries-kept, entries-more, recorded-more}
use Rattle.trace_lines.proofs.entries.Entries.push.Goals as goal

pub invariant_of-self : goal.invariant_of-self
invariant_of-self c = entries-kept _ _ c.push_texts.ensures.goes_on c.self.inside.kept.items c.self.invariant

pub returns-in_err-kept-clause-err : goal.returns-in_err-kept-clause-err
returns-in_err-kept-clause-err c =
    on_err _ (all-recorded _ _ c.push_texts.ensures.goes_on c.self.inside.kept.items c.self.invariant ∙ c.self.view_is)

pub invariant_of-self-in_err-push : goal.invariant_of-self-in_err-push
invariant_of-self-in_err-push c =
    subst (AreEntriesIn (string_bytes c.push_texts.new.text)) (sym c.in_err-push.ensures.items)
    (entries-kept _ _ c.push_texts.ensures.goes_on c.self.inside.kept.items c.self.invariant)

pub returns-in_err-push-clause-err : goal.returns-in_err-push-clause-err
returns-in_err-push-clause-err c =
    on_err _ (
    ap (λ (ks : List KeptEntry). map (recorded_in (string_bytes c.push_texts.new.text)) ks) c.in_err-push.ensures.items
    ∙ all-recorded _ _ c.push_texts.ensures.goes_on c.self.inside.kept.items c.self.invariant
    ∙ c.self.view_is
    )

pub invariant_of-self-2 : goal.invariant_of-self-2
invariant_of-self-2 c =
    entries-more (string_bytes c.push_texts.new.text) c.self.inside.kept.items c.push.new.self.items c.in_ok-kept.kept c.in_ok-push.ensures.items
    (entries-kept _ _ c.push_texts.ensures.goes_on c.self.inside.kept.items c.self.invariant) c.in_ok-kept.ensures.is

pub returns-clause-ok : goal.returns-clause-ok
returns-clause-ok c =
    recorded-more (string_bytes c.push_texts.new.text) c.self.inside.kept.items c.push.new.self.items c.in_ok-kept.kept c.in_ok-push.ensures.items
    ∙ ap (λ (rs : List Recorded). rs ++ recorded_in (string_bytes c.push_texts.new.text) c.in_ok-kept.kept ∷ [])
    (all-recorded _ _ c.push_texts.ensures.goes_on c.self.inside.kept.items c.self.invariant ∙ c.self.view_is)
    ∙ ap (λ (r : Recorded). c.args.self.now ++ r ∷ []) c.in_ok-kept.ensures.kept
