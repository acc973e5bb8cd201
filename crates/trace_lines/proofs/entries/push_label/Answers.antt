use Rattle.std.proofs.Common.{◌≡◌, ◌++◌, List, ℕ, [], refl, sym, ◌∙◌, rules}
use Rattle.std.specs.Prelude.{string_bytes}
use Rattle.std.proofs.lemmas.List.{append-nil}
use Rattle.std.proofs.lemmas.Str.{IsUtf8-had, IsUtf8-nil}
use Rattle.version_chains.proofs.TextLemmas.{goes_on-nowhere, span-pushed, utf8-behind}
use Rattle.trace_lines.proofs.entries.push_label.Goals as goal

pub returns-in_err-push_str-clause-goes_on : goal.returns-in_err-push_str-clause-goes_on
returns-in_err-push_str-clause-goes_on c = goes_on-nowhere _ _ c.in_err-push_str.ensures.bytes

-- a part alone, as the first of three
alone : (old new part : List ℕ) → new ≡ old ++ part → new ≡ ((old ++ part) ++ []) ++ []
alone old new part is = is ∙ sym (append-nil (old ++ part)) ∙ sym (append-nil ((old ++ part) ++ []))

pub returns-clause-span : goal.returns-clause-span
returns-clause-span c _ =
    let label = c.in-Some.label.now in
    let utf8 = utf8-behind _ _ label c.in_ok-push_str.ensures.bytes (IsUtf8-had _ c.args.text.now.ok) (IsUtf8-had _ c.push_str.new.self.ok) in
    span-pushed (string_bytes c.args.text.now) label [] [] (string_bytes c.push_str.new.self) (alone _ _ label c.in_ok-push_str.ensures.bytes)
    utf8 IsUtf8-nil IsUtf8-nil _ (search rules) (search rules) refl refl
