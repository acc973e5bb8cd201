use Rattle.std.proofs.Common.{◌≡◌, List, ℕ, Option, Some, refl, subst}
use Rattle.std.specs.Prelude.{IfSome, string_bytes}
use Rattle.tuple_text.specs.Refs.{set_value}
use Rattle.tuple_text.specs.Sets.{SetValue}
use Rattle.version_chains.specs.Texts.{IsSpanOf}
use Rattle.version_chains.specs.declared.texts.Span.{Span}
use Rattle.version_chains.proofs.TextLemmas.{goes_on-nowhere}
use Rattle.version_chains.proofs.texts.place_set.Goals as goal

stands : (text : List ℕ) (s : SetValue) (known : Option Span) (p : Span) → known ≡ Some p → IfSome known (IsSpanOf text s) → IsSpanOf text s p
stands text s known p is = subst (λ (o : Option Span). IfSome o (IsSpanOf text s)) is

pub returns-in-Some : goal.returns-in-Some
returns-in-Some c =
    let text = string_bytes c.args.text.now in
    let of = stands text (set_value c.args.set) c.args.known c.in-Some.span c.in-Some.is c.requires.known in
    record { goes_on = goes_on-nowhere text text refl; span = of.is; set = of.set }
