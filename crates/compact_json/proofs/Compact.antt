-- What is written with no space is read as what its JSON makes, and a text without escapes stands in it as it is.
use Rattle.std.proofs.Common.{◌≡◌, ℕ, ◌≤◌, List, [], ◌∷◌, ◌++◌, map, true, Some, option_and_then, refl, sym, ap, ◌∙◌, arith, append_assoc, append-nil}
use Rattle.std.specs.List.{list_all}
use Rattle.std.proofs.lemmas.Bool.Decides.{nat_tests}
use Rattle.std.proofs.lemmas.List.Sums.{AllPass-from_list_all}
use Rattle.json.specs.Json as json
use Rattle.json.specs.Lex.{tokens}
use Rattle.json.specs.Print.{escape, quoted}
use Rattle.json.specs.Tree.{json_tokens, depth, items_depth, HasNumbers, ItemsHaveNumbers}
use Rattle.json.proofs.Printed.Tokens.{tokens-print}
use Rattle.json.proofs.Printed.Plain.{escape_on_plain}
use Rattle.json.proofs.Printed.Trees.{value-json_tokens, ArePrintable-json_tokens}
use Rattle.serde_json.specs.Data.{Data, Items, string}
use Rattle.serde_json.specs.Read.{of_json, of_items, max_depth, read}
use Rattle.serde_json.specs.View.{items_of}
use Rattle.serde_json.specs.Written.{outline, items_outline, compact_text}
use Rattle.serde_json.proofs.Texts.{print-outline}
use Rattle.tuple_text.specs.Quoted.{IsSplit, is_plain_byte}

pub read_compact : (d e : Data) → HasNumbers (outline d) → depth (outline d) ≤ max_depth → of_json (outline d) ≡ Some e
    → read (compact_text d) ≡ Some e
read_compact d e numbers shallow makes =
    let j = outline d in
    let same = ap tokens (sym (print-outline d)) ∙ tokens-print (json_tokens j) (ArePrintable-json_tokens j numbers)
    ∙ sym (append-nil (json_tokens j)) in
    ap (λ r. option_and_then of_json (option_and_then (λ p. json.if_last p.0 p.1) r))
    (ap (json.value max_depth) same ∙ value-json_tokens j max_depth [] shallow)
    ∙ makes

pub quoted_then : (s rest : List ℕ) → escape s ≡ s → 34 ∷ (s ++ 34 ∷ rest) ≡ quoted s ++ rest
quoted_then s rest e = ap (λ l. 34 ∷ l) (ap (λ t. t ++ 34 ∷ rest) (sym e) ∙ sym (append_assoc (escape s) (34 ∷ []) rest))

plain_stands : (s : List ℕ) → list_all is_plain_byte s ≡ true → escape s ≡ s
plain_stands s all =
    escape_on_plain true s (λ k from to. let plain = AllPass-from_list_all is_plain_byte s all k 0 to in grind (arith, nat_tests, plain))

-- the same of what stands in JSON as it is
pub split_quoted : (text front rest : List ℕ) → IsSplit 34 text front rest → 34 ∷ text ≡ quoted front ++ rest
split_quoted text front rest s = ap (λ t. 34 ∷ t) s.parts ∙ quoted_then front rest (plain_stands front s.plain)

-- ---- lists of texts

module _ {X : Type 0} (text : X → List ℕ) where
  abbrev texts : List X → Items
  texts xs = items_of (map (λ x. string (text x)) xs)

  pub texts_have_numbers : (xs : List X) → ItemsHaveNumbers (items_outline (texts xs))
  texts_have_numbers [] = tt
  texts_have_numbers (x ∷ xs) = (tt, texts_have_numbers xs)

  pub texts_are_flat : (xs : List X) → items_depth (items_outline (texts xs)) ≤ 0
  texts_are_flat [] = omega arith
  texts_are_flat (x ∷ xs) = omega (arith, texts_are_flat xs)

  pub texts_make : (xs : List X) → of_items (items_outline (texts xs)) ≡ Some (texts xs)
  texts_make [] = refl
  texts_make (x ∷ xs) = rw (texts_make xs) refl
