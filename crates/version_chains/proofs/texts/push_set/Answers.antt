use Rattle.std.proofs.Common.{◌≡◌, ◌++◌, List, ℕ, refl, ap, ◌∙◌, rules}
use Rattle.std.specs.Prelude.{string_bytes}
use Rattle.std.specs.Str.{IsUtf8}
use Rattle.std.proofs.lemmas.Str.{IsUtf8-had}
use Rattle.version_chains.proofs.TextLemmas.{goes_on-by, goes_on-further, goes_on-nowhere, set-pushed, span-pushed, utf8-behind}
use Rattle.version_chains.specs.Texts.{GoesOn}
use Rattle.version_chains.proofs.texts.push_set.Goals as goal

-- a part more
module _ (old new part : List ℕ) (is : new ≡ old ++ part) (front : IsUtf8 old) (whole : IsUtf8 new) where
  with_part : GoesOn old new
  with_part = goes_on-by old new part is (utf8-behind old new part is front whole)

joined : (old a b new n i r : List ℕ) → a ≡ old ++ n → b ≡ a ++ i → new ≡ b ++ r → new ≡ ((old ++ n) ++ i) ++ r
joined old a b new n i r one two three = three ∙ ap (λ (bs : List ℕ). bs ++ r) (two ∙ ap (λ (bs : List ℕ). bs ++ i) one)

pub returns-in_err-push_str-clause-goes_on : goal.returns-in_err-push_str-clause-goes_on
returns-in_err-push_str-clause-goes_on c = goes_on-nowhere _ _ c.in_err-push_str.ensures.bytes

pub returns-in_err-push_str-2-clause-goes_on : goal.returns-in_err-push_str-2-clause-goes_on
returns-in_err-push_str-2-clause-goes_on c =
    let one = with_part _ _ c.args.set.namespace.now c.in_ok-push_str.ensures.bytes (IsUtf8-had _ c.args.text.now.ok) (IsUtf8-had _ c.push_str.new.self.ok) in
    goes_on-further _ _ _ one (goes_on-nowhere _ _ c.in_err-push_str-2.ensures.bytes)

pub returns-in_err-push_str-3-clause-goes_on : goal.returns-in_err-push_str-3-clause-goes_on
returns-in_err-push_str-3-clause-goes_on c =
    let one = with_part _ _ c.args.set.namespace.now c.in_ok-push_str.ensures.bytes (IsUtf8-had _ c.args.text.now.ok) (IsUtf8-had _ c.push_str.new.self.ok) in
    let two = with_part _ _ c.args.set.id.now c.in_ok-push_str-2.ensures.bytes (IsUtf8-had _ c.push_str.new.self.ok) (IsUtf8-had _ c.push_str-2.new.self.ok) in
    goes_on-further _ _ _ one (goes_on-further _ _ _ two (goes_on-nowhere _ _ c.in_err-push_str-3.ensures.bytes))

pub returns : goal.returns
returns c =
    let set = c.args.set in
    let old = string_bytes c.args.text.now in
    let new = string_bytes c.push_str-3.new.self in
    let un = utf8-behind _ _ set.namespace.now c.in_ok-push_str.ensures.bytes (IsUtf8-had _ c.args.text.now.ok)
    (IsUtf8-had _ c.push_str.new.self.ok) in
    let ui = utf8-behind _ _ set.id.now c.in_ok-push_str-2.ensures.bytes (IsUtf8-had _ c.push_str.new.self.ok)
    (IsUtf8-had _ c.push_str-2.new.self.ok) in
    let ur = utf8-behind _ _ set.relation.now c.in_ok-push_str-3.ensures.bytes
    (IsUtf8-had _ c.push_str-2.new.self.ok) (IsUtf8-had _ c.push_str-3.new.self.ok) in
    let whole = joined _ _ _ _ set.namespace.now set.id.now set.relation.now c.in_ok-push_str.ensures.bytes
    c.in_ok-push_str-2.ensures.bytes c.in_ok-push_str-3.ensures.bytes in
    record {
      goes_on = goes_on-further _ _ _ (goes_on-by _ _ set.namespace.now c.in_ok-push_str.ensures.bytes un)
          (goes_on-further _ _ _ (goes_on-by _ _ set.id.now c.in_ok-push_str-2.ensures.bytes ui)
          (goes_on-by _ _ set.relation.now c.in_ok-push_str-3.ensures.bytes ur));
      span = span-pushed old set.namespace.now set.id.now set.relation.now new whole un ui ur _
          (search rules) refl refl refl;
      set = set-pushed old set.namespace.now set.id.now set.relation.now new whole un ui ur _
          (search rules) refl refl refl;
    }
