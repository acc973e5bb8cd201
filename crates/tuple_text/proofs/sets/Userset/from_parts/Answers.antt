use Rattle.std.proofs.Common.{◌≡◌, ◌++◌, List, ℕ, sym, ap, subst, ◌∙◌}
use Rattle.std.specs.Prelude.{string_bytes}
use Rattle.std.specs.Str.{IsUtf8}
use Rattle.std.proofs.lemmas.Str.{IsUtf8-had}
use Rattle.tuple_text.specs.Forms.{IsUserset}
use Rattle.tuple_text.proofs.JoinedLemmas.{joined_parts, joined_split}
use Rattle.tuple_text.proofs.sets.Userset.from_parts.Goals as goal

pub invariant_of-result : goal.invariant_of-result
invariant_of-result c =
    let n = c.args.set.namespace.now in
    let i = c.args.set.id.now in
    let r = c.args.set.relation.now in
    let one : string_bytes c.push_str.new.self ≡ n = c.in_ok-push_str.ensures.bytes ∙ ap (λ (bs : List ℕ). bs ++ n) c.in_ok-text.ensures.bytes in
    let two : string_bytes c.push_str-2.new.self ≡ n ++ i = c.in_ok-push_str-2.ensures.bytes ∙ ap (λ (bs : List ℕ). bs ++ i) one in
    let all : string_bytes c.push_str-3.new.self ≡ (n ++ i) ++ r = c.in_ok-push_str-3.ensures.bytes ∙ ap (λ (bs : List ℕ). bs ++ r) two in (
      subst IsUserset (sym (joined_parts n i r (string_bytes c.push_str-3.new.self) all)) c.requires,
      joined_split n i r (string_bytes c.push_str-3.new.self) all
          (subst IsUtf8 one (IsUtf8-had _ c.push_str.new.self.ok)) (subst IsUtf8 two (IsUtf8-had _ c.push_str-2.new.self.ok)) (IsUtf8-had _ c.push_str-3.new.self.ok),
    )
