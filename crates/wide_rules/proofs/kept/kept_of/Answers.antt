use Rattle.std.proofs.Common.{◌≡◌, ◌∙◌, refl, subst, string_bytes, sym}
use Rattle.tuple_text.specs.Refs.{set_value}
use Rattle.tuple_text.specs.Sets.{SetValue}
use Rattle.rewrites.specs.Parts.{computed_names}
use Rattle.strata.specs.Meaning.{with_relation}
use Rattle.wide_rules.specs.Kept.{AreLive}
use Rattle.wide_rules.proofs.kept.kept_of.Goals as goal

pub returns : goal.returns
returns c =
    let t = c.args.through.now in
    let wanted = with_relation (set_value c.args.set) (string_bytes t.tupleset) in
    let same : record { namespace = string_bytes c.in_ok-from_str.field-0; id = string_bytes c.in_ok-from_str-2.field-0; relation = string_bytes t.tupleset } ≡ wanted =
    rw (c.in_ok-from_str.ensures.ok, c.in_ok-from_str-2.ensures.ok) refl in (
      record {
        declaring = c.requires;
        numbers = rw c.deref-2.ensures.value at c.numbers_of-numbers.ensures;
        live = subst (λ (x : SetValue). AreLive c.args.snapshot.now x (computed_names t) c.in_ok-live.live.items) (c.tupleset_of-tupleset.ensures ∙ sym same) c.in_ok-live.ensures;
      },
      refl,
      same,
    )
