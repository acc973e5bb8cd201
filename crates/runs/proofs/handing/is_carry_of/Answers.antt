use Rattle.std.proofs.Common.{◌≡◌, ◌∙◌, [], ℕ, List, ap, arith, subst, sym}
use Rattle.std.proofs.lemmas.Bool.{leb-true}
use Rattle.carry_laws.specs.Carried.{StandsIn}
use Rattle.trace_lines.specs.Values.{TraceValue}
use Rattle.carry.specs.Values.{carry_value, item_values}
use Rattle.carry.specs.declared.value.Item.{Item}
use Rattle.runs.specs.DeclaredTexts.{declared_by, declared_in}
use Rattle.runs.specs.Handed.{known_by}
use Rattle.runs.proofs.DeclaredLemmas.{begun_declares}
use Rattle.runs.proofs.handing.is_carry_of.Goals as goal

pub stands_in_from-requires : goal.stands_in_from-requires
stands_in_from-requires c =
    ap (λ (t : TraceValue). t.declarations) c.finish-begun.ensures
    ∙ begun_declares (carry_value c.args.carry.now) c.in-Ok.begun c.args.log.now.declarations c.in-Ok.ensures.begun
    (ap (λ (ts : List (List ℕ)). declared_by [] ts)
    (ap (λ (is : List Item). declared_in (item_values is)) (sym c.deref.ensures.value)
    ∙ c.are_declaring.ensures c.if-not-are_declaring.false)
    ∙ c.requires)

pub returns-in-Some : goal.returns-in-Some
returns-in-Some c holds =
    let same : c.finish-begun.result ≡ c.in-Ok.begun = c.finish-begun.ensures in
    let low = leb-true c.saturating_sub.result c.args.carry.now.lines holds in
    let less = c.saturating_sub.ensures in
    record {
      log = c.in-Ok.begun;
      begun = c.in-Ok.ensures.begun;
      first = c.in-Some.first;
      stands = subst (λ (t : TraceValue). StandsIn (known_by (carry_value c.args.carry.now)) c.in-Some.first c.args.log.now t) same c.in-Some.ensures;
      behind = omega (arith, low, less);
    }
