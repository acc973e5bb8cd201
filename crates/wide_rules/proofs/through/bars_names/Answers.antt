use Rattle.std.proofs.Common.{Some, ◌∙◌, sym, refl, inl, arith}
use Rattle.std.specs.Prelude.{Contains}
use Rattle.tuple_text.specs.Refs.{set_value}
use Rattle.namespaces.specs.InForce.{names_in_force}
use Rattle.rewrites.specs.Parts.{computed_names}
use Rattle.snapshots.specs.Snapshots.{rules_in}
use Rattle.judgement.specs.Passes.{BarsId}
use Rattle.judgement.proofs.PassLemmas.{each_element, next_element}
use Rattle.wide_rules.proofs.ThroughLemmas.{names_enough}
use Rattle.wide_rules.proofs.through.bars_names.Goals as goal

pub returns-then-not-is_among : goal.returns-then-not-is_among
returns-then-not-is_among g c =
    let none = rw c.rules-rules.ensures at (c.is_among.ensures c.if-not-is_among.true) in (
      λ t name named. inl (none (computed_names c.args.through.now) c.args.fact.now.snapshot.now.at c.requires c.fits.ensures name named),
      λ b. refl,
    )

pub returns-then-not-bars_name_at : goal.returns-then-not-bars_name_at
returns-then-not-bars_name_at g c = (λ t. cc, λ b. sym c.if-not-bars_name_at.true ∙ c.bars_name_at.ensures.none b)

pub loop-k-preserved : goal.loop-k-preserved
loop-k-preserved g c = λ i name less at named.
    let s = c.args.fact.now.snapshot.now in
    let ds = s.timeline.declarations in
    let set = set_value c.args.set.set in
    next_element (λ n. Contains (computed_names c.args.through.now) n → BarsId (rules_in s) c.args.fact.now.known.now (Some n) c.args.fact.now.user set)
    (names_in_force s.at set.namespace ds) c.loop-k.k (λ k n l a. c.loop-k.invariant k n l a)
    (λ n a. c.bars_name_at.ensures.bars c.if-not-bars_name_at.false n a) i name less at named

pub returns : goal.returns
returns g c =
    let s = c.args.fact.now.snapshot.now in
    let ds = s.timeline.declarations in
    let set = set_value c.args.set.set in
    let names = computed_names c.args.through.now in
    let each = each_element (λ n. Contains names n → BarsId (rules_in s) c.args.fact.now.known.now (Some n) c.args.fact.now.user set)
    (names_in_force s.at set.namespace ds)
    (λ k n within at. c.loop-k.invariant k n (omega (arith, within, c.loop-k-test.false, rw c.rules-rules.ensures at c.count_in_force-k-end.ensures.count)) at) in (
      λ t. names_enough ds s.at c.args.fact.now.known.now names c.args.fact.now.user set (rw c.rules-rules.ensures at c.count_in_force-k-end.ensures.whole) each,
      λ b. refl,
    )
