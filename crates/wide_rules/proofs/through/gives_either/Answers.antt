use Rattle.std.proofs.Common.{◌≡◌, List, ℕ, Some, length, string_bytes, ap, arith}
use Rattle.std.proofs.lemmas.List.{length-map}
use Rattle.tuple_text.specs.Refs.{set_value}
use Rattle.tuple_text.specs.Sets.{SetValue}
use Rattle.rewrites.specs.Parts.{computed_names}
use Rattle.judgement.specs.Passes.{SomeSet}
use Rattle.judgement.specs.AskedFact.{GivesFor}
use Rattle.wide_rules.specs.AskedFact.{LeadsUnder}
use Rattle.judgement.proofs.LedLemmas.{some_left}
use Rattle.judgement.proofs.PassLemmas.{next_element, place_of_element}
use Rattle.wide_rules.proofs.through.gives_either.Goals as goal

pub loop-k-preserved : goal.loop-k-preserved
loop-k-preserved g c =
    let a = c.args.fact.now in
    let names = computed_names c.args.through.now in
    let P : List ℕ → Type 0 = λ name. ¬ GivesFor a (Some name) (set_value c.args.one.set) in
    let Q : SetValue → Type 0 = LeadsUnder a names in
    let shorter = ap (λ (ts : List SetValue). length ts) c.in-Some.ensures.steps in
    let before = c.loop-k.invariant.fewer in record {
      names = next_element P names c.loop-k.k c.loop-k.invariant.names (λ name at given. let t = c.gives_at.ensures.none name at given in cc);
      targets =
          some_left Q c.loop-k.targets c.next.new.self (set_value c.in-Some.target.set) (SomeSet Q c.args.targets.now) c.in-Some.ensures.steps
          (λ q. let t = c.leads_by_target.ensures.1 q in cc) c.loop-k.invariant.targets;
      fewer = omega (arith, shorter, before);
    }

pub returns-clause-none : goal.returns-clause-none
returns-clause-none g c = λ e w.
    let entries = c.args.through.now.computed.entries in
    let names = computed_names c.args.through.now in
    let count : c.len-k-end.result ≡ length entries = c.len-k-end.ensures.len in
    let named : length names ≡ length entries = length-map entries (λ x. string_bytes x.0) in
    let p = place_of_element names w.0 w.1 in
    c.loop-k.invariant.names p.0 w.0 (omega (arith, p.1, c.loop-k-test.false, count, named)) p.2 w.2
