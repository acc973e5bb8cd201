use Rattle.std.proofs.Common.{◌≡◌, ℕ, List, Option, None, Some, ◌↔◌, IsTrue, ap, sym, subst, rules}
use Rattle.std.specs.Prelude.{option_map}
use Rattle.tuple_text.specs.Refs.{set_value}
use Rattle.judgement.specs.AskedFact.{asked_set, tuples_over}
use Rattle.judgement.specs.Passes.{IsTargetStored}
use Rattle.judgement.proofs.LedLemmas.{target_by_stored_object, target_itself}
use Rattle.judgement.proofs.leading.is_target_stored.Goals as goal

pub returns-in-None : goal.returns-in-None
returns-in-None g c =
    let store = tuples_over c.args.fact.now in
    let set = asked_set c.args.fact.now in
    let t = set_value c.args.target.set in
    let none : option_map (λ s. s.now) c.args.relation ≡ None = ap (option_map (λ s. s.now)) c.in-None.is in
    subst (λ (o : Option (List ℕ)). IsTrue c.has_set.result ↔ IsTargetStored store set o t) (sym none)
    (target_itself store set t c.has_set.result c.has_set.ensures)

pub returns-then-eq : goal.returns-then-eq
returns-then-eq g c =
    let store = tuples_over c.args.fact.now in
    let set = asked_set c.args.fact.now in
    let t = set_value c.args.target.set in
    let some : option_map (λ s. s.now) c.args.relation ≡ Some c.in-Some.relation.now = ap (option_map (λ s. s.now)) c.in-Some.is in
    subst (λ (o : Option (List ℕ)). IsTrue c.stores_object.result ↔ IsTargetStored store set o t) (sym some)
    (target_by_stored_object store set t c.in-Some.relation.now c.stores_object.result (search rules) c.stores_object.ensures)
