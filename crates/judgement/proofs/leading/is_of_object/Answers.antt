use Rattle.std.proofs.Common.{◌≡◌, ◌∙◌, true, false, Some, List, ap, sym, rules}
use Rattle.std.specs.Prelude.{slice_get, option_map}
use Rattle.tuple_text.specs.Refs.{set_value, user_value}
use Rattle.version_chains.specs.Commits.{Commit, changelog}
use Rattle.version_chains.specs.Touches.{touch_value}
use Rattle.snapshots.specs.Snapshots.{tuples_in}
use Rattle.judgement.proofs.IndexLemmas.{stored_as_said}
use Rattle.judgement.proofs.leading.is_of_object.Goals as goal

pub returns-then-eq-clause-stored : goal.returns-then-eq-clause-stored
returns-then-eq-clause-stored c h = (set_value c.in-Set.stored, c.has_set.ensures.0 h, (search rules, search rules))

pub returns-then-eq-clause-apart : goal.returns-then-eq-clause-apart
returns-then-eq-clause-apart c gone x h here same stored _ =
    let both : Some x ≡ Some (touch_value c.in-Some.touch) = sym here ∙ ap (λ (cs : List Commit). slice_get (changelog cs) c.args.touch) (sym c.chains.ensures) ∙ sym c.touch.ensures.value ∙ ap (option_map touch_value) c.in-Some.is in
    let there = stored_as_said (tuples_in c.args.snapshot.now) (set_value c.args.set.set) h (set_value c.in-Set.stored) x (touch_value c.in-Some.touch) both same (ap user_value c.in-Set.is) stored in
    let bad : false ≡ true = sym gone ∙ c.has_set.ensures.1 there in
    cc
