use Rattle.std.proofs.Common.{◌≡◌, ◌∙◌, Bool, true, false, not, IsTrue, Some, List, refl, ap, sym}
use Rattle.std.specs.Prelude.{slice_get, option_map}
use Rattle.tuple_text.specs.Refs.{set_value, user_value}
use Rattle.version_chains.specs.Commits.{Commit, changelog}
use Rattle.version_chains.specs.Touches.{touch_value}
use Rattle.judgement.specs.AskedFact.{asked_set, tuples_over}
use Rattle.judgement.proofs.IndexLemmas.{stored_as_said}
use Rattle.judgement.proofs.indexed.is_touch_out.Goals as goal

not_both : {G : Type 0} (b : Bool) → IsTrue (not b) → b ≡ true → G
not_both true h e = absurd (let bad : false ≡ true = h in cc)
not_both false h e = absurd (let bad : false ≡ true = e in cc)

pub returns-clause-out : goal.returns-clause-out
returns-clause-out g c gone x h here same stored =
    let both : Some x ≡ Some (touch_value c.in-Some.touch) = sym here ∙ ap (λ (cs : List Commit). slice_get (changelog cs) c.args.touch) (sym c.chains.ensures) ∙ sym c.touch.ensures.value ∙ ap (option_map touch_value) c.in-Some.is in
    let there = stored_as_said (tuples_over c.args.fact.now) (asked_set c.args.fact.now) h (set_value c.in-Set.stored) x (touch_value c.in-Some.touch) both same (ap user_value c.in-Set.is) stored in
    not_both c.has_set.result gone (c.has_set.ensures.1 there)

pub returns-clause-barred : goal.returns-clause-barred
returns-clause-barred g c barred = by_test c.has_set.result refl
  where
    by_test : (b : Bool) → c.has_set.result ≡ b → IsTrue (not b)
    by_test false e = refl
    by_test true e =
        let out = barred (set_value c.in-Set.stored) (c.has_set.ensures.0 e) in
        absurd (let bad : false ≡ true = c.if-is_out.ensures.1 out in cc)
