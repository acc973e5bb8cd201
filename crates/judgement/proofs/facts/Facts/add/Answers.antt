use Rattle.std.proofs.Common.{arith, rules, ◌≡◌, ◌∙◌, ◌↔◌, Bool, IsTrue, List, map, true, false, ap, sym, subst}
use Rattle.std.proofs.lemmas.Grind.{common_steps}
use Rattle.std.specs.Prelude.{Contains}
use Rattle.std.specs.List.{list_any}
use Rattle.tuple_text.specs.Order.{fact_eq}
use Rattle.tuple_text.specs.Refs.{set_value}
use Rattle.tuple_text.specs.Tuples.{FactValue, fact_of}
use Rattle.judgement.proofs.MarkedLemmas.{there_if_any}
use Rattle.judgement.proofs.facts.Facts.add.Goals as goal
use Rattle.judgement.proofs.facts.Facts.add.Goals.{in-Some+in_ok-was-in-Some, in-None+then-is_asked, in-None+else-is_asked}

pub returns-clause-was : goal.returns-clause-was
returns-clause-was g c = λ asked.
    let fact = g.F.KnownFact.fact c.args.fact in
    elim c.match-take.branch [
      | in-Some+in_ok-was-in-Some w ↦
          let kept : map g.F.KnownFact.fact w.deref.result.now ≡ c.args.self.now = search rules in
          let was = subst (λ (fs : List FactValue). IsTrue w.in_ok-was-in-Some.was' ↔ Contains fs fact) kept (w.in_ok-was-in-Some.ensures.was asked) in
          subst (λ (b : Bool). IsTrue b ↔ Contains c.args.self.now fact) (sym w.was-is) was
      | in-None+then-is_asked w ↦
          let kept : map g.F.KnownFact.fact w.deref-then-is_asked.result.now ≡ c.args.self.now = search rules in
          let this : fact_of (set_value w.marked_set.result.set) w.user_id.result ≡ fact = search rules in
          let test : c.match-take.was ≡ list_any (fact_eq fact) c.args.self.now =
          w.was-is ∙ w.is_marked_among.ensures
          ∙ ap (λ (f : FactValue). list_any (fact_eq f) (map g.F.KnownFact.fact w.deref-then-is_asked.result.now)) this
          ∙ ap (list_any (fact_eq fact)) kept in
          subst (λ (b : Bool). IsTrue b ↔ Contains c.args.self.now fact) (sym test) (there_if_any c.args.self.now fact)
      | in-None+else-is_asked w ↦ absurd (let no : true ≡ false = sym asked ∙ w.if-is_asked.false in cc)
    ]

pub returns-in_err-mark-clause-ok : goal.returns-in_err-mark-clause-ok
returns-in_err-mark-clause-ok g c = grind (arith, common_steps)

pub returns-in_err-mark-clause-was : goal.returns-in_err-mark-clause-was
returns-in_err-mark-clause-was g c = grind (arith, common_steps)

pub returns-in_err-mark-clause-err : goal.returns-in_err-mark-clause-err
returns-in_err-mark-clause-err g c = grind (arith, common_steps)

pub returns-in_err-reserve-clause-ok : goal.returns-in_err-reserve-clause-ok
returns-in_err-reserve-clause-ok g c = grind (arith, common_steps)

pub returns-in_err-reserve-clause-was : goal.returns-in_err-reserve-clause-was
returns-in_err-reserve-clause-was g c = grind (arith, common_steps)

pub returns-in_err-reserve-clause-err : goal.returns-in_err-reserve-clause-err
returns-in_err-reserve-clause-err g c = grind (arith, common_steps)

pub returns-in_err-was-in-Some-clause-ok : goal.returns-in_err-was-in-Some-clause-ok
returns-in_err-was-in-Some-clause-ok g c = grind (arith, common_steps)

pub returns-in_err-was-in-Some-clause-was : goal.returns-in_err-was-in-Some-clause-was
returns-in_err-was-in-Some-clause-was g c = grind (arith, common_steps)

pub returns-in_err-was-in-Some-clause-err : goal.returns-in_err-was-in-Some-clause-err
returns-in_err-was-in-Some-clause-err g c = grind (arith, common_steps)

pub returns-clause-ok : goal.returns-clause-ok
returns-clause-ok g c = grind (arith, common_steps)

pub returns-clause-err : goal.returns-clause-err
returns-clause-err g c = grind (arith, common_steps)
