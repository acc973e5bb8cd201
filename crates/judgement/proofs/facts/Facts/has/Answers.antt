use Rattle.std.proofs.Common.{◌≡◌, ◌∙◌, map, ap, sym, subst, ◌↔◌, IsTrue, Bool, true}
use Rattle.std.specs.Prelude.{Contains}
use Rattle.std.specs.List.{list_any}
use Rattle.tuple_text.specs.Order.{fact_eq}
use Rattle.tuple_text.specs.Refs.{set_value}
use Rattle.tuple_text.specs.Tuples.{fact_of}
use Rattle.judgement.proofs.MarkedLemmas.{there_if_any}
use Rattle.judgement.proofs.facts.Facts.has.Goals as goal

pub returns-then-is_last : goal.returns-then-is_last
returns-then-is_last g c =
    let fact = fact_of (set_value c.args.set) c.args.user in
    let kept : map g.F.KnownFact.fact c.deref.result.now ≡ c.args.self.now = ap (map g.F.KnownFact.fact) c.deref.ensures.value ∙ c.self.view_is in
    let test : list_any (fact_eq fact) c.args.self.now ≡ true = sym (ap (list_any (fact_eq fact)) kept) ∙ c.is_last.ensures c.if-is_last.true in
    subst (λ (b : Bool). IsTrue b ↔ Contains c.args.self.now fact) test (there_if_any c.args.self.now fact)

pub returns-else-is_asked_by_mark : goal.returns-else-is_asked_by_mark
returns-else-is_asked_by_mark g c =
    let fact = fact_of (set_value c.args.set) c.args.user in
    let kept : map g.F.KnownFact.fact c.deref-else-is_asked_by_mark.result.now ≡ c.args.self.now = ap (map g.F.KnownFact.fact) c.deref-else-is_asked_by_mark.ensures.value ∙ c.self.view_is in
    let test : c.is_among.result ≡ list_any (fact_eq fact) c.args.self.now = c.is_among.ensures ∙ ap (list_any (fact_eq fact)) kept in
    subst (λ (b : Bool). IsTrue b ↔ Contains c.args.self.now fact) (sym test) (there_if_any c.args.self.now fact)
