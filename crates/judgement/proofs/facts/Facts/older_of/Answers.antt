use Rattle.std.proofs.Common.{◌≡◌, ◌∙◌, length, map, ap, sym, arith}
use Rattle.std.proofs.lemmas.List.{length-map}
use Rattle.marks.specs.Placed.{last_place}
use Rattle.judgement.specs.Facts.{is_of_user, user_of}
use Rattle.judgement.specs.declared.facts.Index.{Index}
use Rattle.judgement.proofs.LedLemmas.{older_by_users, within_facts}
use Rattle.judgement.proofs.facts.Facts.older_of.Goals as goal

pub returns-in-Some : goal.returns-in-Some
returns-in-Some g c h =
    let kept = (c.self.invariant c.in-Some.found c.in-Some.is).1 c.if-self.true in
    older_by_users c.args.user c.args.self.now c.args.index c.deref.result.now.users c.older.result
    (ap (λ (i : Index). i.users) c.deref.ensures ∙ kept ∙ ap (map user_of) c.self.view_is) h c.older.ensures

pub returns-in_default : goal.returns-in_default
returns-in_default g c h =
    let facts = c.deref-in_default.result.now in
    let kept : map g.F.KnownFact.fact facts ≡ c.args.self.now = ap (map g.F.KnownFact.fact) c.deref-in_default.ensures.value ∙ c.self.view_is in
    let within = within_facts c.args.user c.args.self.now c.args.index h in
    let long : length c.args.self.now ≡ length facts = ap length (sym kept) ∙ length-map facts g.F.KnownFact.fact in
    let len = c.len.ensures in
    let deref = c.deref-in_default.ensures.len in
    let min = c.min.ensures in
    let same : c.min.result ≡ c.args.index = omega (arith, within, long, len, deref, min) in
    c.last_of.ensures
    ∙ ap (λ fs. last_place (is_of_user c.args.user) fs c.min.result) kept
    ∙ ap (last_place (is_of_user c.args.user) c.args.self.now) same
