use Rattle.std.proofs.Common.{◌≡◌, None, Some, ap, subst, sym}
use Rattle.std.specs.Prelude.{All, option_map}
use Rattle.judgement.specs.AskedFact.{IsBarredFor, IsOutFor, asked_set, rules_over}
use Rattle.judgement.proofs.IndexLemmas.{barred_by_own, barred_by_through}
use Rattle.judgement.proofs.PassLemmas.{barred_by_sets}
use Rattle.judgement.proofs.stored.is_barred.Goals as goal

pub returns-in_default : goal.returns-in_default
returns-in_default g c =
    let a = c.args.fact.now in
    let s = a.snapshot.now in
    let both = barred_by_sets s.timeline.commits s.at (asked_set a) c.usersets.result c.usersets.ensures.stored a.known.now
    (option_map (λ s. s.now) c.args.relation) a.user (rules_over a) in
    (λ h. both.0 (c.bars_each.ensures.0 h), λ l. c.bars_each.ensures.1 (both.1 l))

pub returns-in-None : goal.returns-in-None
returns-in-None g c =
    let s = c.args.fact.now.snapshot.now in
    let set = asked_set c.args.fact.now in
    let v = c.in-Some.index.now in
    let none : option_map (λ s. s.now) c.args.relation ≡ None = ap (option_map (λ s. s.now)) c.in-None.is in (
      λ h.
          subst (IsBarredFor c.args.fact.now) (sym none)
          (barred_by_own s c.fits.ensures v c.in-Some.ensures.whole set
          c.in-Some.ensures.crowded c.args.fact.now.known.now c.args.fact.now.user
          (subst (All (IsOutFor c.args.fact.now None)) c.own.ensures (c.are_out.ensures.out h))),
      λ barred.
          c.are_out.ensures.barred
          (subst (IsBarredFor c.args.fact.now) none barred),
    )

pub returns-in-Some-relation : goal.returns-in-Some-relation
returns-in-Some-relation g c =
    let s = c.args.fact.now.snapshot.now in
    let set = asked_set c.args.fact.now in
    let v = c.in-Some.index.now in
    let some : option_map (λ s. s.now) c.args.relation ≡ Some c.in-Some-relation.relation.now = ap (option_map (λ s. s.now)) c.in-Some-relation.is in (
      λ h.
          subst (IsBarredFor c.args.fact.now) (sym some)
          (barred_by_through s c.fits.ensures v c.in-Some.ensures.whole set
          c.in-Some.ensures.crowded c.args.fact.now.known.now c.args.fact.now.user
          (c.are_out_through.ensures.few h) c.in-Some-relation.relation.now (λ n g less stored place declared. c.are_out_through.ensures.out h n g less stored place)),
      λ barred.
          c.are_out_through.ensures.barred
          (subst (IsBarredFor c.args.fact.now) some barred),
    )
