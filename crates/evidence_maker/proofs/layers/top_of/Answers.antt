use Rattle.std.proofs.Common.{◌≡◌, ℕ, ◌≤◌, Some, slice_get, inl, inr, subst, arith}
use Rattle.std.proofs.lemmas.Bool.{cases_lt}
use Rattle.evidence_maker.proofs.layers.top_of.Goals as goal

pub loop-place-preserved : goal.loop-place-preserved
loop-place-preserved c = λ k s below e. elim (cases_lt k c.loop-place.place) [
  | inl lt ↦ (let low : s ≤ c.loop-place.top = c.loop-place.invariant k s lt e in let more = c.higher_at-top.ensures.top in omega arith)
  | inr le ↦ (let same : k ≡ c.loop-place.place = omega arith in c.higher_at-top.ensures.there s (subst (λ (n : ℕ). slice_get c.args.strata.now n ≡ Some (Some s)) same e))
]
