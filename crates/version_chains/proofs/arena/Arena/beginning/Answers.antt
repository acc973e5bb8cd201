use Rattle.std.proofs.Common.{◌≡◌, ℕ, Option, None, Some, sym, subst}
use Rattle.std.specs.Prelude.{IfSome, unwrap_or}
use Rattle.version_chains.specs.Given.{IsWalkUntil, newest_of}
use Rattle.version_chains.proofs.NewestLemmas.{live_start, live_start_among}
use Rattle.version_chains.proofs.arena.Arena.beginning.Goals as goal

pub returns-then-not-is_far : goal.returns-then-not-is_far
returns-then-not-is_far c t at = live_start t c.args.at c.args.self.now.touches c.newest-newest.result (c.newest-newest.ensures t at)

pub returns : goal.returns
returns c t at = subst (IsWalkUntil t c.args.at c.args.self.now.touches) (sym c.unwrap_or.ensures) (by_place c.near.result (c.near.ensures t at))
  where
    by_place : (near : Option ℕ) → IfSome near (λ place. place ≡ newest_of t c.args.self.now.touches c.count_until.result) → IsWalkUntil t c.args.at c.args.self.now.touches (unwrap_or near c.newest-newest.result)
    by_place None is = live_start t c.args.at c.args.self.now.touches c.newest-newest.result (c.newest-newest.ensures t at)
    by_place (Some place) is = live_start_among t c.args.at c.args.self.now.touches c.count_until.result place c.count_until.ensures.within c.count_until.ensures.later is
