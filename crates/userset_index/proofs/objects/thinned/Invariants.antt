use Rattle.std.proofs.Common.{◌≡◌, ◌<◌, ℕ, true, Some}
use Rattle.std.specs.Prelude.{slice_get}
use Rattle.version_chains.specs.Commits.{changelog}
use Rattle.userset_index.specs.Building.{AreMadeOf}
use Rattle.userset_index.specs.Index.{AreOnce, AreTimely}
use Rattle.userset_index.specs.Lives.{is_alive}
use Rattle.userset_index.specs.Objects.{IsCover, IsCoveredBy}
use Rattle.userset_index.specs.declared.life.Life.{Life}
use Rattle.userset_index.proofs.objects.thinned.Given as goal

-- the lives so far are covered
abbrev pub invariant-loop-life : goal.invariant-loop-life
invariant-loop-life l = record {
  covers : (k t : ℕ) (one : Life) → k < l.life-index → slice_get l.lives k ≡ Some one → is_alive t one ≡ true
      → IsCoveredBy (changelog l.chains.commits) l.merged.lives.items one.touch t;
  cover : IsCover (changelog l.chains.commits) l.merged;
  timely : AreTimely (changelog l.chains.commits) l.lives → AreTimely (changelog l.chains.commits) l.merged.lives.items;
  once : AreOnce l.lives → AreMadeOf l.lives l.life-index l.merged.lives.items;
}
