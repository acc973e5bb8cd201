use Rattle.std.proofs.Common.{◌≡◌, ◌<◌, ℕ, Some}
use Rattle.std.specs.Prelude.{slice_get, Contains}
use Rattle.tuple_text.specs.Sets.{SetValue}
use Rattle.tuple_text.specs.declared.users.User.TheVariants.{Set}
use Rattle.namespaces.specs.Lookup.{namespace_names, place_of}
use Rattle.version_chains.specs.Commits.{Touch, changelog}
use Rattle.marks.specs.Marks.{pair_mark, set_mark}
use Rattle.userset_index.specs.Building.{AreMadeOf}
use Rattle.userset_index.specs.Index.{AreOnce, AreTimely}
use Rattle.userset_index.specs.declared.life.Life.{Life}
use Rattle.userset_index.proofs.objects.all_numbered.Given as goal

abbrev pub invariant-loop-life : goal.invariant-loop-life
invariant-loop-life l = record {
  -- the lives so far are there
  there : (k n : ℕ) (one : Life) (x : Touch) (g : SetValue) → k < l.life-index → slice_get l.lives k ≡ Some one
      → slice_get (changelog l.chains.commits) one.touch ≡ Some x → x.tuple.user ≡ Set g → place_of g.namespace (namespace_names l.rules) ≡ Some n
      → Contains l.all.items (record one { mark = pair_mark (set_mark x.tuple.set) n });
  timely : AreTimely (changelog l.chains.commits) l.lives → AreTimely (changelog l.chains.commits) l.all.items;
  once : AreOnce l.lives → AreMadeOf l.lives l.life-index l.all.items;
}
