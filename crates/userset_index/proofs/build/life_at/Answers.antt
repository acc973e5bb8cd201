use Rattle.std.proofs.Common.{◌≡◌, ◌∙◌, Some, sym, ap}
use Rattle.std.specs.Prelude.{slice_get, option_map}
use Rattle.version_chains.specs.Commits.{changelog}
use Rattle.version_chains.specs.Touches.{touch_value}
use Rattle.userset_index.proofs.build.life_at.Goals as goal

pub life_of-requires : goal.life_of-requires
life_of-requires c =
    let here : slice_get (changelog c.args.chains.now.commits) c.args.index ≡ Some (touch_value c.in_ok-touch.touch) =
    sym c.touch.ensures.value ∙ ap (option_map touch_value) c.in_ok-touch.was in
    c.requires (touch_value c.in_ok-touch.touch) here
