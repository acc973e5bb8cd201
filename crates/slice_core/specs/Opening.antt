-- How an opening is refused: for no lane, for more lanes than workers or more than 16 workers, or else where memory runs out.
use Rattle.std.specs.Prelude.{◌≡◌, ◌⊎◌, ℕ, ◌<◌, ◌≤◌}
use Rattle.slice_core.specs.declared.opening.OpenCause.{OpenCause}
use Rattle.slice_core.specs.declared.opening.OpenCause.TheVariants.{NoLane, TooManyLanes, OutOfMemory}

abbrev pub IsAllowed : ℕ → ℕ → Type 0
IsAllowed lanes workers = (0 < lanes) × (lanes ≤ workers) × (workers ≤ 16)

abbrev pub Refuses : ℕ → ℕ → OpenCause → Type 0
Refuses lanes workers NoLane = lanes ≡ 0
Refuses lanes workers TooManyLanes = (0 < lanes) × ((workers < lanes) ⊎ (16 < workers))
Refuses lanes workers OutOfMemory = IsAllowed lanes workers
