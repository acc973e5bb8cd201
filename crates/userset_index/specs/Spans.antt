-- How lives are linked, and passed over. No public clause cites this module.
use Rattle.std.specs.Prelude.{◌≡◌, ◌≤◌, ℕ, suc, List, ◌∷◌, map, slice_get, Option, None, Some}
use Rattle.userset_index.specs.Lives.{touches_alive}
use Rattle.userset_index.specs.declared.life.Life.{Life}
use Rattle.userset_index.specs.declared.spans.Span.{Span}
use Rattle.userset_index.specs.declared.spans.Step.{Step}

abbrev pub life_of : Span → Life
life_of s = record { mark = s.mark; touch = s.touch; from = s.from; until = s.until }

abbrev pub lives_of : List Span → List Life
lives_of spans = map life_of spans

abbrev pub marks_of : List Life → List ℕ
marks_of lives = map (λ l. l.mark) lives

-- the span at a place, which counts from 1
abbrev pub IsSpanAt : List Span → ℕ → Span → Type 0
IsSpanAt spans place s = (i : ℕ) × (place ≡ suc i) × (slice_get spans i ≡ Some s)

-- a place of the mark, or no place
abbrev pub IsPlaceOf : ℕ → List Life → ℕ → Type 0
IsPlaceOf mark lives place = (i : ℕ) → place ≡ suc i → (l : Life) × (slice_get lives i ≡ Some l) × (l.mark ≡ mark)

-- the span at an index leads back to a place of its mark, and its timestamps bound those of all lives of the mark
-- behind that place
pub record IsBounded (lives : List Life) (i : ℕ) (s : Span) : Type 0 where
  pub back : s.jump ≤ i
  pub of : IsPlaceOf s.mark lives s.jump
  pub bounds : (k : ℕ) (l : Life) → s.jump ≤ k → k ≤ i → slice_get lives k ≡ Some l → l.mark ≡ s.mark
      → (s.first ≤ l.from) × (l.until ≤ s.last)

abbrev pub AreBounded : List Span → Type 0
AreBounded spans = (i : ℕ) (s : Span) → slice_get spans i ≡ Some s → IsBounded (lives_of spans) i s

-- spans that are bounded, and links by the marks of their lives
pub record AreGrown (links : List ℕ) (spans : List Span) : Type 0 where
  pub linked : links ≡ marks_of (lives_of spans)
  pub bounded : AreBounded spans

-- the lives over which the jump of the span at an index passes end at this timestamp at the latest
abbrev pub Bounds : List Span → ℕ → ℕ → Type 0
Bounds spans i last =
    (s : Span) (k : ℕ) (l : Life) → slice_get spans i ≡ Some s → s.jump ≤ k → k ≤ i → slice_get (lives_of spans) k ≡ Some l
    → l.mark ≡ s.mark → l.until ≤ last

abbrev pub found_first : Option ℕ → List ℕ → List ℕ
found_first None rest = rest
found_first (Some touch) rest = touch ∷ rest

-- the step of a walk from the life at an index: between there and where it leads no other life is sought
pub record Steps (mark at : ℕ) (lives : List Life) (index : ℕ) (step : Step) : Type 0 where
  pub nearer : step.place ≤ index
  pub of : IsPlaceOf mark lives step.place
  pub same : touches_alive mark at lives (suc index) ≡ found_first step.found (touches_alive mark at lives step.place)
