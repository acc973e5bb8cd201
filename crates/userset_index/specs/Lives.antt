-- Lives: touches that add tuples, with the timestamps at which they can matter.
use Rattle.std.specs.Prelude.{ℕ, zero, suc, Bool, ◌&&◌, List, [], ◌∷◌, map, min, nat_eq, nat_le}
use Rattle.marks.specs.Placed.{newest_first}
use Rattle.userset_index.specs.declared.life.Life.{Life}

-- whether a timestamp is one of a life's
abbrev pub is_alive : ℕ → Life → Bool
is_alive at l = nat_le l.from at && nat_le at l.until

-- whether a life has the mark and the timestamp is one of it
abbrev pub is_sought : ℕ → ℕ → Life → Bool
is_sought mark at l = nat_eq mark l.mark && is_alive at l

-- the touches of such lives among the first so many, the last first
abbrev pub touches_alive : ℕ → ℕ → List Life → ℕ → List ℕ
touches_alive mark at lives place = map (λ l. l.touch) (newest_first (is_sought mark at) lives place)

-- a life that ends at a timestamp at the latest
abbrev pub shortened : ℕ → Life → Life
shortened until l = record l { until = min l.until until }

-- so does the life at a place
abbrev pub ended : ℕ → ℕ → List Life → List Life
ended i until [] = []
ended zero until (l ∷ ls) = shortened until l ∷ ls
ended (suc i) until (l ∷ ls) = l ∷ ended i until ls
