-- Two values that take the same lines, one for the other.
use Rattle.std.proofs.Common.{◌≡◌, ℕ, ◌+◌, ◌-◌, ◌^◌, Bool, true, false, cond, not, ◌&&◌, ◌==◌, List, [], ◌∷◌, length, Result, Ok, Err, refl, ap}
use Rattle.refusals.specs.Refusals.{◌>>=◌}
use Rattle.json_lines.specs.Reading.{at_line, passes_limit, parts, read_from, read_all}
use Rattle.json_lines.specs.declared.reading.LineFault.{LineFault}
use Rattle.json_lines.specs.declared.reading.Stop.TheVariants.{Line}

-- both took what came and stand for each other, or both refused it by the same
abbrev pub Match : {S T E : Type 0} → (S → T → Type 0) → Result S E → Result T E → Type 0
Match R (Ok s) (Ok t) = R s t
Match R (Ok s) (Err f) = ⊥
Match R (Err e) (Ok t) = ⊥
Match R (Err e) (Err f) = e ≡ f

pub match_bind : {S T A E : Type 0} (R : S → T → Type 0) (x : Result A E) (f : A → Result S E) (g : A → Result T E) → ((a : A) → Match R (f a) (g a)) → Match R (x >>= f) (x >>= g)
match_bind R (Ok a) f g h = h a
match_bind R (Err e) f g h = refl

pub match_if : {S T E : Type 0} (R : S → T → Type 0) (b : Bool) (x y : Result S E) (v w : Result T E) → Match R x v → Match R y w → Match R (cond b x y) (cond b v w)
match_if R true x y v w h k = h
match_if R false x y v w h k = k

module _ {S T C : Type 0} (R : S → T → Type 0) (one : ℕ → S → List ℕ → Result S C) (other : ℕ → T → List ℕ → Result T C)
    (step : (n : ℕ) (s : S) (t : T) (line : List ℕ) → R s t → Match R (one n s line) (other n t line)) where
  at_each : (n : ℕ) (x : Result S C) (y : Result T C) (f : S → Result S (LineFault C)) (g : T → Result T (LineFault C)) → Match R x y → ((s : S) (t : T) → R s t → Match R (f s) (g t))
      → Match R (at_line n x >>= f) (at_line n y >>= g)
  at_each n (Ok s) (Ok t) f g h k = k s t h
  at_each n (Ok s) (Err e) f g h k = absurd h
  at_each n (Err e) (Ok t) f g h k = absurd h
  at_each n (Err e) (Err d) f g h k = ap (λ (c : C). record { line = n; stop = Line c }) h

  along : (whole : Bool) (n room : ℕ) (s : S) (t : T) (lines : List (List ℕ)) → R s t → Match R (read_from one whole n room s lines) (read_from other whole n room t lines)
  along whole n room s t [] h = h
  along whole n room s t (line ∷ lines) h =
      match_if R (passes_limit room line (not (length lines == 0))) _ _ _ _ refl
      (match_if R (not whole && (length lines == 0)) _ _ _ _ refl
      (at_each n (one n s line) (other n t line) _ _ (step n s t line h) (λ u v k. along whole (n + 1) (room - (length line + 1)) u v lines k)))

  -- of the same input
  pub both_read : (whole : Bool) (s : S) (t : T) (input : List ℕ) → R s t → Match R (read_all one whole s input) (read_all other whole t input)
  unfolding read_all
  both_read whole s t input h = along whole 1 (2 ^ 30) s t (parts input) h
