-- A list that is read one item after the other.
use Rattle.std.proofs.Common.{◌≡◌, List, [], ◌∷◌, ◌++◌, Result, Ok, Err, refl, ap, ◌∙◌, append_assoc}
use Rattle.refusals.specs.Refusals.{◌>>=◌}

-- what was read before, and what is still read
abbrev pub with_front : {X E : Type 0} → List X → Result (List X) E → Result (List X) E
with_front front read = read >>= λ more. Ok (front ++ more)

pub regroup : {X E : Type 0} (front gs : List X) (x : X) (read : Result (List X) E) → gs ≡ front ++ x ∷ [] → with_front gs read ≡ with_front front (read >>= λ more. Ok (x ∷ more))
regroup {X} {E} front gs x (Ok more) e = ap (λ (l : List X). Ok (l ++ more)) e ∙ ap Ok (append_assoc front (x ∷ []) more)
regroup {X} {E} front gs x (Err c) e = refl
