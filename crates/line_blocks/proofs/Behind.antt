-- What stands in a buffer of which the rest was read into.
use Rattle.std.proofs.Common.{◌≡◌, ◌∙◌, ℕ, ◌+◌, ◌≤◌, List, ◌++◌, ap, append_assoc, length, sym, take}
use Rattle.std.proofs.Math.Seq.{take-append-add}
use Rattle.std.proofs.lemmas.List.{length-take-le, take-append-le, take-take}

-- the first bytes were left as they are, and of those behind them so many were written
pub read_behind : (was came post rest : List ℕ) (had count len : ℕ) → had ≤ length was → count ≤ length came
    → had + count ≤ len
    → take (had + count) (take len ((take had was ++ (came ++ post)) ++ rest)) ≡ take had was ++ take count came
read_behind was came post rest had count len within few room =
    let all = (take had was ++ (came ++ post)) ++ rest in
    take-take (had + count) len all room
    ∙ ap (take (had + count)) (append_assoc (take had was) (came ++ post) rest
    ∙ ap (λ xs. take had was ++ xs) (append_assoc came post rest))
    ∙ ap (λ n. take (n + count) (take had was ++ (came ++ (post ++ rest)))) (sym (length-take-le had was within))
    ∙ take-append-add (take had was) (came ++ (post ++ rest)) count
    ∙ ap (λ xs. take had was ++ xs) (take-append-le count came (post ++ rest) few)
