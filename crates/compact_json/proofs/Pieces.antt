-- What stands before a quote.
use Rattle.std.proofs.Common.{◌≡◌, ℕ, ◌+◌, ◌<◌, true, not, List, ◌∷◌, ◌++◌, length, take, drop, get_or, Some, sym, ap, ◌∙◌, arith}
use Rattle.std.specs.List.{position}
use Rattle.std.proofs.lemmas.List.{get_or-take, length-take-le}
use Rattle.std.proofs.lemmas.List.Quantifiers.{position-Some}
use Rattle.json.specs.Print.{escape}
use Rattle.json.specs.Run.{is_stop}
use Rattle.json.proofs.Printed.Plain.{escape_on_plain}
use Rattle.tuple_text.proofs.Pieces.{split_at}

-- up to the first byte that stops a text, the text stands for itself
plain_before : (t : List ℕ) (end : ℕ) → position is_stop t ≡ Some end → escape (take end t) ≡ take end t
plain_before t end found =
    let at = position-Some is_stop t end 0 found in
    let len = length-take-le end t (omega (arith, at)) in
    escape_on_plain true (take end t) (λ k from to. ap not (ap is_stop (get_or-take end t k 0 (omega (arith, len, to))) ∙ at.2 k (omega (arith, len, to))))

-- a quote is that byte
pub text_ends : (t bytes : List ℕ) (end : ℕ) → bytes ≡ t → Some end ≡ position is_stop bytes → get_or bytes end 0 ≡ 34
    → (end < length t) × (get_or t end 0 ≡ 34) × (t ≡ take end t ++ 34 ∷ drop (end + 1) t) × (escape (take end t) ≡ take end t)
text_ends t bytes end same found quote =
    let there : position is_stop t ≡ Some end = ap (position is_stop) (sym same) ∙ sym found in
    let at = position-Some is_stop t end 0 there in
    let is : get_or t end 0 ≡ 34 = ap (λ (l : List ℕ). get_or l end 0) (sym same) ∙ quote in
    (at.0, is, split_at t end at.0 ∙ ap (λ x. take end t ++ x ∷ drop (end + 1) t) is, plain_before t end there)
