-- Words of texts.
use Rattle.std.proofs.Common.{◌≡◌, ℕ, ◌+◌, ◌-◌, ◌/◌, ◌≤◌, ◌<◌, suc, List, [], ◌∷◌, ◌++◌, length, take, drop, replicate, ◌∙◌, ap, arith}
use Rattle.std.specs.Int.{w64, from_le_bytes}
use Rattle.std.proofs.lemmas.List.{append-nil, length-drop, length-take, take_all}
use Rattle.marks.specs.Words.{first_words, words, word_of}

-- a text of eight bytes or more
pub first_word : (text : List ℕ) → 8 ≤ length text → words text ≡ from_le_bytes w64 (take 8 text) ∷ words (drop 8 text)
unfolding word_of first_words
first_word text long =
    let more : (length text + 7) / 8 ≡ suc ((length (drop 8 text) + 7) / 8) = omega (arith, long, length-drop 8 text) in
    let whole : 8 - length (take 8 text) ≡ 0 = omega (arith, long, length-take 8 text) in
    ap (λ (n : ℕ). first_words n text) more
    ∙ ap (λ (n : ℕ). from_le_bytes w64 (take 8 text ++ replicate n 0) ∷ words (drop 8 text)) whole
    ∙ ap (λ (bs : List ℕ). from_le_bytes w64 bs ∷ words (drop 8 text)) (append-nil (take 8 text))

-- one of fewer
pub last_word : (text : List ℕ) → 0 < length text → length text < 8 → words text ≡ from_le_bytes w64 (text ++ replicate (8 - length text) 0) ∷ []
unfolding word_of first_words
last_word text some short =
    let one : (length text + 7) / 8 ≡ 1 = omega (arith, some, short) in
    ap (λ (n : ℕ). first_words n text) one
    ∙ ap (λ (bs : List ℕ). from_le_bytes w64 (bs ++ replicate (8 - length bs) 0) ∷ []) (take_all 8 text (omega (arith, short)))

-- and of none
pub no_word : (text : List ℕ) → length text ≡ 0 → words text ≡ []
unfolding first_words
no_word text none =
    let few : (length text + 7) / 8 ≡ 0 = omega (arith, none) in
    ap (λ (n : ℕ). first_words n text) few
