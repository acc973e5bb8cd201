-- A hash of words: SipHash-1-3, by the rounds of std's `DefaultHasher`, of whole words and with a key.
use Rattle.std.specs.Prelude.{ℕ, zero, suc, ◌+◌, ◌-◌, ◌/◌, List, [], ◌∷◌, ◌++◌, length, take, drop, replicate, fold}
use Rattle.std.specs.Hash.DefaultHasher as sip
use Rattle.std.specs.declared.hash.DefaultHasher.{DefaultHasher}
use Rattle.std.specs.Int.{w64, from_le_bytes}
use Rattle.std.specs.Int.Bits.{bit_xor}
use Rattle.marks.specs.declared.words.WordHasher.{WordHasher}

-- as std's hasher, which also counts its bytes and keeps those of a word that is not whole
abbrev pub state_of : WordHasher → DefaultHasher
state_of h = record { v0 = h.v0; v1 = h.v1; v2 = h.v2; v3 = h.v3; tail = 0; length = 0 }

-- up to eight bytes, filled with zeros
unfoldable pub word_of : List ℕ → ℕ
word_of bytes = from_le_bytes w64 (bytes ++ replicate (8 - length bytes) 0)

-- the first words of a text
unfoldable pub first_words : ℕ → List ℕ → List ℕ
first_words zero text = []
first_words (suc n) text = word_of (take 8 text) ∷ first_words n (drop 8 text)

-- all its words; the last is filled with zeros
abbrev pub words : List ℕ → List ℕ
words text = first_words ((length text + 7) / 8) text

-- three rounds more, and the words of the state in one; no word for the length goes before, since the key tells it
unfoldable pub finished : DefaultHasher → ℕ
finished s =
    let t = sip.round (sip.round (sip.round (record { v0 = s.v0; v1 = s.v1; v2 = bit_xor s.v2 255; v3 = s.v3; tail = s.tail; length = s.length }))) in
    bit_xor (bit_xor (bit_xor t.v0 t.v1) t.v2) t.v3

-- of words, by a key
unfoldable pub hash_of : ℕ → List ℕ → ℕ
hash_of key ws = finished (fold sip.write_word (sip.with_keys key 0) ws)
