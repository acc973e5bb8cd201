-- Fields, xs they are written, and xs they are read from the front of a text: the value and the rest of the text, or
-- how many bytes are left where a field begins that is not in form.
use Rattle.std.specs.Prelude.{ℕ, zero, suc, ◌+◌, ◌∷◌, ◌++◌, [], ◌==◌, ◌&&◌, ⊤, Bool, true, false, List, length, take, drop, slice_index, Option, Some, None, Result, Ok, Err, nat_eq, nat_lt, if◌then◌else◌}
use Rattle.std.specs.Fmt.{decimal}
use Rattle.std.specs.List.{after_first, before_first, flat_map, position_or_len, starts_with}
use Rattle.refusals.specs.Refusals.{◌>>=◌, needed}
use Rattle.tuple_text.specs.Forms.{plain_number}
use Rattle.carry.specs.declared.fault.FieldFault.{FieldFault}
use Rattle.carry.specs.declared.fault.FieldFault.TheVariants.{Left}

abbrev pub Reader : Type 0 → Type 0
Reader A = List ℕ → Result (A × List ℕ) FieldFault

-- a number in decimal digits, and the byte that ends it
abbrev pub number_text : ℕ → ℕ → List ℕ
number_text end n = decimal n ++ end ∷ []

-- a number on a line of its own
abbrev pub number_line : ℕ → List ℕ
number_line n = number_text 10 n

-- a text on a line of its own, behind its length and a space
abbrev pub text_line : List ℕ → List ℕ
text_line t = number_text 32 (length t) ++ (t ++ 10 ∷ [])

-- how many values, and the values one behind the other
abbrev pub counted_text : {A : Type 0} → (A → List ℕ) → List A → List ℕ
counted_text write xs = number_line (length xs) ++ flat_map write xs

-- a value that is there, and the rest
abbrev pub given : {A : Type 0} → Option A → List ℕ → ℕ → Result (A × List ℕ) FieldFault
given (Some a) rest left = Ok (a, rest)
given None rest left = Err (Left left)

unfoldable pub number_to : ℕ → Reader ℕ
number_to end text =
    if nat_lt (position_or_len (λ b. b == end) text) (length text)
    then given (plain_number (before_first (λ b. b == end) text)) (after_first (λ b. b == end) text) (length text)
    else Err (Left (length text))

unfoldable pub text_at : Reader (List ℕ)
text_at text = do
  n ← number_to 32 text
  if nat_lt n.0 (length n.1) && (slice_index n.1 n.0 == 10) then Ok (take n.0 n.1, drop (n.0 + 1) n.1)
      else Err (Left (length text))

-- what the text of a line spells
abbrev pub of_text : {A : Type 0} → (List ℕ → Option A) → Reader A
of_text parse text = text_at text >>= λ t. given (parse t.0) t.1 (length text)

-- what stands behind a word
abbrev pub word_at : List ℕ → List ℕ → Option (List ℕ)
word_at word text = if starts_with nat_eq text word then Some (drop (length word) text) else None

abbrev pub after_word : List ℕ → List ℕ → Result (List ℕ) FieldFault
after_word word text = needed (Left (length text)) (word_at word text)

abbrev pub behind : {A : Type 0} → List ℕ → Reader A → Reader A
behind word read text = after_word word text >>= read

-- what is read behind a word, where the text begins with it, and else the other
abbrev pub word_or : {B : Type 0} → Option (List ℕ) → (List ℕ → B) → B → B
word_or (Some rest) read other = read rest
word_or None read other = other

-- one of two words
abbrev pub flag_text : List ℕ → List ℕ → Bool → List ℕ
flag_text first second true = first
flag_text first second false = second

abbrev pub flag_at : List ℕ → List ℕ → Reader Bool
flag_at first second text =
    word_or (word_at first text) (λ rest. Ok (true, rest)) (after_word second text >>= λ rest. Ok (false, rest))

-- one word where nothing is there, and another in front of what is
abbrev pub optional_text : {A : Type 0} → List ℕ → List ℕ → (A → List ℕ) → Option A → List ℕ
optional_text none word write None = none
optional_text none word write (Some a) = word ++ write a

abbrev pub optional_at : {A : Type 0} → List ℕ → List ℕ → Reader A → Reader (Option A)
optional_at none word read text =
    word_or (word_at none text) (λ rest. Ok (None, rest)) (behind word read text >>= λ a. Ok (Some a.0, a.1))

-- one value, and then another
abbrev pub both : {A B : Type 0} → Reader A → Reader B → Reader (A × B)
both one other text = one text >>= λ a. other a.1 >>= λ b. Ok ((a.0, b.0), b.1)

-- what values stand for
abbrev pub seen : {A B : Type 0} → (A → B) → Reader A → Reader B
seen f read text = read text >>= λ a. Ok (f a.0, a.1)

abbrev pub repeated : {A : Type 0} → Reader A → ℕ → Reader (List A)
repeated read zero text = Ok ([], text)
repeated read (suc n) text = read text >>= λ a. repeated read n a.1 >>= λ xs. Ok (a.0 ∷ xs.0, xs.1)

abbrev pub counted_at : {A : Type 0} → Reader A → Reader (List A)
counted_at read text = number_to 10 text >>= λ n. repeated read n.0 n.1

-- a fact of a value, where there is one
abbrev pub IfThere : {A : Type 0} → (A → Type 0) → Option A → Type 0
IfThere Fits None = ⊤
IfThere Fits (Some a) = Fits a
