-- The lines of blocks.
use Rattle.std.proofs.Common.{◌≡◌, ℕ, ◌+◌, ◌<◌, ◌≤◌, Bool, true, false, eqb, cond, List, [], ◌∷◌, ◌++◌, length, arith, refl, sym, ap, ◌∙◌, inl, inr, append_assoc, length-append}
use Rattle.std.proofs.lemmas.Bool.{ne_eqb}
use Rattle.std.proofs.lemmas.List.Splits.{length-slice_split}
use Rattle.std.specs.List.{onto_first}
use Rattle.json_lines.specs.Reading.{parts}
use Rattle.line_blocks.specs.Blocks.{but_last, has_whole_lines, lines_of, size_of}
use Rattle.line_blocks.proofs.Endings.{ended}

onto_first-append : (x : ℕ) (ps qs : List (List ℕ)) → 0 < length ps → onto_first x (ps ++ qs) ≡ onto_first x ps ++ qs
onto_first-append x [] qs h = absurd (omega (arith, h))
onto_first-append x (p ∷ ps) qs h = refl

-- the lines before a newline, and those behind it
pub parts_at : (a b : List ℕ) → parts (a ++ 10 ∷ b) ≡ parts a ++ parts b
parts_at [] b = refl
parts_at (x ∷ xs) b = at_byte (parts_at xs b) (eqb x 10)
  where
    at_byte : parts (xs ++ 10 ∷ b) ≡ parts xs ++ parts b → (hit : Bool)
        → cond hit ([] ∷ parts (xs ++ 10 ∷ b)) (onto_first x (parts (xs ++ 10 ∷ b))) ≡ cond hit ([] ∷ parts xs)
        (onto_first x (parts xs)) ++ parts b
    at_byte e true = ap (λ (l : List (List ℕ)). [] ∷ l) e
    at_byte e false =
        ap (onto_first x) e ∙ onto_first-append x (parts xs) (parts b)
        (let n = length-slice_split (λ b. eqb b 10) xs in omega (arith, n))

but_last-snoc : (ls : List (List ℕ)) (l : List ℕ) → but_last (ls ++ l ∷ []) ≡ ls
but_last-snoc [] l = refl
but_last-snoc (m ∷ ls) l =
    rw (ne_eqb (length (ls ++ l ∷ [])) 0 (λ e. omega (arith, length-append ls (l ∷ []), e)))
    (ap (λ (r : List (List ℕ)). m ∷ r) (but_last-snoc ls l))

-- the lines of a block that ends in a newline are all its parts, less the empty one behind the newline
lines_of_block : (a : List ℕ) → lines_of (a ++ 10 ∷ []) ≡ parts a
lines_of_block a = ap but_last (parts_at a []) ∙ but_last-snoc (parts a) []

-- the lines of a block that ends in a newline, and those behind it
parts_of_block : (a b : List ℕ) → parts ((a ++ 10 ∷ []) ++ b) ≡ lines_of (a ++ 10 ∷ []) ++ parts b
parts_of_block a b =
    ap parts (append_assoc a (10 ∷ []) b) ∙ parts_at a b
    ∙ ap (λ (l : List (List ℕ)). l ++ parts b) (sym (lines_of_block a))

-- the bytes of a block are those of its lines, each with its newline
onto_first-size : (x : ℕ) (ps : List (List ℕ)) → 0 < length ps → size_of (onto_first x ps) ≡ size_of ps + 1
onto_first-size x [] h = absurd (omega (arith, h))
onto_first-size x (p ∷ ps) h = omega arith

size_of-parts : (a : List ℕ) → size_of (parts a) ≡ length a + 1
size_of-parts [] = refl
size_of-parts (x ∷ xs) = at_byte (size_of-parts xs) (eqb x 10)
  where
    at_byte : size_of (parts xs) ≡ length xs + 1 → (hit : Bool)
        → size_of (cond hit ([] ∷ parts xs) (onto_first x (parts xs))) ≡ length (x ∷ xs) + 1
    at_byte e true = omega (arith, e)
    at_byte e false =
        let f = onto_first-size x (parts xs) (let n = length-slice_split (λ b. eqb b 10) xs in omega (arith, n)) in
        omega (arith, e, f)

size_of_block : (a : List ℕ) → size_of (lines_of (a ++ 10 ∷ [])) ≡ length (a ++ 10 ∷ [])
size_of_block a =
    ap size_of (lines_of_block a) ∙ size_of-parts a ∙ (let e = length-append a (10 ∷ []) in omega (arith, e))

-- the same of whole lines, some or none
pub lines_behind : (block ys : List ℕ) → has_whole_lines block ≡ true → parts (block ++ ys) ≡ lines_of block ++ parts ys
lines_behind block ys h =
    elim (ended true block h) [
      | inl none ↦ rw none refl
      | inr some ↦ rw some.1 (parts_of_block some.0 ys)
    ]

pub size_of_whole : (block : List ℕ) → has_whole_lines block ≡ true → size_of (lines_of block) ≡ length block
size_of_whole block h =
    elim (ended true block h) [
      | inl none ↦ rw none refl
      | inr some ↦ rw some.1 (size_of_block some.0)
    ]

pub some_part : (ys : List ℕ) → 0 < length (parts ys)
some_part ys = let n = length-slice_split (λ b. eqb b 10) ys in omega (arith, n)

pub few_lines : (lines : List (List ℕ)) → length lines ≤ size_of lines
few_lines [] = omega arith
few_lines (line ∷ lines) = let n = few_lines lines in omega (arith, n)

pub few_parts : (xs : List ℕ) → length (parts xs) ≤ length xs + 1
few_parts xs = omega (arith, few_lines (parts xs), size_of-parts xs)
