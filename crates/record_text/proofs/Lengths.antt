-- How long the text of a record is, part by part.
use Rattle.std.proofs.Common.{◌≡◌, ℕ, ◌+◌, true, List, [], ◌∷◌, ◌++◌, length, length-append, codes, decimal, refl, ap, ◌∙◌, arith}
use Rattle.std.proofs.lemmas.Grind.{flat_map-append}
use Rattle.json.specs.Print.{escape_byte, escape}
use Rattle.serde_json.specs.Data.{Data, unsigned, number, array, object, no_members, member}
use Rattle.serde_json.specs.View.{items_of}
use Rattle.serde_json.specs.Written.{compact_text, items_text}
use Rattle.tuple_text.specs.Grammar.{userset_text, fact_text}
use Rattle.tuple_text.specs.Tuples.{FactValue}
use Rattle.evidence_check.specs.RecordData.{fact_data}

-- ---- a list

-- each with the comma before it
abbrev pub later_length : List Data → ℕ
later_length [] = 0
later_length (d ∷ ds) = length (compact_text d) + 1 + later_length ds

length-items_text : (ds : List Data) → length (items_text true (items_of ds)) ≡ later_length ds + 1
length-items_text [] = refl
length-items_text (d ∷ ds) = omega (arith, length-append (compact_text d) (items_text true (items_of ds)), length-items_text ds)

-- of one that is not empty
pub length-array : (d : Data) (ds : List Data) → length (compact_text (array (items_of (d ∷ ds)))) ≡ 1 + later_length (d ∷ ds)
length-array d ds = omega (arith, length-append (compact_text d) (items_text true (items_of ds)), length-items_text ds)

-- ---- a fact

-- a byte that stands for itself
escape-cut : (xs : List ℕ) (y : ℕ) (ys : List ℕ) → length (escape_byte y) ≡ 1 → length (escape (xs ++ y ∷ ys)) ≡ length (escape xs) + 1 + length (escape ys)
escape-cut xs y ys one =
    ap length (flat_map-append escape_byte xs (y ∷ ys)) ∙ omega (arith, length-append (escape xs) (escape_byte y ++ escape ys), length-append (escape_byte y) (escape ys), one)

pub fact_length : (f : FactValue) → length (compact_text (fact_data f))
    ≡ 5 + length (escape f.set.namespace) + length (escape f.set.id) + length (escape f.set.relation) + length (escape (decimal f.user))
unfolding escape_byte
fact_length f =
    let user = escape-cut (userset_text f.set) 64 (decimal f.user) refl in
    let relation = escape-cut f.set.id 35 f.set.relation refl in
    let id = escape-cut f.set.namespace 58 (f.set.id ++ 35 ∷ f.set.relation) refl in
    omega (arith, length-append (escape (fact_text f)) (34 ∷ []), user, relation, id)

-- ---- a step, and the record

pub yes_length : (d : Data) → length (compact_text (object (member (codes "yes") d no_members))) ≡ length (compact_text d) + 8
unfolding escape_byte
yes_length d = omega (arith, length-append (compact_text d) (125 ∷ []))

pub no_length : (d : Data) → length (compact_text (object (member (codes "no") d no_members))) ≡ length (compact_text d) + 7
unfolding escape_byte
no_length d = omega (arith, length-append (compact_text d) (125 ∷ []))

pub record_length_by_parts : (line : ℕ) (d : Data) → length (compact_text (object (member (codes "line") (number (unsigned line)) (member (codes "steps") d no_members)))) ≡ length (compact_text d) + length (decimal line) + 18
unfolding escape_byte
record_length_by_parts line d = omega (arith, length-append (decimal line) (44 ∷ 34 ∷ (escape (codes "steps") ++ 34 ∷ 58 ∷ (compact_text d ++ 125 ∷ []))), length-append (compact_text d) (125 ∷ []))
