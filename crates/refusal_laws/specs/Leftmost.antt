-- Which part of a tuple's text fails, in the words of a user.
use Rattle.std.specs.Prelude.{◌≡◌, ℕ, ◌+◌, ◌==◌, Bool, true, false, List, ◌++◌, ◌∷◌, length, None, Ok}
use Rattle.std.specs.List.{list_any}
use Rattle.tuple_text.specs.Forms.{is_name, is_object_id, plain_number}
use Rattle.tuple_text.specs.Reading.{userset_at}
use Rattle.tuple_text.specs.Sets.{SetValue}
use Rattle.tuple_text.specs.declared.fault.TupleFault.{TupleFault}
use Rattle.tuple_text.specs.declared.fault.TupleFault.TheVariants as faults

-- the text is a part, then a byte that the part does not have, and then the rest; and the part passes a test
pub record BeginsWith (test : List ℕ → Bool) (delimiter : ℕ) (text part rest : List ℕ) : Type 0 where
  pub split : text ≡ part ++ delimiter ∷ rest
  pub first : list_any (λ b. b == delimiter) part ≡ false
  pub passes : test part ≡ true

-- no part in form stands before the byte
abbrev pub Lacks : (List ℕ → Bool) → ℕ → List ℕ → Type 0
Lacks test delimiter text = (part rest : List ℕ) → ¬ BeginsWith test delimiter text part rest

-- a namespace and `:`
abbrev pub Namespaced : List ℕ → List ℕ → List ℕ → Type 0
Namespaced text namespace rest = BeginsWith is_name 58 text namespace rest

-- a namespace, `:`, an object id and `#`, which are so many bytes
pub record Named (text : List ℕ) (at : ℕ) (rest : List ℕ) : Type 0 where
  pub namespace : List ℕ
  pub behind : List ℕ
  pub id : List ℕ
  pub begins : Namespaced text namespace behind
  pub further : BeginsWith is_object_id 35 behind id rest
  pub long : at ≡ (length namespace + 1) + (length id + 1)

-- and a relation and `@`
pub record Related (text : List ℕ) (at : ℕ) (rest : List ℕ) : Type 0 where
  pub front : ℕ
  pub behind : List ℕ
  pub relation : List ℕ
  pub named : Named text front behind
  pub further : BeginsWith is_name 64 behind relation rest
  pub long : at ≡ front + (length relation + 1)

-- The part that begins at this byte fails, and all before it is in form. The user is no user where this holds of what
-- stands behind the `@`.
abbrev pub IsLeftmostWhere : (List ℕ → Type 0) → List ℕ → TupleFault → Type 0
IsLeftmostWhere IsNoUser text (faults.Namespace at) = (at ≡ 0) × Lacks is_name 58 text
IsLeftmostWhere IsNoUser text (faults.ObjectId at) =
    (namespace rest : List ℕ) × Namespaced text namespace rest × (at ≡ length namespace + 1)
    × Lacks is_object_id 35 rest
IsLeftmostWhere IsNoUser text (faults.Relation at) = (rest : List ℕ) × Named text at rest × Lacks is_name 64 rest
IsLeftmostWhere IsNoUser text (faults.User at) = (rest : List ℕ) × Related text at rest × IsNoUser rest
IsLeftmostWhere IsNoUser text faults.OutOfMemory = ⊥

-- of a tuple, whose user is a number or a userset
abbrev pub IsLeftmost : List ℕ → TupleFault → Type 0
IsLeftmost text f =
    IsLeftmostWhere (λ rest. (plain_number rest ≡ None) × ((s : SetValue) → ¬ (userset_at rest ≡ Ok s))) text f

-- of a fact, whose user is a number
abbrev pub IsLeftmostOfFact : List ℕ → TupleFault → Type 0
IsLeftmostOfFact text f = IsLeftmostWhere (λ rest. plain_number rest ≡ None) text f
