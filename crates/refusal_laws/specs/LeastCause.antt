-- Of the causes that apply to a line, the one with the least number is told.
use Rattle.std.specs.Prelude.{◌≡◌, ℕ, ◌≤◌, List, [], ◌∷◌, Option, None, Some, Result, Ok, Err}

-- the cause applies, and none that applies has a lesser number
abbrev pub IsLeast : {C : Type 0} → (C → ℕ) → (C → Type 0) → C → Type 0
IsLeast {C} number Applies c = Applies c × ((d : C) → Applies d → number c ≤ number d)

-- a line is refused for the least cause that applies, and taken where none does
pub record TellsTheLeast {A C : Type 0} (number : C → ℕ) (Applies : C → Type 0) (line : Result A C) : Type 0 where
  pub refused : (c : C) → line ≡ Err c → IsLeast number Applies c
  pub taken : (a : A) → line ≡ Ok a → (c : C) → ¬ Applies c

-- ---- texts, each by itself

abbrev pub fault_or : {V F : Type 0} → Result V F → Option F → Option F
fault_or (Ok v) rest = rest
fault_or (Err f) rest = Some f

-- why the first of the texts that can't be read can't be
abbrev pub first_fault : {V F : Type 0} → (List ℕ → Result V F) → List (List ℕ) → Option F
first_fault read [] = None
first_fault read (text ∷ texts) = fault_or (read text) (first_fault read texts)

abbrev pub read_and : {V F : Type 0} → Result V F → List V → List V
read_and (Ok v) vs = v ∷ vs
read_and (Err f) vs = vs

-- what those say that can be read
abbrev pub readable : {V F : Type 0} → (List ℕ → Result V F) → List (List ℕ) → List V
readable read [] = []
readable read (text ∷ texts) = read_and (read text) (readable read texts)
