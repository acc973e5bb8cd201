-- What threads told of blocks, each in its slot or to be put there.
use Rattle.std.specs.Prelude.{◌≡◌, ℕ, List, [], ◌∷◌, Some, Result, ⊤, IfOk, IfSome, slice_get}
use Rattle.std.specs.declared.alloc.AllocError.{AllocError}
use Rattle.line_blocks.specs.Values.{block_told, told_value}
use Rattle.line_blocks.specs.declared.blocks.Block.{Block}
use Rattle.line_blocks.specs.declared.sharing.Piece.{Piece}
use Rattle.line_blocks.specs.declared.sharing.Slot.{Slot}
use Rattle.line_blocks.specs.declared.telling.Told.{Told}

-- what was told, unless memory ran out, is what the block says
abbrev pub IsToldOf : {V C : Type 0} → (List ℕ → Result V C) → Block → Result (Told V C) AllocError → Type 0
IsToldOf told b r = IfOk r (λ t. told_value t ≡ block_told told b)

-- what is in a slot, where anything is, is what the block says
abbrev pub IsSlotOf : {V C : Type 0} → (List ℕ → Result V C) → Block → Slot V C → Type 0
IsSlotOf told b s = IfSome s.told (IsToldOf told b)

-- a piece is what the block of its number says
abbrev pub IsPieceOf : {V C : Type 0} → (List ℕ → Result V C) → List Block → Piece V C → Type 0
IsPieceOf told bs p = (b : Block) → slice_get bs p.number ≡ Some b → IsSlotOf told b p.slot

-- a slot for each block
abbrev pub AreSlots : {V C : Type 0} → (List ℕ → Result V C) → List (Slot V C) → List Block → Type 0
AreSlots told [] [] = ⊤
AreSlots told [] (b ∷ bs) = ⊥
AreSlots told (s ∷ ss) [] = ⊥
AreSlots told (s ∷ ss) (b ∷ bs) = IsSlotOf told b s × AreSlots told ss bs
