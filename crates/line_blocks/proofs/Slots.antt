-- Slots in which it is put what several threads told.
use Rattle.std.proofs.Common.{◌≡◌, ℕ, zero, suc, ◌<◌, List, [], ◌∷◌, ◌++◌, length, Option, None, Some, Result, All, IfSome, arith, refl, sym, ap, subst, ◌∙◌, append-nil, append_assoc, length-append, get_or, set}
use Rattle.std.proofs.lemmas.List.Elements.{All-head, All-tail}
use Rattle.std.specs.List.{slice_get}
use Rattle.std.specs.declared.alloc.AllocError.{AllocError}
use Rattle.line_blocks.specs.Shares.{AreSlots, IsSlotOf, IsToldOf}
use Rattle.line_blocks.specs.Values.{AreTold}
use Rattle.line_blocks.specs.declared.blocks.Block.{Block}
use Rattle.line_blocks.specs.declared.sharing.Slot.{Slot}
use Rattle.line_blocks.specs.declared.telling.Told.{Told}

module _ {V C : Type 0} (told : List ℕ → Result V C) where
  -- slots with nothing in them
  pub none_told : (ss : List (Slot V C)) (bs : List Block)
      → All (λ s. s.told ≡ None) ss → length ss ≡ length bs → AreSlots told ss bs
  none_told [] [] none len = tt
  none_told [] (b ∷ bs) none len = absurd (omega (arith, len))
  none_told (s ∷ ss) [] none len = absurd (omega (arith, len))
  none_told (s ∷ ss) (b ∷ bs) none len = (
    subst (λ (x : Option (Result (Told V C) AllocError)). IfSome x (IsToldOf told b))
        (sym (All-head (λ (x : Slot V C). x.told ≡ None) s ss none)) tt,
    none_told ss bs (All-tail (λ (x : Slot V C). x.told ≡ None) s ss none) (omega (arith, len)),
  )

  -- a slot that gets what its block says
  pub slot_set : (ss : List (Slot V C)) (bs : List Block) (k : ℕ)
      (r : Slot V C) → AreSlots told ss bs
      → ((b : Block) → slice_get bs k ≡ Some b → IsSlotOf told b r) → AreSlots told (set ss k r) bs
  slot_set [] [] k r are is = tt
  slot_set [] (b ∷ bs) k r are is = absurd are
  slot_set (s ∷ ss) [] k r are is = absurd are
  slot_set (s ∷ ss) (b ∷ bs) zero r are is = (is b refl, are.1)
  slot_set (s ∷ ss) (b ∷ bs) (suc k) r are is = (are.0, slot_set ss bs k r are.1 is)

  told_more : (rs : List (Result (Told V C) AllocError)) (bs : List Block) (r : Result (Told V C) AllocError)
      (b : Block) → AreTold told rs bs → IsToldOf told b r → AreTold told (rs ++ r ∷ []) (bs ++ b ∷ [])
  told_more [] [] r b are is = (is, tt)
  told_more [] (d ∷ ds) r b are is = absurd are
  told_more (q ∷ qs) [] r b are is = absurd are
  told_more (q ∷ qs) (d ∷ ds) r b are is = (are.0, told_more qs ds r b are.1 is)

  as_many : (rs : List (Result (Told V C) AllocError)) (bs : List Block) → AreTold told rs bs → length rs ≡ length bs
  as_many [] [] are = refl
  as_many [] (b ∷ bs) are = absurd are
  as_many (r ∷ rs) [] are = absurd are
  as_many (r ∷ rs) (b ∷ bs) are = omega (arith, as_many rs bs are.1)

  -- the blocks of which it is known what was told, and those whose slots are yet to be looked at
  pub record Ordered (blocks : List Block) (all : List (Result (Told V C) AllocError))
      (slots : List (Slot V C)) : Type 0 where
    pub done : List Block
    pub rest : List Block
    pub both : done ++ rest ≡ blocks
    pub are : AreTold told all done
    pub left : AreSlots told slots rest

  pub none_ordered : (blocks : List Block) (slots : List (Slot V C))
      → AreSlots told slots blocks → Ordered blocks [] slots
  none_ordered blocks slots are = record { done = []; rest = blocks; both = refl; are = tt; left = are }

  -- the block of the first slot that is left
  pub record Next (blocks : List Block) (all : List (Result (Told V C) AllocError))
      (s : Slot V C) (slots : List (Slot V C)) : Type 0 where
    pub block : Block
    pub within : length all < length blocks
    pub place : (d : Block) → get_or blocks (length all) d ≡ block
    pub slot : IsSlotOf told block s
    pub further : (r : Result (Told V C) AllocError) → IsToldOf told block r → Ordered blocks (all ++ r ∷ []) slots

  behind : (done : List Block) (b : Block) (rest : List Block) (d : Block)
      → get_or (done ++ b ∷ rest) (length done) d ≡ b
  behind [] b rest d = refl
  behind (c ∷ done) b rest d = behind done b rest d

  pub next : (blocks : List Block) (all : List (Result (Told V C) AllocError)) (s : Slot V C)
      (slots left : List (Slot V C)) → left ≡ s ∷ slots → Ordered blocks all left → Next blocks all s slots
  next blocks all s slots left is o = at o.done o.rest o.both o.are (subst (λ ss. AreSlots told ss o.rest) is o.left)
    where
      at : (done rest : List Block) → done ++ rest ≡ blocks → AreTold told all done → AreSlots told (s ∷ slots) rest
          → Next blocks all s slots
      at done [] both are left = absurd left
      at done (b ∷ rest) both are left =
          record {
            block = b;
            within = omega (arith, as_many all done are, length-append done (b ∷ rest), ap length both);
            place = λ d.
                ap (λ (bs : List Block). get_or bs (length all) d) (sym both)
                ∙ ap (λ (n : ℕ). get_or (done ++ b ∷ rest) n d) (as_many all done are) ∙ behind done b rest d;
            slot = left.0;
            further = λ r is. record {
              done = done ++ b ∷ [];
              rest = rest;
              both = append_assoc done (b ∷ []) rest ∙ both;
              are = told_more all done r b are is;
              left = left.1;
            };
          }

  pub all_ordered : (blocks : List Block) (all : List (Result (Told V C) AllocError)) → Ordered blocks all []
      → AreTold told all blocks
  all_ordered blocks all o = at o.rest o.both o.left
    where
      at : (rest : List Block) → o.done ++ rest ≡ blocks → AreSlots told [] rest → AreTold told all blocks
      at [] both left = subst (λ (bs : List Block). AreTold told all bs) (sym (append-nil o.done) ∙ both) o.are
      at (b ∷ rest) both left = absurd left
