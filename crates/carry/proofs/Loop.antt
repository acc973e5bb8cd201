-- Reading values one after the other, as a loop does.
use Rattle.std.proofs.Common.{◌≡◌, ℕ, suc, ◌-◌, ◌+◌, ◌≤◌, ◌<◌, List, [], ◌∷◌, ◌++◌, Result, Ok, Err, refl, sym, ap, ◌∙◌, append_assoc, arith}
use Rattle.std.proofs.lemmas.List.{append-nil}
use Rattle.refusals.specs.Refusals.{◌>>=◌, Fails}
use Rattle.carry.specs.declared.fault.FieldFault.{FieldFault}
use Rattle.carry.specs.declared.fault.FieldFault.TheVariants.{OutOfMemory, Left}
use Rattle.carry.specs.Faults.{is_memory}
use Rattle.carry.specs.Fields.{Reader, repeated}

-- what was read before, and what is still read
abbrev pub with_front : {A : Type 0} → List A → Result (List A × List ℕ) FieldFault → Result (List A × List ℕ) FieldFault
with_front front read = read >>= λ x. Ok (front ++ x.0, x.1)

module _ {A : Type 0} (read : Reader A) where
  regroup : (front : List A) (a : A) (more : Result (List A × List ℕ) FieldFault) → with_front front (more >>= λ x. Ok (a ∷ x.0, x.1)) ≡ with_front (front ++ a ∷ []) more
  regroup front a (Ok x) = ap (λ (xs : List A). Ok (xs, x.1)) (simp append_assoc)
  regroup front a (Err f) = refl

  pub goes_on : (front : List A) (count i : ℕ) (text : List ℕ) (a : A) (after : List ℕ) (total : Result (List A × List ℕ) FieldFault) → i < count → read text ≡ Ok (a, after)
      → with_front front (repeated read (count - i) text) ≡ total → with_front (front ++ a ∷ []) (repeated read (count - (i + 1)) after) ≡ total
  goes_on front count i text a after total lt h so_far =
      let k : count - i ≡ suc (count - (i + 1)) = omega arith in
      let one : with_front front (repeated read (count - i) text) ≡ with_front (front ++ a ∷ []) (repeated read (count - (i + 1)) after) = rw (k, h) (regroup front a (repeated read (count - (i + 1)) after)) in
      sym one ∙ so_far

  pub ends : (e : FieldFault) (front : List A) (count i : ℕ) (text : List ℕ) (total : Result (List A × List ℕ) FieldFault) → i < count → Fails is_memory e (read text)
      → with_front front (repeated read (count - i) text) ≡ total → Fails is_memory e total
  ends OutOfMemory front count i text total lt h so_far = tt
  ends (Left n) front count i text total lt h so_far =
      let k : count - i ≡ suc (count - (i + 1)) = omega arith in
      let one : with_front front (repeated read (count - i) text) ≡ Err (Left n) = rw (k, h) refl in
      sym so_far ∙ one

  pub is_done : (front : List A) (count i : ℕ) (text : List ℕ) (total : Result (List A × List ℕ) FieldFault) → count ≤ i → with_front front (repeated read (count - i) text) ≡ total → total ≡ Ok (front, text)
  is_done front count i text total le so_far =
      let k : count - i ≡ 0 = omega arith in
      let one : with_front front (repeated read (count - i) text) ≡ Ok (front, text) = rw k (ap (λ (xs : List A). Ok (xs, text)) (append-nil front)) in
      sym so_far ∙ one

-- a fault of a function that takes no memory
pub told : {Y : Type 0} (e : FieldFault) (r : Result Y FieldFault) → r ≡ Err e → Fails is_memory e r
told OutOfMemory r h = tt
told (Left n) r h = h
