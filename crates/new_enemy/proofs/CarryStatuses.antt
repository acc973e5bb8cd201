-- What the status of a run tells that begins with a carry, or hands one on.
use Rattle.std.proofs.Common.{◌≡◌, ◌≢◌, ◌⊎◌, inl, inr, ℕ, Bool, true, false, ◌≤◌, arith, refl}
use Rattle.audit.specs.declared.plain.Verdict.{Verdict}
use Rattle.audit.specs.declared.plain.Verdict.TheVariants.{Clean, Dirty}
use Rattle.follow.specs.Carried.{IsOfBytes}
use Rattle.follow.specs.declared.carried.CarryRefusal.{CarryRefusal}
use Rattle.follow.specs.declared.carried.CarryRefusal.TheVariants as refusal
use Rattle.new_enemy.specs.Carrying.{IsStatusOfRefusal, status_of_end}

-- ---- of a run that ended

pub clean_end : (v : Verdict) (whole : Bool) (s : ℕ) → s ≡ status_of_end v whole → s ≡ 0 → (v ≡ Clean) × (whole ≡ true)
clean_end Dirty whole s is zero = absurd (omega (arith, is, zero))
clean_end Clean true s is zero = (refl, refl)
clean_end Clean false s is zero = absurd (omega (arith, is, zero))

pub dirty_end : (v : Verdict) (whole : Bool) (s : ℕ) → s ≡ status_of_end v whole → s ≡ 1 → v ≡ Dirty
dirty_end Dirty whole s is one = refl
dirty_end Clean true s is one = absurd (omega (arith, is, one))
dirty_end Clean false s is one = absurd (omega (arith, is, one))

pub left_end : (v : Verdict) (whole : Bool) (s : ℕ) → s ≡ status_of_end v whole → s ≡ 6 → (v ≡ Clean) × (whole ≡ false)
left_end Dirty whole s is six = absurd (omega (arith, is, six))
left_end Clean true s is six = absurd (omega (arith, is, six))
left_end Clean false s is six = (refl, refl)

-- it is none of those of a fault
pub no_fault : (v : Verdict) (whole : Bool) (s : ℕ) → s ≡ status_of_end v whole → (s ≤ 1) ⊎ (s ≡ 6)
no_fault Dirty whole s is = inl (omega (arith, is))
no_fault Clean true s is = inl (omega (arith, is))
no_fault Clean false s is = inr is

pub no_fault_is : {X : Type 0} (v : Verdict) (whole : Bool) (s : ℕ) → s ≡ status_of_end v whole → 2 ≤ s → s ≤ 5 → X
no_fault_is v whole s is two five = elim (no_fault v whole s is) [
  | inl one ↦ absurd (omega (arith, one, two))
  | inr six ↦ absurd (omega (arith, six, five))
]

-- ---- of a carry that is refused

pub refusal_few : (f : CarryRefusal) (s : ℕ) → IsStatusOfRefusal f s → (2 ≤ s) × (s ≤ 5) × (s ≢ 3)
refusal_few refusal.Read s is = (omega (arith, is), omega (arith, is), λ three. absurd (omega (arith, is, three)))
refusal_few refusal.OutOfMemory s is = (omega (arith, is), omega (arith, is), λ three. absurd (omega (arith, is, three)))
refusal_few refusal.TooLong s is = (omega (arith, is), omega (arith, is), λ three. absurd (omega (arith, is, three)))
refusal_few (refusal.Form e) s is = (omega (arith, is), omega (arith, is), λ three. absurd (omega (arith, is, three)))
refusal_few (refusal.Log e) s is = (omega (arith, is), omega (arith, is), λ three. absurd (omega (arith, is, three)))

-- status 2 says that it is of the bytes
pub refusal_of_bytes : (f : CarryRefusal) (s : ℕ) → IsStatusOfRefusal f s → s ≡ 2 → IsOfBytes f
refusal_of_bytes refusal.Read s is two = absurd (omega (arith, is, two))
refusal_of_bytes refusal.OutOfMemory s is two = absurd (omega (arith, is, two))
refusal_of_bytes refusal.TooLong s is two = tt
refusal_of_bytes (refusal.Form e) s is two = tt
refusal_of_bytes (refusal.Log e) s is two = tt

-- status 5 that its reader failed, and any other that it did not
pub refusal_of_reader : (f : CarryRefusal) (s : ℕ) → IsStatusOfRefusal f s → s ≡ 5 → f ≡ refusal.Read
refusal_of_reader refusal.Read s is five = refl
refusal_of_reader refusal.OutOfMemory s is five = absurd (omega (arith, is, five))
refusal_of_reader refusal.TooLong s is five = absurd (omega (arith, is, five))
refusal_of_reader (refusal.Form e) s is five = absurd (omega (arith, is, five))
refusal_of_reader (refusal.Log e) s is five = absurd (omega (arith, is, five))

pub refusal_of_no_reader : (f : CarryRefusal) (s : ℕ) → IsStatusOfRefusal f s → s ≢ 5 → f ≢ refusal.Read
refusal_of_no_reader refusal.Read s is other = λ same. other is
refusal_of_no_reader refusal.OutOfMemory s is other = λ same. cc
refusal_of_no_reader refusal.TooLong s is other = λ same. cc
refusal_of_no_reader (refusal.Form e) s is other = λ same. cc
refusal_of_no_reader (refusal.Log e) s is other = λ same. cc
