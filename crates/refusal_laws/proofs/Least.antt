-- Tests one behind the other, whose faults have rising numbers, tell the least that applies.
use Rattle.std.proofs.Common.{◌≡◌, ℕ, ◌≤◌, List, [], ◌∷◌, ◌++◌, Option, None, Some, Result, Ok, Err, ◌⊎◌, inl, inr, refl, sym, ap, ◌∙◌, subst, arith}
use Rattle.refusal_laws.specs.LeastCause.{IsLeast, TellsTheLeast, first_fault, fault_or, readable, read_and}

-- the first fault, or what stands behind the tests
abbrev pub chain : {A C : Type 0} → List (Option C) → Result A C → Result A C
chain [] r = r
chain (None ∷ os) r = chain os r
chain (Some c ∷ os) r = Err c

abbrev pub HasNumber : {C : Type 0} → (C → ℕ) → ℕ → Option C → Type 0
HasNumber {C} number k o = (c : C) → o ≡ Some c → number c ≡ k

abbrev pub AreRising : {C : Type 0} → (C → ℕ) → ℕ → List (Option C) → Type 0
AreRising number least [] = Unit {0}
AreRising number least (o ∷ os) = (k : ℕ) × (least ≤ k) × HasNumber number k o × AreRising number k os

-- some test has this fault
abbrev pub IsFault : {C : Type 0} → List (Option C) → C → Type 0
IsFault [] c = ⊥
IsFault (o ∷ os) c = (o ≡ Some c) ⊎ IsFault os c

module _ {C : Type 0} (number : C → ℕ) where
  not_below : (least : ℕ) (os : List (Option C)) → AreRising number least os → (c : C) → IsFault os c → least ≤ number c
  not_below least [] rising c h = absurd h
  not_below least (o ∷ os) (k, le, is, rest) c (inl e) = let same = is c e in omega arith
  not_below least (o ∷ os) (k, le, is, rest) c (inr h) = let more = not_below k os rest c h in omega arith

module _ {A C : Type 0} (number : C → ℕ) where
  chain_refused : (least : ℕ) (os : List (Option C)) → AreRising number least os → (a : A) (c : C) → chain os (Ok a) ≡ Err c
      → IsLeast number (IsFault os) c
  chain_refused least [] rising a c e = absurd (cc)
  chain_refused least (None ∷ os) (k, le, is, rest) a c e =
      let h = chain_refused k os rest a c e in (inr h.0, λ d m. elim m [ inl n ↦ absurd (cc) | inr more ↦ h.1 d more ])
  chain_refused least (Some b ∷ os) (k, le, is, rest) a c e =
      let same : b ≡ c = cc in (
        inl (ap (λ (x : C). Some x) same),
        λ d m. let own = is c (ap (λ (x : C). Some x) same) in elim m [
          | inl s ↦ (let his = is d s in omega arith)
          | inr more ↦ (let his = not_below number k os rest d more in omega arith)
        ],
      )

  chain_taken : (os : List (Option C)) (r : A) (a : A) → chain os (Ok r) ≡ Ok a → (c : C) → ¬ IsFault os c
  chain_taken [] r a e c h = h
  chain_taken (None ∷ os) r a e c (inl n) = cc
  chain_taken (None ∷ os) r a e c (inr more) = chain_taken os r a e c more
  chain_taken (Some b ∷ os) r a e c h = cc

  -- so it is of a line that is read by such tests, where its causes are their faults
  pub tells_the_least : (Applies : C → Type 0) (os : List (Option C)) (a : A) → AreRising number 0 os
      → ((c : C) → Applies c → IsFault os c) → ((c : C) → IsFault os c → Applies c)
      → TellsTheLeast number Applies (chain os (Ok a))
  tells_the_least Applies os a rising there back = record {
    refused = λ c e. let h = chain_refused 0 os rising a c e in (back c h.0, λ d applies. h.1 d (there d applies));
    taken = λ b e c applies. chain_taken os a b e c (there c applies);
  }

-- each fault of the tests meets P
abbrev pub EachMeets : {C : Type 0} → (C → Type 0) → List (Option C) → Type 0
EachMeets P [] = Unit {0}
EachMeets {C} P (o ∷ os) = ((c : C) → o ≡ Some c → P c) × EachMeets P os

pub one_meets : {C : Type 0} (P : C → Type 0) (os : List (Option C)) → EachMeets P os → (c : C) → IsFault os c → P c
one_meets P [] each c m = absurd m
one_meets P (o ∷ os) each c (inl e) = each.0 c e
one_meets P (o ∷ os) each c (inr more) = one_meets P os each.1 c more

-- a fault that is the only one to apply is the least
pub tells_the_only : {A C : Type 0} (number : C → ℕ) (Applies : C → Type 0) (c : C) → Applies c
    → ((d : C) → Applies d → c ≡ d) → TellsTheLeast {A = A} number Applies (Err c)
tells_the_only {A} {C} number Applies c applies only = record {
  refused = λ b e. let same : c ≡ b = cc in
      (subst Applies same applies, λ d h. let own = only d h in subst (λ (x : C). number x ≤ number d) (sym own ∙ same) (le_refl (number d)));
  taken = λ a e b h. absurd (cc);
}
  where
    le_refl : (n : ℕ) → n ≤ n
    le_refl n = omega arith

-- ---- texts

-- the first fault of two
abbrev pub first_of_two : {F : Type 0} → Option F → Option F → Option F
first_of_two None o = o
first_of_two (Some f) o = Some f

module _ {V F : Type 0} (read : List ℕ → Result V F) where
  pub first_fault-append : (ls ms : List (List ℕ)) → first_fault read (ls ++ ms) ≡ first_of_two (first_fault read ls) (first_fault read ms)
  first_fault-append [] ms = refl
  first_fault-append (l ∷ ls) ms = by_result (read l) (first_fault-append ls ms)
    where
      by_result : (r : Result V F) → first_fault read (ls ++ ms) ≡ first_of_two (first_fault read ls) (first_fault read ms)
          → fault_or r (first_fault read (ls ++ ms)) ≡ first_of_two (fault_or r (first_fault read ls)) (first_fault read ms)
      by_result (Ok v) same = same
      by_result (Err f) same = refl

  pub readable-append : (ls ms : List (List ℕ)) → readable read (ls ++ ms) ≡ readable read ls ++ readable read ms
  readable-append [] ms = refl
  readable-append (l ∷ ls) ms = by_result (read l) (readable-append ls ms)
    where
      by_result : (r : Result V F) → readable read (ls ++ ms) ≡ readable read ls ++ readable read ms
          → read_and r (readable read (ls ++ ms)) ≡ read_and r (readable read ls) ++ readable read ms
      by_result (Ok v) same = rw same refl
      by_result (Err f) same = same
