-- What the passes of a lane were handed, added up, is what left it.
use Rattle.std.proofs.Common.{◌≡◌, ◌≢◌, ◌⊎◌, ℕ, zero, suc, ◌+◌, ◌<◌, ◌≤◌, List, [], ◌∷◌, ◌++◌, length, sym, refl, ap, ◌∙◌, subst, arith, eq-eqb, ne_eqb, inl, inr, ⊎_elim}
use Rattle.std.specs.Prelude.{sum_by, slice_index_or}
use Rattle.std.proofs.lemmas.List.Sums.{sum_by-cons, sum_by-append}
use Rattle.slice_yard.specs.declared.slices.Slice.{Slice}
use Rattle.slice_yard.specs.declared.rule.Hand.{Hand}
use Rattle.slice_yard.specs.Hands.{Entry, slices, of, SeatsBelow, IsShared}

-- the sums of the seats from s on, n of them
from_seats : (Slice → ℕ) → List Entry → ℕ → ℕ → ℕ
from_seats h log s zero = 0
from_seats h log s (suc n) = sum_by h (of s log) + from_seats h log (suc s) n

no_entries : (h : Slice → ℕ) (s n : ℕ) → from_seats h [] s n ≡ 0
unfolding from_seats
no_entries h s zero = refl
no_entries h s (suc n) = let t = no_entries h (suc s) n in omega arith

here_or_past : (s k : ℕ) → s ≤ k → (k ≡ s) ⊎ (s < k)
here_or_past zero zero le = inl refl
here_or_past zero (suc k) le = inr (omega arith)
here_or_past (suc s) zero le = absurd (omega arith)
here_or_past (suc s) (suc k) le = ⊎_elim (λ (is : k ≡ s). inl (ap suc is)) (λ (past : s < k). inr (omega arith)) (here_or_past s k (omega arith))

-- an entry counts at its seat alone
module _ (h : Slice → ℕ) (e : Entry) (log : List Entry) where
  other_seat : (s : ℕ) → e.0 ≢ s → sum_by h (of s (e ∷ log)) ≡ sum_by h (of s log)
  other_seat s apart = rw (ne_eqb e.0 s apart) refl

  this_seat : (s : ℕ) → e.0 ≡ s → sum_by h (of s (e ∷ log)) ≡ h e.1 + sum_by h (of s log)
  this_seat s is = rw (eq-eqb e.0 s is) (sum_by-cons h e.1 (of s log))

  seats_after : (s n : ℕ) → e.0 < s → from_seats h (e ∷ log) s n ≡ from_seats h log s n
  unfolding from_seats
  seats_after s zero lt = refl
  seats_after s (suc n) lt = let a = other_seat s (λ is. omega arith) in let t = seats_after (suc s) n (omega arith) in omega arith

  seats_with : (s n : ℕ) → s ≤ e.0 → e.0 < s + n → from_seats h (e ∷ log) s n ≡ h e.1 + from_seats h log s n
  unfolding from_seats
  seats_with s zero le lt = absurd (omega arith)
  seats_with s (suc n) le lt = ⊎_elim
      (λ (is : e.0 ≡ s). let a = this_seat s is in let t = seats_after (suc s) n (omega arith) in omega arith)
      (λ (past : s < e.0). let a = other_seat s (λ is. omega arith) in let t = seats_with (suc s) n (omega arith) (omega arith) in omega arith)
      (here_or_past s e.0 le)

log_sum : (h : Slice → ℕ) (n : ℕ) (log : List Entry) → SeatsBelow n log → sum_by h (slices log) ≡ from_seats h log 0 n
log_sum h n [] b = sym (no_entries h 0 n)
log_sum h n (e ∷ log) b =
    let t = log_sum h n log b.1 in
    let a = seats_with h e log 0 n (omega arith) (omega arith) in
    omega (arith, sum_by-cons h e.1 (slices log))

lists_sum : (h : Slice → ℕ) (log : List Entry) (s : ℕ) (lists : List (List Slice)) → ((k : ℕ) → k < length lists → slice_index_or lists k [] ≡ of (s + k) log) → sum_by (λ l. sum_by h l) lists ≡ from_seats h log s (length lists)
unfolding from_seats
lists_sum h log s [] e = refl
lists_sum h log s (l ∷ lists) e =
    let first : l ≡ of s log = e 0 (omega arith) ∙ ap (λ k. of k log) (let z : s + 0 ≡ s = omega arith in z) in
    let a : sum_by h l ≡ sum_by h (of s log) = ap (sum_by h) first in
    let t = lists_sum h log (suc s) lists (λ k lt. e (suc k) (omega arith) ∙ ap (λ k. of k log) (let z : s + suc k ≡ suc s + k = omega arith in z)) in
    omega (arith, sum_by-cons (λ (l : List Slice). sum_by h l) l lists)

pub shared_sum : (v : Hand) (whole : List Slice) → IsShared v whole → v.seats ≡ length v.closed + 1 → (h : Slice → ℕ) → sum_by h whole ≡ (sum_by h v.handed + sum_by (λ l. sum_by h l) v.closed) + sum_by h v.rest
unfolding from_seats
shared_sum v whole shared all h =
    let a = log_sum h (suc (length v.closed)) shared.log (subst (λ n. SeatsBelow n shared.log) (let z : v.seats ≡ suc (length v.closed) = omega arith in z) shared.seated) in
    let b = lists_sum h shared.log 1 v.closed (λ k lt. shared.thieves k lt ∙ ap (λ k. of k shared.log) (let z : suc k ≡ 1 + k = omega arith in z)) in
    let c : sum_by h v.handed ≡ sum_by h (of 0 shared.log) = ap (sum_by h) shared.owner in
    let d : sum_by h whole ≡ sum_by h (slices shared.log ++ v.rest) = ap (sum_by h) (sym shared.all) in
    omega (arith, sum_by-append h (slices shared.log) v.rest)
