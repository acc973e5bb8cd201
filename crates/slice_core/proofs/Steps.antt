use Rattle.std.proofs.Common.{◌≡◌, ℕ, zero, suc, ◌+◌, ◌==◌, true, false, List, [], ◌∷◌, ◌++◌, set, sym, refl, ap, ◌∙◌, arith, append_assoc}
use Rattle.std.specs.Prelude.{Option, Some, None, sum_by, slice_get, slice_index_or, unwrap_or, if◌then◌else◌}
use Rattle.std.proofs.lemmas.List.Sums.{sum_by-cons, sum_by-append}
use Rattle.slice_core.specs.declared.machine.Event.{Event}
use Rattle.slice_core.specs.declared.machine.Event.TheVariants.{Take, Steal, Finish, Fail}
use Rattle.slice_core.specs.Places.{State, moved, finished, failed, after, run, hand_sum, weight, Drains}

-- a sum, where the element at i becomes y
pub sum_set : {X : Type 0} (f : X → ℕ) (xs : List X) (i : ℕ) (x y : X) → slice_get xs i ≡ Some x → sum_by f (set xs i y) + f x ≡ sum_by f xs + f y
sum_set f [] i x y e = absurd (cc)
sum_set f (z ∷ xs) zero x y e = let is : z ≡ x = cc in let k = ap f is in omega (arith, sum_by-cons f y xs, sum_by-cons f z xs)
sum_set f (z ∷ xs) (suc i) x y e = let t = sum_set f xs i x y e in omega (arith, sum_by-cons f z (set xs i y), sum_by-cons f z xs)

drained : (lanes : List (List ℕ)) (l : ℕ) (x : ℕ) (xs : List ℕ) → slice_get lanes l ≡ Some (x ∷ xs) → (k : ℕ) → (front : List ℕ) × (slice_index_or lanes k [] ≡ front ++ slice_index_or (set lanes l xs) k [])
drained [] l x xs e k = absurd (cc)
drained (y ∷ lanes) zero x xs e zero = let is : y ≡ x ∷ xs = cc in (x ∷ [], is)
drained (y ∷ lanes) zero x xs e (suc k) = ([], refl)
drained (y ∷ lanes) (suc l) x xs e zero = ([], refl)
drained (y ∷ lanes) (suc l) x xs e (suc k) = drained lanes l x xs e k

abbrev pub Good : State → Option State → Type 0
Good s o = ((h : ℕ → ℕ) → weight h (unwrap_or o s) ≡ weight h s) × Drains s (unwrap_or o s)

same : (s : State) → Good s None
same s = ((λ h. refl), λ l. ([], refl))

pub good_moved : (s : State) (w l : ℕ) (a : Option (Option ℕ)) (b : Option (List ℕ)) → slice_get s.hands w ≡ a → slice_get s.lanes l ≡ b → Good s (moved s w l a b)
good_moved s w l None b ea eb = same s
good_moved s w l (Some (Some y)) b ea eb = same s
good_moved s w l (Some None) None ea eb = same s
good_moved s w l (Some None) (Some []) ea eb = same s
good_moved s w l (Some None) (Some (x ∷ xs)) ea eb = (
  (λ h.
      let a = sum_set (hand_sum h) s.hands w None (Some x) ea in
      let b = sum_set (λ (l : List ℕ). sum_by h l) s.lanes l (x ∷ xs) xs eb in
      omega (arith, sum_by-cons h x xs)),
  drained s.lanes l x xs eb,
)

-- a slice goes from a hand to the end of a list
given_up : (h : ℕ → ℕ) (hands : List (Option ℕ)) (w x : ℕ) (kept : List ℕ) → slice_get hands w ≡ Some (Some x)
    → sum_by (hand_sum h) (set hands w None) + sum_by h (kept ++ x ∷ []) ≡ sum_by (hand_sum h) hands + sum_by h kept
given_up h hands w x kept held =
    let emptied = sum_set (hand_sum h) hands w (Some x) None held in
    omega (arith, emptied, sum_by-append h kept (x ∷ []), sum_by-cons h x [])

good_finished : (s : State) (w : ℕ) (a : Option (Option ℕ)) → slice_get s.hands w ≡ a → Good s (finished s w a)
good_finished s w None ea = same s
good_finished s w (Some None) ea = same s
good_finished s w (Some (Some x)) ea = ((λ h. omega (arith, given_up h s.hands w x s.done ea)), λ l. ([], refl))

good_failed : (s : State) (w : ℕ) (a : Option (Option ℕ)) → slice_get s.hands w ≡ a → Good s (failed s w a)
good_failed s w None ea = same s
good_failed s w (Some None) ea = same s
good_failed s w (Some (Some x)) ea = ((λ h. omega (arith, given_up h s.hands w x s.lost ea)), λ l. ([], refl))

good : (s : State) (e : Event) → Good s (after s e)
good s (Take w) = good_moved s w w (slice_get s.hands w) (slice_get s.lanes w) refl refl
good s (Steal w l) = elim (w == l) as (λ b. Good s (if b then None else moved s w l (slice_get s.hands w) (slice_get s.lanes l))) [ true ↦ same s | false ↦ good_moved s w l (slice_get s.hands w) (slice_get s.lanes l) refl refl ]
good s (Finish w) = good_finished s w (slice_get s.hands w) refl
good s (Fail w) = good_failed s w (slice_get s.hands w) refl

pub each_once : (h : ℕ → ℕ) (s : State) (events : List Event) → weight h (run s events) ≡ weight h s
each_once h s [] = refl
each_once h s (e ∷ es) = each_once h (unwrap_or (after s e) s) es ∙ (good s e).0 h

pub in_order : (s : State) (events : List Event) → Drains s (run s events)
in_order s [] l = ([], refl)
in_order s (e ∷ es) l =
    let t = unwrap_or (after s e) s in
    let a = (good s e).1 l in
    let b = in_order t es l in
    (a.0 ++ b.0, a.1 ∙ ap (λ r. a.0 ++ r) b.1 ∙ sym (append_assoc a.0 b.0 (slice_index_or (run t es).lanes l [])))
