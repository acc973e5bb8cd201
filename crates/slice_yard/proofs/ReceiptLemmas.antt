-- What is handed out of a yard that was closed.
use Rattle.std.proofs.Common.{◌≡◌, ⊎_elim, ℕ, zero, suc, ◌+◌, ◌<◌, ◌≤◌, List, [], ◌∷◌, All, length, set, get_or, map, sym, refl, ap, ◌∙◌, subst, arith}
use Rattle.std.specs.Prelude.{Contains}
use Rattle.std.proofs.lemmas.Bool.{lt-ltb, le-ltb}
use Rattle.std.proofs.lemmas.List.{map-set, get_or-map, length-map, map-append}
use Rattle.std.proofs.lemmas.List.Elements.{All-nil, All-cons}
use Rattle.slice_yard.specs.declared.slices.Slice.{Slice}
use Rattle.slice_yard.specs.declared.rule.Hand.{Hand}
use Rattle.slice_yard.specs.declared.lane.Lane.{Lane}
use Rattle.slice_yard.specs.Hands.{Entry, owner_hand, handed_rest, SeatsBelow, slices as log_slices}
use Rattle.slice_yard.specs.Lane.{lane_hand}
use Rattle.slice_core.specs.Places.{numbers_of}
use Rattle.slice_yard.specs.ClosedRuns.{WereOpened, ListsAreRun, worker_at}
use Rattle.slice_yard.specs.Shared.{IsSpent, HasEachOnce, HandedLeft}
use Rattle.slice_core.proofs.RunSteps.{start_run}
use Rattle.slice_yard.proofs.Shares.{shared_sum}
use Rattle.slice_core.proofs.Tables.{table_at, table_length, below_or_past}

worker_below : (l workers seat : ℕ) → l < workers → seat < workers → worker_at l seat < workers
worker_below l workers zero lt below = lt
worker_below l workers (suc s) lt below = ⊎_elim
    (λ (low : s < l). subst (λ w. w < workers) (sym (let e : worker_at l (suc s) ≡ s = rw (lt-ltb s l low) refl in e)) (omega arith))
    (λ (high : l ≤ s). subst (λ w. w < workers) (sym (let e : worker_at l (suc s) ≡ suc s = rw (le-ltb s l high) refl in e)) below)
    (below_or_past s l)

are_workers : (l workers : ℕ) (log : List Entry) → l < workers → SeatsBelow workers log → All (λ w. w < workers) (map (λ e. worker_at l e.0) log)
are_workers l workers [] lt below = All-nil (λ (w : ℕ). w < workers)
are_workers l workers (e ∷ log) lt below = All-cons (λ (w : ℕ). w < workers) (worker_at l e.0) _ (worker_below l workers e.0 lt below.0) (are_workers l workers log lt below.1)

log_length : (log : List Entry) → length log ≡ length (log_slices log)
log_length [] = refl
log_length (e ∷ log) = ap suc (log_length log)

module _ (before lanes : List Lane) (i : ℕ) (d : Lane) (same : map lane_hand lanes ≡ map lane_hand before) (within : i < length lanes) where
  pub within_before : i < length before
  within_before = let a = length-map lanes lane_hand in let b = length-map before lane_hand in let c = ap length same in omega arith

  hand_at : get_or (map lane_hand before) i owner_hand ≡ lane_hand (get_or lanes i d)
  hand_at = ap (λ hs. get_or hs i owner_hand) (sym same) ∙ get_or-map lane_hand lanes i d owner_hand within

  pub handed_left : (new : Lane) (x : Slice) → lane_hand new ≡ handed_rest (lane_hand (get_or lanes i d)) (x ∷ []) → Contains (lane_hand (get_or lanes i d)).opening x → HandedLeft (map lane_hand before) (map lane_hand (set lanes i new)) x
  handed_left new x hand inside = record {
    lane = i;
    is_lane = let a = length-map before lane_hand in let b = within_before in omega arith;
    hand = map-set lane_hand lanes i new ∙ ap (λ hs. set hs i (lane_hand new)) same ∙ ap (set (map lane_hand before) i) (hand ∙ ap (λ v. handed_rest v (x ∷ [])) (sym hand_at));
    put_in = subst (λ (v : Hand). Contains v.opening x) (sym hand_at) inside;
  }

  pub spent_at : IsSpent (lane_hand (get_or lanes i d)) → (e : Lane) → IsSpent (lane_hand (get_or before i e))
  spent_at spent e = subst IsSpent (sym hand_at ∙ get_or-map lane_hand before i e owner_hand within_before) spent

-- once nothing is left
module _ (hands : List Hand) (spent : All IsSpent hands) where
  pub each_once : All (λ v. v.seats ≡ length v.closed + 1) hands → All HasEachOnce hands
  each_once joined = λ k d lt h. shared_sum (get_or hands k d) (get_or hands k d).opening (spent k d lt) (joined k d lt) h

  pub lists_run : (slices lanes workers : ℕ) → WereOpened slices lanes workers hands → (l : ℕ) → l < lanes → ListsAreRun slices lanes workers l (get_or hands l owner_hand)
  lists_run slices lanes workers opened l lt =
      let count : length hands ≡ lanes = sym (length-map hands (λ (v : Hand). map (λ (x : Slice). x.number) v.opening)) ∙ ap length opened.openings ∙ table_length (numbers_of slices lanes) lanes in
      let v = get_or hands l owner_hand in
      let known = spent l owner_hand (omega arith) in
      let opening : map (λ (x : Slice). x.number) v.opening ≡ numbers_of slices lanes l = table_at (λ (v : Hand). map (λ (x : Slice). x.number) v.opening) (numbers_of slices lanes) lanes hands l owner_hand opened.openings lt in
      let seats : v.seats ≡ workers = opened.seats l owner_hand (omega arith) in
      let en = opened.enough in
      record {
        log = known.log;
        owner = known.owner;
        thieves = known.thieves;
        run = start_run slices lanes workers l (map (λ (e : Entry). worker_at l e.0) known.log) (map (λ (x : Slice). x.number) (log_slices known.log)) (map (λ (x : Slice). x.number) v.rest) lt
            (sym (map-append (λ (x : Slice). x.number) (log_slices known.log) v.rest) ∙ ap (map (λ (x : Slice). x.number)) known.all ∙ opening)
            (length-map known.log (λ (e : Entry). worker_at l e.0) ∙ log_length known.log ∙ sym (length-map (log_slices known.log) (λ (x : Slice). x.number)))
            (are_workers l workers known.log (omega arith) (subst (λ n. SeatsBelow n known.log) seats known.seated));
      }
