-- Runs of the machine, lane by lane.
use Rattle.std.proofs.Common.{◌≡◌, ◌≢◌, ⊎_elim, true, false, ℕ, zero, suc, ◌+◌, ◌<◌, ◌≤◌, ◌==◌, List, [], ◌∷◌, ◌++◌, length, set, get_or, All, sym, refl, ap, ◌∙◌, subst, arith, append_assoc, append-nil}
use Rattle.std.specs.Prelude.{Option, Some, None, slice_get, nat_lt, if◌then◌else◌}
use Rattle.std.specs.List.{flat_map, range_with_len}
use Rattle.std.proofs.lemmas.Bool.{lt-ltb, le-ltb}
use Rattle.std.proofs.lemmas.Bool.Decides.{eqb_tells}
use Rattle.std.proofs.lemmas.Grind.{flat_map-append}
use Rattle.std.proofs.lemmas.List.Elements.{All-head, All-tail}
use Rattle.std.proofs.lemmas.List.FromFn.{map-range_with_len_more}
use Rattle.slice_core.specs.declared.machine.Event.{Event}
use Rattle.slice_core.specs.declared.machine.Event.TheVariants.{Take, Steal, Finish}
use Rattle.slice_core.specs.Named.{named_from}
use Rattle.slice_core.specs.Places.{State, after, moved, finished, numbers_of, start_state}
use Rattle.slice_core.specs.Runs.{Runs, lane_events, IsLaneRun, all_events, IsOneRun}
use Rattle.slice_core.proofs.Tables.{table_set, table_same, table_get, map_id, below_or_past}

runs_append : (s t u : State) (es fs : List Event) → Runs s es t → Runs t fs u → Runs s (es ++ fs) u
runs_append s t u [] fs r q = subst (λ v. Runs v fs u) (sym r) q
runs_append s t u (e ∷ es) fs r q = (r.0, r.1, runs_append r.0 t u es fs r.2 q)

set_set : {X : Type 0} (xs : List X) (i : ℕ) (x y : X) → set (set xs i x) i y ≡ set xs i y
set_set [] i x y = refl
set_set (z ∷ zs) zero x y = refl
set_set (z ∷ zs) (suc i) x y = ap (λ l. z ∷ l) (set_set zs i x y)

set_back : {X : Type 0} (xs : List X) (i : ℕ) (x : X) → slice_get xs i ≡ Some x → set xs i x ≡ xs
set_back [] i x e = refl
set_back (z ∷ zs) zero x e = let is : z ≡ x = cc in ap (λ y. y ∷ zs) (sym is)
set_back (z ∷ zs) (suc i) x e = ap (λ l. z ∷ l) (set_back zs i x e)

get_set : {X : Type 0} (xs : List X) (i : ℕ) (x y : X) → slice_get xs i ≡ Some x → slice_get (set xs i y) i ≡ Some y
get_set [] i x y e = absurd (cc)
get_set (z ∷ zs) zero x y e = refl
get_set (z ∷ zs) (suc i) x y e = get_set zs i x y e

-- a worker takes the first slice of lane l and finishes it
module _ (s : State) (l w x : ℕ) (xs : List ℕ) (idle : slice_get s.hands w ≡ Some None) (here : slice_get s.lanes l ≡ Some (x ∷ xs)) where
  abbrev holding : State
  holding = record { lanes = set s.lanes l xs; hands = set s.hands w (Some x); done = s.done; lost = s.lost }

  abbrev pub done_one : State
  done_one = record { lanes = set s.lanes l xs; hands = s.hands; done = s.done ++ x ∷ []; lost = s.lost }

  handed : after s (if w == l then Take w else Steal w l) ≡ Some holding
  handed = ⊎_elim
      (λ (h : ((w == l) ≡ true) × (w ≡ l)).
      let a : after s (Take w) ≡ Some holding = (λ i. moved s w (h.1 i) (idle i) (slice_get s.lanes (h.1 i))) ∙ ap (moved s w l (Some None)) here in
      ap (λ b. after s (if b then Take w else Steal w l)) h.0 ∙ a)
      (λ (h : ((w == l) ≡ false) × (w ≢ l)).
      let a : after s (Steal w l) ≡ Some holding = ap (λ b. if b then None else moved s w l (slice_get s.hands w) (slice_get s.lanes l)) h.0 ∙ (λ i. moved s w l (idle i) (here i)) in
      ap (λ b. after s (if b then Take w else Steal w l)) h.0 ∙ a)
      (eqb_tells w l)

  finishes : after holding (Finish w) ≡ Some done_one
  finishes = ap (finished holding w) (get_set s.hands w None (Some x) idle) ∙ ap (λ hs. Some record { lanes = set s.lanes l xs; hands = hs; done = s.done ++ x ∷ []; lost = s.lost }) (set_set s.hands w (Some x) None ∙ set_back s.hands w None idle)

-- workers do the front of lane l, one slice each
pub lane_run : (s : State) (l : ℕ) (ws xs rest : List ℕ) → length ws ≡ length xs → slice_get s.lanes l ≡ Some (xs ++ rest) → All (λ w. slice_get s.hands w ≡ Some None) ws
    → Runs s (lane_events l ws) record { lanes = set s.lanes l rest; hands = s.hands; done = s.done ++ xs; lost = s.lost }
lane_run s l [] [] rest count here idle = λ i. record { lanes = sym (set_back s.lanes l rest here) i; hands = s.hands; done = sym (append-nil s.done) i; lost = s.lost }
lane_run s l [] (x ∷ xs) rest count here idle = absurd (omega arith)
lane_run s l (w ∷ ws) [] rest count here idle = absurd (omega arith)
lane_run s l (w ∷ ws) (x ∷ xs) rest count here idle =
    let P : ℕ → Type 0 = λ w. slice_get s.hands w ≡ Some None in
    let first : slice_get s.hands w ≡ Some None = All-head P w ws idle in
    let u = done_one s l w x (xs ++ rest) first here in
    let next = lane_run u l ws xs rest (omega arith) (get_set s.lanes l (x ∷ (xs ++ rest)) (xs ++ rest) here) (All-tail P w ws idle) in
    let same : record { lanes = set u.lanes l rest; hands = s.hands; done = u.done ++ xs; lost = s.lost } ≡ record { lanes = set s.lanes l rest; hands = s.hands; done = s.done ++ x ∷ xs; lost = s.lost } =
    λ i. record { lanes = set_set s.lanes l (xs ++ rest) rest i; hands = s.hands; done = append_assoc s.done (x ∷ []) xs i; lost = s.lost } in
    (holding s l w x (xs ++ rest) first here, handed s l w x (xs ++ rest) first here, (u, finishes s l w x (xs ++ rest) first here, subst (Runs u (lane_events l ws)) same next))

range_more : (m : ℕ) → range_with_len 0 (m + 1) ≡ range_with_len 0 m ++ m ∷ []
range_more m = sym (map_id (range_with_len 0 (m + 1))) ∙ map-range_with_len_more (λ k. k) 0 m m (let z : 0 + m ≡ m = omega arith in z) ∙ ap (λ l. l ++ m ∷ []) (map_id (range_with_len 0 m))

-- the hands are empty
nobody : ℕ → Option ℕ
nobody w = None

pub idle_hands : (workers w : ℕ) → w < workers → slice_get {X = Option ℕ} (named_from (λ _. None) 0 workers) w ≡ Some None
unfolding nobody
idle_hands workers w lt = table_get nobody workers w lt

pub at_start : (slices lanes workers l : ℕ) → l < lanes → slice_get (start_state slices lanes workers).lanes l ≡ Some (numbers_of slices lanes l)
at_start slices lanes workers l lt = table_get (numbers_of slices lanes) lanes l lt

pub start_run : (slices lanes workers l : ℕ) (ws xs rest : List ℕ) → l < lanes → xs ++ rest ≡ numbers_of slices lanes l → length ws ≡ length xs → All (λ w. w < workers) ws → IsLaneRun slices lanes workers l ws xs rest
start_run slices lanes workers l ws xs rest lt whole count below = record {
  whole = whole;
  count = count;
  are_workers = below;
  run = lane_run (start_state slices lanes workers) l ws xs rest count (at_start slices lanes workers l lt ∙ ap (λ ks. Some ks) (sym whole)) (λ k d k_lt. idle_hands workers (get_or ws k d) (below k d k_lt));
}

module _ (slices lanes workers : ℕ) (ws xs rests : ℕ → List ℕ) (each : (l : ℕ) → l < lanes → IsLaneRun slices lanes workers l (ws l) (xs l) (rests l)) where
  -- what is in lane l once the lanes below m were done
  abbrev left : ℕ → ℕ → List ℕ
  left m l = if nat_lt l m then rests l else numbers_of slices lanes l

  abbrev reached : ℕ → State
  reached m = record { lanes = named_from (left m) 0 lanes; hands = named_from (λ _. None) 0 workers; done = flat_map xs (range_with_len 0 m); lost = [] }

  one_lane : (m : ℕ) → m < lanes → Runs (reached m) (lane_events m (ws m)) (reached (m + 1))
  one_lane m lt =
      let here : left m m ≡ xs m ++ rests m = (let e : left m m ≡ numbers_of slices lanes m = rw (le-ltb m m (omega arith)) refl in e) ∙ sym (each m lt).whole in
      let run = lane_run (reached m) m (ws m) (xs m) (rests m) (each m lt).count (table_get (left m) lanes m lt ∙ ap (λ ks. Some ks) here) (λ k d k_lt. idle_hands workers (get_or (ws m) k d) ((each m lt).are_workers k d k_lt)) in
      let lanes_are : set (named_from (left m) 0 lanes) m (rests m) ≡ named_from (left (m + 1)) 0 lanes =
      sym (map_id _) ∙ table_set (λ ks. ks) (left m) (left (m + 1)) lanes (named_from (left m) 0 lanes) m (rests m) (map_id _) lt (let e : left (m + 1) m ≡ rests m = rw (lt-ltb m (m + 1) (omega arith)) refl in sym e)
      (λ k below other. ⊎_elim
      (λ (low : k < m). (let a : left m k ≡ rests k = rw (lt-ltb k m low) refl in a) ∙ sym (let b : left (m + 1) k ≡ rests k = rw (lt-ltb k (m + 1) (omega arith)) refl in b))
      (λ (high : m ≤ k). (let a : left m k ≡ numbers_of slices lanes k = rw (le-ltb k m high) refl in a) ∙ sym (let b : left (m + 1) k ≡ numbers_of slices lanes k = rw (le-ltb k (m + 1) (omega arith)) refl in b))
      (below_or_past k m)) in
      let done_are : flat_map xs (range_with_len 0 m) ++ xs m ≡ flat_map xs (range_with_len 0 (m + 1)) = ap (λ l. flat_map xs (range_with_len 0 m) ++ l) (sym (append-nil (xs m))) ∙ sym (flat_map-append xs (range_with_len 0 m) (m ∷ [])) ∙ ap (flat_map xs) (sym (range_more m)) in
      subst (Runs (reached m) (lane_events m (ws m))) (λ i. record { lanes = lanes_are i; hands = named_from (λ _. None) 0 workers; done = done_are i; lost = [] }) run

  lanes_run : (m : ℕ) → m ≤ lanes → Runs (reached 0) (all_events ws m) (reached m)
  lanes_run zero le = refl
  lanes_run (suc m) le =
      let events : all_events ws m ++ lane_events m (ws m) ≡ all_events ws (m + 1) = ap (λ l. all_events ws m ++ l) (sym (append-nil (lane_events m (ws m)))) ∙ sym (flat_map-append (λ l. lane_events l (ws l)) (range_with_len 0 m) (m ∷ [])) ∙ ap (flat_map (λ l. lane_events l (ws l))) (sym (range_more m)) in
      let run = runs_append (reached 0) (reached m) (reached (m + 1)) (all_events ws m) (lane_events m (ws m)) (lanes_run m (omega arith)) (one_lane m (omega arith)) in
      let e : m + 1 ≡ suc m = omega arith in
      subst (λ k. Runs (reached 0) (all_events ws k) (reached k)) e (subst (λ es. Runs (reached 0) es (reached (m + 1))) events run)

  pub all_run : Runs (start_state slices lanes workers) (all_events ws lanes) record { lanes = named_from rests 0 lanes; hands = (start_state slices lanes workers).hands; done = flat_map xs (range_with_len 0 lanes); lost = [] }
  all_run =
      let first : named_from (left 0) 0 lanes ≡ named_from (numbers_of slices lanes) 0 lanes = table_same (left 0) (numbers_of slices lanes) lanes (λ l lt. let e : left 0 l ≡ numbers_of slices lanes l = rw (le-ltb l 0 (omega arith)) refl in e) in
      let last : named_from (left lanes) 0 lanes ≡ named_from rests 0 lanes = table_same (left lanes) rests lanes (λ l lt. let e : left lanes l ≡ rests l = rw (lt-ltb l lanes lt) refl in e) in
      let run = lanes_run lanes (omega arith) in
      subst (λ ls. Runs record { lanes = ls; hands = named_from (λ _. None) 0 workers; done = []; lost = [] } (all_events ws lanes) record { lanes = named_from rests 0 lanes; hands = named_from (λ _. None) 0 workers; done = flat_map xs (range_with_len 0 lanes); lost = [] }) first
      (subst (λ ls. Runs (reached 0) (all_events ws lanes) record { lanes = ls; hands = named_from (λ _. None) 0 workers; done = flat_map xs (range_with_len 0 lanes); lost = [] }) last run)

pub one_run : IsOneRun
one_run slices lanes workers ws xs rests each = all_run slices lanes workers ws xs rests each
