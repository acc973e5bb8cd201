-- The pool's reports are those of its slices, in order.
use Rattle.std.proofs.Common.{◌≡◌, ℕ, ◌+◌, ◌%◌, ◌<◌, ◌≤◌, ◌==◌, false, List, [], ◌∷◌, ◌++◌, length, get_or, map, All, sym, refl, ap, ◌∙◌, subst, arith}
use Rattle.std.specs.Prelude.{sum_by, slice_index_or}
use Rattle.std.specs.List.{AllZip, flat_map, range_with_len}
use Rattle.slice_yard.specs.Cut.{entries_of}
use Rattle.std.specs.List.Sorted.{IsPermutation, IsNonDecreasingBy}
use Rattle.std.proofs.lemmas.List.Sums.{sum_by-cons, sum_by-append}
use Rattle.std.proofs.lemmas.List.Sorted.{sum_by-IsPermutation}
use Rattle.std.proofs.lemmas.List.Elements.{All-nil, All-weaker, All-cons, All-head, All-tail, All-append, All-filter}
use Rattle.slice_yard.specs.declared.slices.Slice.{Slice}
use Rattle.slice_yard.specs.declared.rule.Hand.{Hand}
use Rattle.audit_slices.specs.declared.checks.SliceReport.{SliceReport}
use Rattle.audit_slices.specs.declared.members.Member.{Member}
use Rattle.slice_yard.specs.Lane.{LanePlace, ThiefPlace}
use Rattle.audit_slices.specs.Members.{Places, member_places, member_sum, thief_openings, IsNew, IsSettled, AreBelow, MayWork}
use Rattle.slice_core.specs.Named.{named_from}
use Rattle.audit_slices.specs.Reports.{IsReported}
use Rattle.audit_slices.specs.Run.{IsWhole, IsFinished, unspent, rest_sum}
use Rattle.slice_yard.specs.Shared.{lists_sum, IsSpent}
use Rattle.slice_yard.specs.Yard.{filled, seated, dealt, seat_of, thief_lanes}
use Rattle.slice_yard.proofs.OpenedLemmas.{same_yard}
use Rattle.slice_yard.proofs.Orders.{same_list, counts, rises}
use Rattle.slice_yard.proofs.Shares.{shared_sum}
use Rattle.audit_slices.proofs.ReportLemmas.{given_both}
use Rattle.slice_core.proofs.SumLemmas.{sum_by-mapped, sum_all, sum_none}
use Rattle.slice_yard.proofs.DealLemmas.{dealt_sum}
use Rattle.slice_core.proofs.Tables.{table_all, map_map, All_map, All_unmap, All_along}

abbrev pub Below : ℕ → List Slice → Type 0
Below n xs = All (λ x. x.from + x.count ≤ n) xs

module _ {X : Type 0} where
  -- the slices that were put into a worker's lanes are of those that were dealt
  covered_start : (n : ℕ) (xs : List Slice) (ms : List (Member X)) → IsWhole xs ms → Below n xs → All (λ m. AreBelow n (member_places m)) ms
  covered_start n xs ms whole below =
      let yard = whole.yard in
      let count = yard.lane_count in
      let dealt_below : (l : ℕ) → Below n (dealt yard.slices count l) = λ l. All-filter (λ (x : Slice). x.number % count == l) (λ (x : Slice). x.from + x.count ≤ n) yard.slices (subst (Below n) (sym whole.same) below) in
      let P : LanePlace → Type 0 = λ p. Below n p.1.opening in
      let Q : ThiefPlace → Type 0 = λ p. Below n p.2.opening in
      let own : All (λ m. P (member_places m).0) ms = All_unmap P (λ (m : Member X). (member_places m).0) ms (subst (All P) (sym yard.owners) (table_all P (λ l. ((yard.deques l, false), filled (dealt yard.slices count l) yard.workers)) count (λ l lt. dealt_below l))) in
      let others : All (λ m. All Q (member_places m).1) ms = All_unmap (All Q) (λ (m : Member X). (member_places m).1) ms (subst (All (All Q)) (sym yard.others)
      (table_all (All Q) (λ w. map (λ l. (l, yard.deques l, seated (dealt yard.slices count l) (seat_of l w))) (thief_lanes count w)) yard.workers
      (λ w lt. All_map Q (λ l. (l, yard.deques l, seated (dealt yard.slices count l) (seat_of l w))) (thief_lanes count w) (λ k d lt. dealt_below (get_or (thief_lanes count w) k d))))) in
      λ k d lt. record { each = All-cons (Below n) (member_places (get_or ms k d)).0.1.opening (thief_openings (member_places (get_or ms k d)).1) (own k d lt) (All_map (Below n) (λ (p : ThiefPlace). p.2.opening) (member_places (get_or ms k d)).1 (others k d lt)) }

  pub whole_same : (xs : List Slice) (before ms : List (Member X)) → map member_places ms ≡ map member_places before → IsWhole xs before → IsWhole xs ms
  whole_same xs before ms e whole = record {
    yard = same_yard (sym (map_map (λ (p : Places). p.0) member_places ms) ∙ ap (map (λ (p : Places). p.0)) e ∙ map_map (λ (p : Places). p.0) member_places before)
        (sym (map_map (λ (p : Places). p.1) member_places ms) ∙ ap (map (λ (p : Places). p.1)) e ∙ map_map (λ (p : Places). p.1) member_places before) whole.yard;
    same = whole.same;
  }

  -- the slices of the closed lanes are of those that were dealt
  pub covered_left : (n : ℕ) (xs : List Slice) (ms : List (Member X)) (hands : List Hand) (reports : List (SliceReport X)) → IsFinished xs ms hands reports → Below n xs → All (λ v. Below n v.opening) hands
  covered_left n xs ms hands reports fin below =
      All_unmap (Below n) (λ (v : Hand). v.opening) hands (subst (All (Below n)) (sym fin.openings) (table_all (Below n) (dealt xs fin.count) fin.count (λ l lt. All-filter (λ (x : Slice). x.number % fin.count == l) (λ (x : Slice). x.from + x.count ≤ n) xs below)))

  -- a new worker's reports, of which there are none, may be given
  settled_new : (P : ℕ → X → Type 0) (ms : List (Member X)) → All IsNew ms → All (IsSettled P) ms
  settled_new P ms new = All-weaker IsNew (IsSettled P) (λ m n. record {
    given = subst (All (IsReported P)) (sym n.done) (All-nil (IsReported P));
    each = λ kept h. ap (sum_by (λ r. h r.slice)) n.done ∙ sym (n.handed h);
  }) ms new

  pub may_start : (n : ℕ) (P : ℕ → X → Type 0) (xs : List Slice) (ms : List (Member X)) → IsWhole xs ms → All IsNew ms → Below n xs → All (MayWork n P) ms
  may_start n P xs ms whole new below = λ k d lt. record {
    covered = covered_start n xs ms whole below k d lt;
    before = settled_new P ms new k d lt;
  }

  pub given_all : (P : ℕ → X → Type 0) (ms : List (Member X)) → All (IsSettled P) ms → All (IsReported P) (flat_map (λ m. m.done.items) ms)
  given_all P [] h = All-nil (IsReported P)
  given_all P (m ∷ ms) h = All-append (IsReported P) m.done.items _ (All-head (IsSettled P) m ms h).given (given_all P ms (All-tail (IsSettled P) m ms h))

  done_sum : (P : ℕ → X → Type 0) (ms : List (Member X)) → All (IsSettled P) ms → All (λ m. m.lost ≡ false) ms → (h : Slice → ℕ) → sum_by (λ r. h r.slice) (flat_map (λ m. m.done.items) ms) ≡ sum_by (member_sum h) ms
  done_sum P [] s kept h = refl
  done_sum P (m ∷ ms) s kept h =
      let K : Member X → Type 0 = λ m. m.lost ≡ false in
      let r : SliceReport X → ℕ = λ r. h r.slice in
      let a = (All-head (IsSettled P) m ms s).each (All-head K m ms kept) h in
      let b = done_sum P ms (All-tail (IsSettled P) m ms s) (All-tail K m ms kept) h in
      let c = sum_by-append r m.done.items (flat_map (λ (m : Member X). m.done.items) ms) in
      let d = sum_by-cons (member_sum h) m ms in
      omega arith

  -- all reports together are of just the slices
  pub all_slices : (P : ℕ → X → Type 0) (xs : List Slice) (ms : List (Member X)) (before after : List Hand) (first done : List (SliceReport X)) → IsFinished xs ms before first → All (IsSettled P) ms → map unspent after ≡ map unspent before → All IsSpent after
      → ((h : Slice → ℕ) → sum_by (λ r. h r.slice) done + rest_sum h before ≡ sum_by (λ r. h r.slice) first + rest_sum h after) → (h : Slice → ℕ) → sum_by h xs ≡ sum_by (λ r. h r.slice) done
  all_slices P xs ms before after first done fin settled same spent sums h =
      let r : SliceReport X → ℕ = λ r. h r.slice in
      let lists : Hand → ℕ = lists_sum h in
      let rest : Hand → ℕ = λ v. sum_by h v.rest in
      let opening : Hand → ℕ = λ v. sum_by h v.opening in
      let a = done_sum P ms settled fin.kept h in
      let b : sum_by r first ≡ sum_by r (flat_map (λ m. m.done.items) ms) = ap (sum_by r) fin.done in
      let c = fin.sums h in
      let d : sum_by lists after ≡ sum_by lists before = sym (sum_by-mapped lists unspent after) ∙ ap (sum_by lists) same ∙ sum_by-mapped lists unspent before in
      let joined : All (λ v. v.seats ≡ length v.closed + 1) after = All_along (λ (v : Hand). v.seats ≡ length v.closed + 1) unspent before after same fin.joined in
      let each : All (λ v. lists v + rest v ≡ opening v) after = λ k e lt. sym (shared_sum (get_or after k e) (get_or after k e).opening (spent k e lt) (joined k e lt) h) in
      let whole = sum_all lists rest opening after each in
      let none : rest_sum h before ≡ 0 = sum_none rest before (λ k e lt. ap (sum_by h) (fin.fresh k e lt)) in
      let openings : map (λ v. v.opening) after ≡ named_from (dealt xs fin.count) 0 fin.count =
      sym (map_map (λ (v : Hand). v.opening) unspent after) ∙ ap (map (λ (v : Hand). v.opening)) same ∙ map_map (λ (v : Hand). v.opening) unspent before ∙ fin.openings in
      let o : sum_by opening after ≡ sum_by h xs = sym (sum_by-mapped (λ (l : List Slice). sum_by h l) (λ (v : Hand). v.opening) after) ∙ ap (sum_by (λ (l : List Slice). sum_by h l)) openings ∙ dealt_sum h xs fin.count fin.some_lane in
      let s = sums h in
      omega arith

  pub in_order : (slices : List Slice) (done sorted : List (SliceReport X)) → ((k : ℕ) (d : Slice) → k < length slices → (slice_index_or slices k d).number ≡ k) → ((h : Slice → ℕ) → sum_by h slices ≡ sum_by (λ r. h r.slice) done) → IsPermutation done sorted
      → IsNonDecreasingBy (λ r. r.slice.number) sorted → map (λ r. r.slice) sorted ≡ slices
  in_order slices done sorted numbered sums moved rising =
      let s : SliceReport X → Slice = λ r. r.slice in
      same_list 0 0 slices (map s sorted) (counts 0 slices (λ k d lt. let a : (slice_index_or slices k d).number ≡ k = numbered k d lt in omega arith)) (rises s 0 sorted (λ j d lt. omega arith) rising)
      (λ h. let a = sums h in let b = sum_by-IsPermutation (λ (r : SliceReport X). h r.slice) done sorted moved in let c = sum_by-mapped h s sorted in omega arith)

  -- entry by entry
  pub all_reports : (P : ℕ → X → Type 0) (xs : List Slice) (rs : List (SliceReport X)) → map (λ r. r.slice) rs ≡ xs → All (IsReported P) rs → AllZip P (entries_of xs) (flat_map (λ r. r.reports.items) rs)
  all_reports P xs [] e given = subst (λ (l : List Slice). AllZip P (entries_of l) []) e tt
  all_reports P xs (r ∷ rs) e given =
      let s : SliceReport X → Slice = λ r. r.slice in
      let items : List X = flat_map (λ (r : SliceReport X). r.reports.items) rs in
      subst (λ (l : List Slice). AllZip P (entries_of l) (r.reports.items ++ items)) e
      (given_both P (range_with_len r.slice.from r.slice.count) (entries_of (map s rs)) r.reports.items items (All-head (IsReported P) r rs given)
      (all_reports P (map s rs) rs refl (All-tail (IsReported P) r rs given)))
