-- What is refused, and what stands after one more commit.
use Rattle.std.proofs.Common.{◌≡◌, ℕ, suc, ◌+◌, ◌-◌, ◌<◌, ◌≤◌, Bool, true, false, cond, List, [], ◌∷◌, ◌++◌, length, refl, sym, ◌∙◌, ap, subst, Some, None, Option, arith, leb, nat_lt, nat_eq, get_or, ◌⊎◌, inl, inr}
use Rattle.std.specs.Prelude.{slice_get, slice_index}
use Rattle.std.specs.List.Sorted.{IsStrictlyIncreasing}
use Rattle.std.proofs.Math.Nat.{eq-or-lt_of_le}
use Rattle.std.proofs.Math.Seq.{get_or-append_seam}
use Rattle.std.proofs.lemmas.Bool.{leb-false, le-leb, lt-leb}
use Rattle.std.proofs.lemmas.List.{length-append, length-map, get_or_append_left}
use Rattle.std.proofs.lemmas.Option.{get_or_from_slice_get}
use Rattle.tuple_text.specs.Tuples.{TupleValue}
use Rattle.version_chains.specs.Appends.{repeat_from, first_repeat, last_at, late_fault, append_fault, appended}
use Rattle.version_chains.specs.Arena.{AreApartAt, AreNumbersOf, AreUpTo}
use Rattle.version_chains.specs.Commits.{Changes, Commit, Touch, touches, changelog}
use Rattle.version_chains.specs.Given.{AreCommits, AreApart, commits_of}
use Rattle.version_chains.specs.declared.fault.AppendFault.TheVariants.{NotLater, TouchedTwice, Full}
use Rattle.version_chains.proofs.ApartLemmas.{apart_more}
use Rattle.version_chains.proofs.ArenaLemmas.{item_within}
use Rattle.version_chains.proofs.CommitLemmas.{side, early, up_to_before, times_of, times_below, commits_more, logged_more}
use Rattle.marks.proofs.PlacedLemmas.{length-more}
use Rattle.version_chains.proofs.RepeatLemmas.{first_repeat_by_number}

rising_more : (times : List ℕ) (at : ℕ) → IsStrictlyIncreasing times → ((i t : ℕ) → slice_get times i ≡ Some t → t < at) → IsStrictlyIncreasing (times ++ at ∷ [])
rising_more times at rising below k h = by_place (eq-or-lt_of_le (let most : k + 1 ≤ length times = (let e = length-more times at in omega (arith, h, e)) in most))
  where
    by_place : (k + 1 ≡ length times) ⊎ (k + 1 < length times) → slice_index (times ++ at ∷ []) k < slice_index (times ++ at ∷ []) (k + 1)
    by_place (inl last) =
        let w = item_within times k (omega (arith, last)) in
        let less = below k w.0 w.1 in
        let here = get_or_append_left times (at ∷ []) 0 k (omega (arith, last)) ∙ get_or_from_slice_get times k w.0 0 w.1 in
        let there = ap (λ (n : ℕ). get_or (times ++ at ∷ []) n 0) last ∙ get_or-append_seam times at [] 0 in
        rw (here, there) less
    by_place (inr before) =
        let less = rising k before in
        let here = get_or_append_left times (at ∷ []) 0 k (omega (arith, before)) in
        let there = get_or_append_left times (at ∷ []) 0 (k + 1) before in
        rw (here, there) less

-- the refusal of a timestamp, by the list of timestamps
late_by_times : (times : List ℕ) (xs : List Touch) (at : ℕ) → late_fault (last_at (commits_of times xs)) at ≡ late_fault (slice_get times (length times - 1)) at
late_by_times times xs at =
    ap (λ (ts : List ℕ). late_fault (slice_get ts (length (commits_of times xs) - 1)) at) (times_of times xs)
    ∙ ap (λ (n : ℕ). late_fault (slice_get times (n - 1)) at) (length-map times _)

pub late_from : (at last : ℕ) → at ≤ last → Some (NotLater last) ≡ late_fault (Some last) at
late_from at last h = rw (le-leb at last h) refl

pub not_late_from : (at last : ℕ) → last < at → None ≡ late_fault (Some last) at
not_late_from at last h = rw (lt-leb at last h) refl

later_than : (o : Option ℕ) (at : ℕ) → late_fault o at ≡ None → (last : ℕ) → o ≡ Some last → last < at
later_than None at e last is = absurd cc
later_than (Some l) at e last is = by_test (leb at l) refl e
  where
    by_test : (b : Bool) → leb at l ≡ b → (cond b (Some (NotLater l)) None) ≡ None → last < at
    by_test true t h = absurd cc
    by_test false t h = let same : l ≡ last = cc in subst (λ (n : ℕ). n < at) same (leb-false at l t)

pub late_is : (old : Changes) (times : List ℕ) (xs : List Touch) (limit at : ℕ) → record { limit = limit; commits = commits_of times xs } ≡ old → late_fault (slice_get times (length times - 1)) at ≡ late_fault (last_at old.commits) at
late_is old times xs limit at view = sym (late_by_times times xs at) ∙ ap (λ (v : Changes). late_fault (last_at v.commits) at) view

module _ (old : Changes) (times : List ℕ) (xs : List Touch) (limit at : ℕ) (adds removes : List TupleValue)
    (view : record { limit = limit; commits = commits_of times xs } ≡ old) (is : AreCommits times xs limit) where
  module _ (late : late_fault (last_at old.commits) at ≡ None) (tuples : List TupleValue) (apart : AreApartAt tuples) (numbers : List ℕ) (are : AreNumbersOf tuples numbers (adds ++ removes)) where
    below : (i t : ℕ) → slice_get times i ≡ Some t → t < at
    below = times_below times is.rising at (later_than (slice_get times (length times - 1)) at (late_is old times xs limit at view ∙ late))

    pub up_to : AreUpTo at xs
    up_to = up_to_before at xs (early times xs is.logged at adds removes below)

    pub twice_refused : (place : ℕ) → repeat_from nat_eq [] 0 numbers ≡ Some place → append_fault old at adds removes ≡ Some (TouchedTwice place)
    twice_refused place e = rw (late, sym (first_repeat_by_number tuples apart numbers (adds ++ removes) are) ∙ e) refl

    abbrev count : ℕ
    count = length (changelog old.commits) + (length adds + length removes)

    count_is : count ≡ length xs + length numbers
    count_is =
        let logged = ap (λ (v : Changes). length (changelog v.commits)) (sym view) ∙ ap length is.logged in
        let all : length numbers ≡ length adds + length removes = sym (length-map numbers _) ∙ ap length are ∙ length-map (adds ++ removes) _ ∙ length-append adds removes in
        rw (logged, all) refl

    limit_is : limit ≡ old.limit
    limit_is = ap (λ (v : Changes). v.limit) view

    module _ (once : repeat_from nat_eq [] 0 numbers ≡ None) where
      once_is : first_repeat (adds ++ removes) ≡ None
      once_is = sym (first_repeat_by_number tuples apart numbers (adds ++ removes) are) ∙ once

      pub full_refused : limit - length xs < length numbers → append_fault old at adds removes ≡ Some Full
      full_refused h =
          let counted = count_is in
          let most = limit_is in
          let small = is.small in
          let more : nat_lt old.limit count ≡ true = le-leb (suc old.limit) count (omega (arith, h, counted, most, small)) in
          rw (late, once_is, more) refl

      module _ (room : length numbers ≤ limit - length xs) where
        pub accepted : append_fault old at adds removes ≡ None
        accepted =
            let counted = count_is in
            let most = limit_is in
            let small = is.small in
            let less : nat_lt old.limit count ≡ false = lt-leb (suc old.limit) count (omega (arith, room, counted, most, small)) in
            rw (late, once_is, less) refl

        abbrev commit : Commit
        commit = record { at = at; adds = adds; removes = removes }

        pub view_more : record { limit = limit; commits = commits_of (times ++ at ∷ []) (xs ++ touches commit) } ≡ appended old at adds removes
        view_more =
            (λ i. record { limit = limit; commits = commits_more times xs is.logged at adds removes below i })
            ∙ ap (λ (v : Changes). appended v at adds removes) view

        pub sound_more : AreCommits (times ++ at ∷ []) (xs ++ touches commit) limit
        sound_more = record {
          rising = rising_more times at is.rising below;
          logged = logged_more times xs is.logged at adds removes below;
          apart = subst AreApart (sym (commits_more times xs is.logged at adds removes below)) (apart_more (commits_of times xs) commit is.apart once_is);
          small =
              let sides = length-append xs (touches commit) in
              let both = length-append (side at true adds) (side at false removes) in
              let added : length (side at true adds) ≡ length adds = length-map adds _ in
              let removed : length (side at false removes) ≡ length removes = length-map removes _ in
              let all : length numbers ≡ length adds + length removes = sym (length-map numbers _) ∙ ap length are ∙ length-map (adds ++ removes) _ ∙ length-append adds removes in
              let small = is.small in
              omega (arith, sides, both, added, removed, all, small, room);
        }
