-- Which namespaces something is stored of, from moment to moment.
use Rattle.std.proofs.Common.{◌≡◌, ℕ, zero, suc, ◌+◌, ◌<◌, ◌≤◌, ◌^◌, ◌∷◌, [], inl, inr, List, Option, None, Some, Result, Ok, Err, length, refl, sym, ◌∙◌, ap, subst, arith}
use Rattle.std.specs.Prelude.{Contains, slice_get, slice_set, All, IsPermutation, OnOk}
use Rattle.std.proofs.Math.Nat.{eq-or-lt_of_le}
use Rattle.std.proofs.lemmas.List.Sorted.{Contains-permutation}
use Rattle.std.proofs.lemmas.Option.{slice_get_within}
use Rattle.tuple_text.specs.declared.users.User.TheVariants.{Set}
use Rattle.namespaces.specs.Declaration.{Declaration}
use Rattle.version_chains.specs.Commits.{Touch}
use Rattle.marks.specs.Marks.{set_mark}
use Rattle.userset_index.specs.Building.{IsEnd}
use Rattle.userset_index.specs.Index.{HaveMoments, IsCovered}
use Rattle.userset_index.specs.Moments.{HoldsStays, HoldsStaysFirst, IsGiven, IsStayOf, IsStaying}
use Rattle.userset_index.specs.Lives.{touches_alive}
use Rattle.namespaces.specs.Numbers.{Has}
use Rattle.userset_index.specs.declared.life.Life.{Life}
use Rattle.userset_index.specs.declared.moments.Stay.{Stay}
use Rattle.namespaces.specs.declared.number_set.Numbers.{Numbers}
use Rattle.userset_index.proofs.CallerLemmas.{each_found}
use Rattle.userset_index.proofs.EndLemmas.{last_before, last_here, last_within}

-- ---- slots

pub set_here : (xs : List ℕ) (i v : ℕ) → i < length xs → slice_get (slice_set xs i v) i ≡ Some v
set_here [] i v within = absurd (omega (arith, within))
set_here (x ∷ xs) zero v within = refl
set_here (x ∷ xs) (suc i) v within = set_here xs i v (omega (arith, within))

-- what stood in a list stands there still where one item was raised, or more
pub raised : (xs : List ℕ) (i v k u : ℕ) → ((w : ℕ) → slice_get xs i ≡ Some w → w < v) → (w : ℕ) × (slice_get xs k ≡ Some w) × (u ≤ w)
    → (w : ℕ) × (slice_get (slice_set xs i v) k ≡ Some w) × (u ≤ w)
raised [] i v k u less h = absurd (let none = h.1 in cc)
raised (x ∷ xs) zero v zero u less h =
    let same : Some x ≡ Some h.0 = h.1 in
    let is : x ≡ h.0 = cc in
    (v, refl, omega (arith, less x refl, is, h.2))
raised (x ∷ xs) zero v (suc k) u less h = h
raised (x ∷ xs) (suc i) v zero u less h = h
raised (x ∷ xs) (suc i) v (suc k) u less h = raised xs i v k u less h

-- ---- stays

still_staying : (stays more : List Stay) (mark n t : ℕ) → ((s : Stay) → Contains stays s → Contains more s) → IsStaying stays mark n t → IsStaying more mark n t
still_staying stays more mark n t kept is = record { stay = is.stay; there = kept is.stay is.there; marked = is.marked; of = is.of; since = is.since; until = is.until }

module _ (ds : List Declaration) (touches : List Touch) where
  -- with the stay of one more touch
  pub stays_next : (stays more : List Stay) (m : ℕ) (o : Option Stay) (x : Touch) (end : ℕ) → HoldsStaysFirst m ds touches stays → slice_get touches m ≡ Some x
      → IsStayOf ds x end o → IsEnd touches m x end → ((s : Stay) → Contains stays s → Contains more s) → ((s : Stay) → o ≡ Some s → Contains more s)
      → HoldsStaysFirst (m + 1) ds touches more
  stays_next stays more m o x end first here of ended kept put i at n y g less last user small place =
      elim (eq-or-lt_of_le (let near : i ≤ m = omega (arith, less) in near)) [
        | inr before ↦ still_staying stays more (set_mark y.tuple.set) n at kept (first i at n y g before last user small place)
        | inl e ↦
            let l = last_here touches at i m y last x e here in
            let w = of n g l.1.adds (subst (λ (z : Touch). z.tuple.user ≡ Set g) l.0 user) place in
            record {
              stay = w.0;
              there = put w.0 w.1;
              marked = w.2 ∙ ap (λ (z : Touch). set_mark z.tuple.set) (sym l.0);
              of = w.3;
              since = omega (arith, w.4, l.1.until);
              until = let within = last_within touches at m end x ended l.1 small in omega (arith, w.5, within);
            }
      ]

  -- a touch that is not there has none
  pub stays_past : (stays : List Stay) (m : ℕ) → HoldsStaysFirst m ds touches stays → slice_get touches m ≡ None → HoldsStaysFirst (m + 1) ds touches stays
  stays_past stays m first none i at n y g less last = first i at n y g
      (last_before touches at i m y last less none) last

  pub stays_all : (stays : List Stay) (m : ℕ) → HoldsStaysFirst m ds touches stays → length touches ≤ m → HoldsStays ds touches stays
  stays_all stays m first all i at n x g last =
      let within = slice_get_within touches i x last.here in
      first i at n x g (omega (arith, within, all)) last

  pub stays_permuted : (stays more : List Stay) → IsPermutation stays more → HoldsStays ds touches stays → HoldsStays ds touches more
  stays_permuted stays more moved holds i at n x g last user small place =
      still_staying stays more (set_mark x.tuple.set) n at (λ s there. Contains-permutation stays more s moved there) (holds i at n x g last user small place)

  -- where each stay is covered, each stored userset is
  pub moments_by_stays : (stays : List Stay) (lives : List Life) (numbers : List Numbers) → HoldsStays ds touches stays
      → ((s : Stay) (t : ℕ) → Contains stays s → s.from ≤ t → t ≤ s.until → t < 2 ^ 64 → IsCovered lives numbers s.mark s.number t)
      → HaveMoments ds touches lives numbers
  moments_by_stays stays lives numbers holds covered i at n x g last user small place =
      let is = holds i at n x g last user small place in
      subst (λ (k : ℕ). IsCovered lives numbers (set_mark x.tuple.set) k at) is.of
      (subst (λ (m : ℕ). IsCovered lives numbers m is.stay.number at) is.marked (covered is.stay at is.there is.since is.until small))

-- ---- what lasts at a timestamp

pub covered_given : (lives : List Life) (numbers : List Numbers) (r : Numbers) (mark n t : ℕ) → All (IsGiven numbers r) (touches_alive mark t lives (length lives))
    → IsCovered lives numbers mark n t → Has r n
covered_given lives numbers r mark n t all is =
    each_found (IsGiven numbers r) lives mark t is.life.touch (record { life = is.life; there = is.there; marked = is.marked; of = refl; alive = is.alive }) all is.set n is.here is.has

-- ---- results

pub on_three : {A E P Q W G : Type 0} (r : Result A E) → (P → Q → W → G) → OnOk r P → OnOk r Q → OnOk r W → OnOk r G
on_three (Ok x) f p q w = f p q w
on_three (Err e) f p q w = tt
