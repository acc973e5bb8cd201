-- A commit more is placed behind those before it.
use Rattle.std.proofs.Common.{◌≡◌, ℕ, ◌+◌, ◌-◌, ◌≤◌, ◌^◌, Bool, true, false, List, [], ◌∷◌, ◌++◌, length, map, Option, Some, None, refl, arith, if◌then◌else◌}
use Rattle.std.specs.Prelude.{nat_le}
use Rattle.std.specs.List.Sorted.{IsStrictlyIncreasing}
use Rattle.std.proofs.lemmas.Bool.Decides.{nat_tests}
use Rattle.std.proofs.lemmas.List.{length-append, length-map, map-append}
use Rattle.version_chains.specs.Commits.{Commit}
use Rattle.version_chains.specs.Appends.{append_fault, late_fault, last_at, twice_fault, first_repeat, or_else}
use Rattle.version_chains.specs.Given.{AreApart}
use Rattle.version_chains.specs.declared.fault.AppendFault.{AppendFault}
use Rattle.version_chains.specs.declared.fault.AppendFault.TheVariants.{NotLater}
use Rattle.version_chains.proofs.ApartLemmas.{apart_more}
use Rattle.trace_lines.specs.Values.{after, after_last}
use Rattle.trace_lines.proofs.Orderly.{accepted}
use Rattle.trace_lines.proofs.RisingLines.{rising_push}

-- commits and their lines, as a trace has them
pub record ArePlaced (lines : List ℕ) (commits : List Commit) : Type 0 where
  pub counted : length lines ≡ length commits
  pub lines_rise : IsStrictlyIncreasing lines
  pub times_rise : IsStrictlyIncreasing (map (λ c. c.at) commits)
  pub apart : AreApart commits

pub placed_empty : ArePlaced [] []
placed_empty = record {
  counted = refl;
  lines_rise = λ k lt. absurd (omega (arith, lt));
  times_rise = λ k lt. absurd (omega (arith, lt));
  apart = tt;
}

not_twice : (o : Option ℕ) (late full : Option AppendFault) → or_else late (or_else (twice_fault o) full) ≡ None → o ≡ None
not_twice None late full h = refl
not_twice (Some place) None full h = cc
not_twice (Some place) (Some e) full h = cc

behind : (o : Option ℕ) (at : ℕ) → late_fault o at ≡ None → after o ≤ at
behind None at h = omega arith
behind (Some last) at h = by_test (nat_le at last) refl h
  where
    by_test : (b : Bool) → nat_le at last ≡ b → (if b then Some (NotLater last) else None) ≡ None → last + 1 ≤ at
    by_test true is h = cc
    by_test false is h = grind (arith, nat_tests)

last_time : (commits : List Commit) (at : ℕ) → late_fault (last_at commits) at ≡ None → after_last (map (λ (c : Commit). c.at) commits) ≤ at
last_time commits at h = rw (length-map commits (λ (c : Commit). c.at)) (behind (last_at commits) at h)

-- the next commit, on a line behind those before it
pub placed_push : (lines : List ℕ) (n : ℕ) (commits : List Commit) (c : Commit) → ArePlaced lines commits → after_last lines ≤ n
    → append_fault (record { limit = 2 ^ 32 - 1; commits = commits }) c.at c.adds c.removes ≡ None
    → ArePlaced (lines ++ n ∷ []) (commits ++ c ∷ [])
placed_push lines n commits c is le fault =
    let a = length-append lines (n ∷ []) in
    let b = length-append commits (c ∷ []) in
    let same = is.counted in
    record {
      counted = omega (arith, a, b, same);
      lines_rise = rising_push lines n is.lines_rise le;
      times_rise =
          rw (map-append (λ (x : Commit). x.at) commits (c ∷ []))
          (rising_push (map (λ (x : Commit). x.at) commits) c.at is.times_rise (last_time commits c.at (accepted commits c fault).later));
      apart = apart_more commits c is.apart (not_twice (first_repeat (c.adds ++ c.removes)) (late_fault (last_at commits) c.at) _ fault);
    }
