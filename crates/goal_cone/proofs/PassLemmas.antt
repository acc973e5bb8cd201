-- How passes over premises follow one another.
use Rattle.std.proofs.Common.{◌≡◌, ℕ, ◌+◌, ◌≤◌, ◌<◌, List, ◌⊎◌, inl, inr, refl, arith}
use Rattle.std.specs.Prelude.{Result, Ok, Err, OnOk}
use Rattle.tuple_text.specs.Refs.{set_value}
use Rattle.tuple_text.specs.Tuples.{FactValue}
use Rattle.rewrites.specs.Expression.{Expression, Expressions, no_child, child}
use Rattle.judgement.specs.Judgement.{IsUndeclared}
use Rattle.snapshots.specs.Snapshots.{rules_in, tuples_in}
use Rattle.snapshots.specs.declared.snapshot.Snapshot.{Snapshot}
use Rattle.goal_cone.specs.Bounds.{links, links_all}
use Rattle.goal_cone.specs.Pass.{IsUnderWay, IsUnderWayOver, Passes, PassesOver, PassesOverAll, read_fact}
use Rattle.goal_cone.specs.Premises.{Reads, ReadsSome}
use Rattle.goal_cone.specs.Seen.{Sees, IsStuck}
use Rattle.goal_cone.specs.declared.fault.ConeFault.{ConeFault}
use Rattle.goal_cone.specs.declared.premises.ReadFact.{ReadFact}
use Rattle.goal_cone.proofs.SeenLemmas.{sees_both, sees_declared, sees_none, stuck_as, stuck_later}

on_ok : {A B : Type 0} (r : Result (Unit {0}) ConeFault) → (A → B) → OnOk r A → OnOk r B
on_ok (Ok u) f h = f h
on_ok (Err e) f h = tt

on_each : {A : Type 0} (r : Result (Unit {0}) ConeFault) → A → OnOk r A
on_each (Ok u) h = h
on_each (Err e) h = tt

module _ (most_facts most_links : ℕ) (s : Snapshot) where
  -- over one fact
  pub passes_one : (R : FactValue → Type 0) (all : ℕ) (r : Result (Unit {0}) ConeFault) (old new : List FactValue)
      (had room : ℕ) → had ≤ room + all
      → OnOk r (Sees (rules_in s) R old new) → (r ≡ Err ConeFault.Outgrown → IsStuck most_facts most_links
      (rules_in s) (tuples_in s) R old)
      → Passes most_facts most_links s R all r old new had room
  passes_one R all r old new had room le seen stuck = record
      { seen = seen; links = on_each r le; stuck = λ e. inr (stuck e) }

  module _ (T S : FactValue → Type 0) (there : (p : FactValue) → T p → S p) (few many : ℕ) (le : few ≤ many) where
    more_stuck : (old : List FactValue) (had : ℕ) → (had < few) ⊎ IsStuck most_facts most_links (rules_in s)
        (tuples_in s) T old
        → (had < many) ⊎ IsStuck most_facts most_links (rules_in s) (tuples_in s) S old
    more_stuck old had (inl lt) = inl (omega arith)
    more_stuck old had (inr h) = inr (stuck_as most_facts most_links (rules_in s) (tuples_in s) T S there old h)

    -- what meets S is undeclared or meets T, and what meets T meets S
    pub passes_declared : ((p : FactValue) → S p → IsUndeclared (rules_in s) p.set ⊎ T p)
        → (r : Result (Unit {0}) ConeFault) (old new : List FactValue) (had room : ℕ)
        → Passes most_facts most_links s T few r old new had room
        → Passes most_facts most_links s S many r old new had room
    passes_declared back r old new had room is = record {
      seen = on_ok r (sees_declared (rules_in s) T S there back old new) is.seen;
      links = on_ok r (λ (h : had ≤ room + few). let more : had ≤ room + many = omega arith in more) is.links;
      stuck = λ e. more_stuck old had (is.stuck e);
    }

  module _ (T S : FactValue → Type 0) (a b : ℕ) (old now : List FactValue) (had mid : ℕ) where
    -- where the first pass gives up
    pub passes_first : (e : ConeFault) (new : List FactValue) (room : ℕ) → Passes most_facts most_links s T a
        (Err e) old now had mid
        → Passes most_facts most_links s (λ p. T p ⊎ S p) (a + b) (Err e) old new had room
    passes_first e new room is = record {
      seen = tt;
      links = tt;
      stuck = λ h. more_stuck T (λ p. T p ⊎ S p) (λ p t. inl t) a (a + b) (omega arith) old had (is.stuck h);
    }

    -- where it went through
    pub passes_both : Passes most_facts most_links s T a (Ok tt) old now had mid → (r : Result (Unit {0}) ConeFault)
        (new : List FactValue) (room : ℕ)
        → Passes most_facts most_links s S b r now new mid room → Passes most_facts most_links s (λ p. T p ⊎ S p)
        (a + b) r old new had room
    passes_both first r new room is = record {
      seen = on_ok r (sees_both (rules_in s) T S old now new first.seen) is.seen;
      links = on_ok r (λ (h : mid ≤ room + b). let le = first.links in let sum : had ≤ room +
          (a + b) = omega arith in sum) is.links;
      stuck = λ e. by_cases (is.stuck e);
    }
      where
        by_cases : (mid < b) ⊎ IsStuck most_facts most_links (rules_in s) (tuples_in s) S now
            → (had < a + b) ⊎ IsStuck most_facts most_links (rules_in s) (tuples_in s) (λ p. T p ⊎ S p) old
        by_cases (inl lt) = inl (let le = first.links in omega arith)
        by_cases (inr h) = inr (stuck_later most_facts most_links (rules_in s) (tuples_in s) T S old now first.seen h)

  module _ (R : FactValue → Type 0) (old : List FactValue) (had all : ℕ) where
    pub under_way_start : IsUnderWay most_facts most_links (rules_in s) (tuples_in s) R R old old had had all all
    under_way_start = record { seen = λ new h. h; stuck = λ h. h; links = omega arith }

    module _ (T S : FactValue → Type 0) (now : List FactValue) (room rest a left : ℕ) (sum : rest ≡ a + left)
        (way : IsUnderWay most_facts most_links (rules_in s) (tuples_in s) R
        (λ p. T p ⊎ S p) old now had room all rest) where
      pub under_way_step : (next : List FactValue) (later : ℕ) → Passes most_facts most_links s T a
          (Ok tt) now next room later
          → IsUnderWay most_facts most_links (rules_in s) (tuples_in s) R S old next had later all left
      under_way_step next later is = record {
        seen = λ new h. way.seen new (sees_both (rules_in s) T S now next new is.seen h);
        stuck = λ h. way.stuck (stuck_later most_facts most_links (rules_in s) (tuples_in s) T S now next is.seen h);
        links = (let e = way.links in let le = is.links in omega arith);
      }

      pub under_way_stopped : (e : ConeFault) (next new : List FactValue) (later last : ℕ)
          → Passes most_facts most_links s T a (Err e) now next room later
          → Passes most_facts most_links s R all (Err e) old new had last
      under_way_stopped e next new later last is = record { seen = tt; links = tt; stuck = λ h. by_cases (is.stuck h) }
        where
          by_cases : (room < a) ⊎ IsStuck most_facts most_links (rules_in s) (tuples_in s) T now
              → (had < all) ⊎ IsStuck most_facts most_links (rules_in s) (tuples_in s) R old
          by_cases (inl lt) = inl (let e = way.links in omega arith)
          by_cases (inr h) = inr (way.stuck (stuck_as most_facts most_links (rules_in s) (tuples_in s) T
              (λ p. T p ⊎ S p) (λ p t. inl t) now h))

    pub under_way_done : (S : FactValue → Type 0) → ((p : FactValue) → ¬ S p) → (now : List FactValue) (room : ℕ)
        → IsUnderWay most_facts most_links (rules_in s) (tuples_in s) R S old now had room all 0
        → Passes most_facts most_links s R all (Ok tt) old now had room
    under_way_done S none now room way = record {
      seen = way.seen now (sees_none (rules_in s) S none now);
      links = (let e = way.links in omega arith);
      stuck = λ h. absurd (cc (h));
    }

-- ---- over the expressions of a list

module _ (most_facts most_links : ℕ) (a : ReadFact) (es : Expressions) (old : List FactValue) (had : ℕ) where
  abbrev s : Snapshot
  s = a.snapshot.now

  abbrev reads : Expression → FactValue → Type 0
  reads = Reads (tuples_in s) (read_fact a)

  abbrev reads_some : Expressions → FactValue → Type 0
  reads_some = ReadsSome (tuples_in s) (read_fact a)

  abbrev all : Expressions → ℕ
  all = links_all (tuples_in s) (set_value a.set)

  pub over_start : IsUnderWayOver most_facts most_links a es es old old had had
  over_start = under_way_start most_facts most_links s (reads_some es) old had (all es)

  module _ (e : Expression) (rest : Expressions) (now : List FactValue) (room : ℕ)
      (way : IsUnderWayOver most_facts most_links a es (child e rest) old now had room) where
    pub over_step : (next : List FactValue) (later : ℕ) → PassesOver most_facts most_links a e
        (Ok tt) now next room later
        → IsUnderWayOver most_facts most_links a es rest old next had later
    over_step = under_way_step most_facts most_links s (reads_some es) old had (all es) (reads e)
        (reads_some rest) now room
        (all (child e rest)) (links (tuples_in s) (set_value a.set) e) (all rest) refl way

    pub over_stopped : (f : ConeFault) (next new : List FactValue) (later last : ℕ)
        → PassesOver most_facts most_links a e (Err f) now next room later
        → PassesOverAll most_facts most_links a es (Err f) old new had last
    over_stopped = under_way_stopped most_facts most_links s (reads_some es) old had (all es) (reads e)
        (reads_some rest) now room
        (all (child e rest)) (links (tuples_in s) (set_value a.set) e) (all rest) refl way

  pub over_done : (now : List FactValue) (room : ℕ)
      → IsUnderWayOver most_facts most_links a es no_child old now had room
      → PassesOverAll most_facts most_links a es (Ok tt) old now had room
  over_done = under_way_done most_facts most_links s (reads_some es) old had (all es) (reads_some no_child) (λ p h. h)
