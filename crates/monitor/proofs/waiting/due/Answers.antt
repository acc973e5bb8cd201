use Rattle.std.proofs.Common.{◌≡◌, ℕ, ◌≤◌, inl, inr, List, ◌∷◌, refl, sym, subst, arith}
use Rattle.std.specs.Prelude.{Contains}
use Rattle.std.specs.BTreeSet.{insert_key}
use Rattle.std.specs.Ordering.{nat_cmp}
use Rattle.std.proofs.lemmas.Bool.{cases_lt}
use Rattle.std.proofs.lemmas.Map.Keys.{IsStrictlyIncreasing-from_sorted}
use Rattle.std.proofs.lemmas.Map.Lookups.{exact_unsigned}
use Rattle.monitor.proofs.WaitingLemmas.{first_there, later_there, first_or_later, none_there, inserted_there, inserted_kept, inserted_only}
use Rattle.monitor.proofs.waiting.due.Goals as goal

pub loop-i-init : goal.loop-i-init
loop-i-init c = (
  refl,
  record {
    sorted = c.new-due.ensures.ordered;
    there = λ j from lt. absurd (omega (arith, from, lt));
    only = λ j there. absurd (none_there j (subst (λ (ks : List ℕ). Contains ks j) c.new-due.ensures.empty there));
  },
)

pub loop-i-preserved : goal.loop-i-preserved
loop-i-preserved c =
    let i = c.loop-i.i in
    let due = c.loop-i.due.keys in
    let first = c.loop-i.invariant.1 in
    let begun = c.loop-i.auto.i in
    let is = c.in_ok-insert.ensures.keys in (
      refl,
      record {
        sorted = c.in_ok-insert.ensures.ordered;
        there = λ j from lt. subst (λ (ks : List ℕ). Contains ks j) (sym is) (elim (cases_lt j i) [
          | inl below ↦ inserted_kept nat_cmp exact_unsigned i due j (first.there j from below)
          | inr ge ↦
              let same : i ≡ j = omega (arith, ge, lt) in
              subst (λ (k : ℕ). Contains (insert_key nat_cmp due i) k) same (inserted_there nat_cmp exact_unsigned i due)
        ]);
        only = λ j there. elim (inserted_only nat_cmp exact_unsigned i due j (subst (λ (ks : List ℕ). Contains ks j) is there)) [
          | inl same ↦ (omega (arith, same, begun), omega (arith, same))
          | inr before ↦ let b = first.only j before in (b.0, let lt = b.1 in omega (arith, lt))
        ];
      },
    )

pub loop-i-2-init : goal.loop-i-2-init
loop-i-2-init c =
    let first = c.loop-i.invariant.1 in
    let ended = c.loop-i-test.false in
    let within = c.loop-i.auto.i-end c.requires in
    record {
      sorted = first.sorted;
      between = λ i from lt. first.there i from (omega (arith, lt, ended));
      waited = λ q old. inl old;
      only = λ i there. inl (let b = first.only i there in (b.0, let lt = b.1 in omega (arith, lt, within)));
      kept = λ q there. there;
    }

pub loop-i-2-preserved : goal.loop-i-2-preserved
loop-i-2-preserved c =
    let so_far = c.loop-i-2.invariant in
    let due = c.loop-i-2.due.keys in
    let i = c.in-Some.i in
    let popped = c.in-Some.ensures in
    let is = c.in_ok-insert-2.ensures.keys in
    record {
      sorted = c.in_ok-insert-2.ensures.ordered;
      between = λ j from lt. subst (λ (ks : List ℕ). Contains ks j) (sym is) (inserted_kept nat_cmp exact_unsigned i due j (so_far.between j from lt));
      waited = λ q old. elim (so_far.waited q old) [
        | inr told ↦ inr (told.0, subst (λ (ks : List ℕ). Contains ks q.1) (sym is) (inserted_kept nat_cmp exact_unsigned i due q.1 told.1))
        | inl still ↦ elim (first_or_later (popped.0, i) c.pop_up_to.new.waiting.keys q (subst (λ (ks : List (ℕ × ℕ)). Contains ks q) popped.2 still)) [
          | inr later ↦ inl later
          | inl here ↦ inr (subst (λ (p : ℕ × ℕ). (p.0 ≤ c.args.at) × Contains c.insert-in-Some.new.self.keys p.1) (sym here)
              (popped.1, subst (λ (ks : List ℕ). Contains ks i) (sym is) (inserted_there nat_cmp exact_unsigned i due)))
        ]
      ];
      only = λ j there. elim (inserted_only nat_cmp exact_unsigned i due j (subst (λ (ks : List ℕ). Contains ks j) is there)) [
        | inr before ↦ so_far.only j before
        | inl same ↦ inr (
          popped.0,
          popped.1,
          so_far.kept (popped.0, j) (subst (λ (ks : List (ℕ × ℕ)). Contains ks (popped.0, j)) (sym popped.2)
              (subst (λ (k : ℕ). Contains ((popped.0, i) ∷ c.pop_up_to.new.waiting.keys) (popped.0, k)) (sym same) (first_there (popped.0, i) c.pop_up_to.new.waiting.keys))),
        )
      ];
      kept = λ q new. so_far.kept q (subst (λ (ks : List (ℕ × ℕ)). Contains ks q) (sym popped.2) (later_there (popped.0, i) c.pop_up_to.new.waiting.keys q new));
    }

pub returns : goal.returns
returns c =
    let so_far = c.loop-i-2.invariant in
    let none = c.in_default.ensures in
    record {
      rising = IsStrictlyIncreasing-from_sorted c.loop-i-2.due.keys so_far.sorted;
      between = so_far.between;
      waited = λ q old. elim (so_far.waited q old) [
        | inl still ↦ inl (subst (λ (ks : List (ℕ × ℕ)). Contains ks q) (sym none.0) still)
        | inr told ↦ inr told
      ];
      only = so_far.only;
      kept = λ q new. so_far.kept q (subst (λ (ks : List (ℕ × ℕ)). Contains ks q) none.0 new);
      later = λ q new. none.1 q (subst (λ (ks : List (ℕ × ℕ)). Contains ks q) none.0 new);
    }
