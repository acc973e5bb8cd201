use Rattle.std.proofs.Common.{◌≡◌, ℕ, inl, inr, List, ◌∷◌, sym, subst}
use Rattle.std.specs.Prelude.{Contains}
use Rattle.std.specs.BTreeSet.{insert_key}
use Rattle.std.specs.Ordering.{nat_cmp}
use Rattle.std.proofs.lemmas.Bool.{true≢false}
use Rattle.std.proofs.lemmas.Map.Keys.{IsStrictlyIncreasing-from_sorted}
use Rattle.std.proofs.lemmas.Map.Lookups.{exact_unsigned}
use Rattle.monitor.proofs.WaitingLemmas.{first_there, later_there, first_or_later, none_there, none_left, inserted_there, inserted_kept, inserted_only}
use Rattle.monitor.proofs.waiting.left.Goals as goal

pub loop-i-init : goal.loop-i-init
loop-i-init c = record {
  sorted = c.new-left.ensures.ordered;
  all = λ q there. inl there;
  only = λ i there. absurd (none_there i (subst (λ (ks : List ℕ). Contains ks i) c.new-left.ensures.empty there));
  kept = λ q there. there;
}

pub loop-i-preserved : goal.loop-i-preserved
loop-i-preserved c =
    let so_far = c.loop-i.invariant in
    let left = c.loop-i.left.keys in
    let pair : ℕ × ℕ = (c.in-Some.field-0-0, c.in-Some.i) in
    let rest = c.pop_first.new.self.keys in
    let popped : c.loop-i.waiting.keys ≡ pair ∷ rest = c.in-Some.ensures.removal in
    let is : c.insert.new.self.keys ≡ insert_key nat_cmp left pair.1 = c.in_ok-insert.ensures.keys in
    record {
      sorted = c.in_ok-insert.ensures.ordered;
      all = λ q old. elim (so_far.all q old) [
        | inr gone ↦ inr (subst (λ (ks : List ℕ). Contains ks q.1) (sym is) (inserted_kept nat_cmp exact_unsigned pair.1 left q.1 gone))
        | inl still ↦ elim (first_or_later pair rest q (subst (λ (ks : List (ℕ × ℕ)). Contains ks q) popped still)) [
          | inr later ↦ inl later
          | inl here ↦ inr (subst (λ (p : ℕ × ℕ). Contains c.insert.new.self.keys p.1) (sym here)
              (subst (λ (ks : List ℕ). Contains ks pair.1) (sym is) (inserted_there nat_cmp exact_unsigned pair.1 left)))
        ]
      ];
      only = λ i there. elim (inserted_only nat_cmp exact_unsigned pair.1 left i (subst (λ (ks : List ℕ). Contains ks i) is there)) [
        | inr before ↦ so_far.only i before
        | inl same ↦ (
          pair.0,
          so_far.kept (pair.0, i) (subst (λ (ks : List (ℕ × ℕ)). Contains ks (pair.0, i)) (sym popped)
              (subst (λ (k : ℕ). Contains (pair ∷ rest) (pair.0, k)) (sym same) (first_there pair rest))),
        )
      ];
      kept = λ q new. so_far.kept q (subst (λ (ks : List (ℕ × ℕ)). Contains ks q) (sym popped) (later_there pair rest q new));
    }

pub returns : goal.returns
returns c =
    let so_far = c.loop-i.invariant in
    let none = none_left c.loop-i.waiting.keys (λ some. true≢false (sym (c.in_default.ensures.variant.1 some))) in
    record {
      rising = IsStrictlyIncreasing-from_sorted c.loop-i.left.keys so_far.sorted;
      all = λ q old. elim (so_far.all q old) [
        | inl still ↦ absurd (none_there q (subst (λ (ks : List (ℕ × ℕ)). Contains ks q) none still))
        | inr gone ↦ gone
      ];
      only = so_far.only;
    }
