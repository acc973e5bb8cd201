use Rattle.std.proofs.Common.{◌≡◌, ℕ, [], ◌||◌, take, drop, nat_eq}
use Rattle.std.specs.BTreeSet.{contains}
use Rattle.std.specs.List.{list_any}
use Rattle.std.specs.Ordering.{nat_cmp}
use Rattle.version_chains.specs.Appends.{repeat_from}
use Rattle.version_chains.proofs.repeats.first_repeat.Given as goal

abbrev pub invariant-loop-place : goal.invariant-loop-place
invariant-loop-place l = record {
  seen : (k : ℕ) → (contains nat_cmp l.seen k || list_any (λ s. nat_eq s k) l.rising) ≡ list_any (λ s. nat_eq s k) (take l.place l.numbers);
  left : repeat_from nat_eq [] 0 l.numbers ≡ repeat_from nat_eq (take l.place l.numbers) l.place (drop l.place l.numbers);
}
