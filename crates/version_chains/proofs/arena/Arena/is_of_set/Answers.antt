use Rattle.std.proofs.Common.{◌≡◌, ◌∙◌, ℕ, List, Option, Some, ap, subst, sym}
use Rattle.std.specs.Prelude.{IfSome}
use Rattle.tuple_text.specs.Refs.{set_value}
use Rattle.tuple_text.specs.Sets.{SetValue, set_eq}
use Rattle.tuple_text.specs.Tuples.{TupleValue}
use Rattle.tuple_text.proofs.ValueLemmas.{set_eq-itself}
use Rattle.version_chains.specs.Arena.{IsOfSet}
use Rattle.version_chains.proofs.arena.Arena.is_of_set.Goals as goal

by_like : (tuples : List TupleValue) (g : SetValue) (like : Option ℕ) (n : ℕ) → like ≡ Some n → IfSome like (IsOfSet tuples g) → IsOfSet tuples g n
by_like tuples g like n is = subst (λ (o : Option ℕ). IfSome o (IsOfSet tuples g)) is

pub returns-then-is_like : goal.returns-then-is_like
returns-then-is_like c t is =
    let g = set_value c.args.set in
    let w = c.is_like.ensures c.if-is_like.true t is in
    let same : t.set ≡ g = w.4 ∙ by_like c.args.self.now.tuples g c.args.like w.1 w.2 c.requires w.0 w.3 in
    sym (ap (λ (x : SetValue). set_eq x g) same ∙ set_eq-itself g)
