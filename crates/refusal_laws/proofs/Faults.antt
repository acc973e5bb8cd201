-- One test behind the other gives the first fault that applies.
use Rattle.std.proofs.Common.{◌≡◌, ℕ, Bool, true, false, cond, List, [], ◌∷◌, ◌++◌, Option, None, Some, Result, Ok, Err, refl, ap, ◌∙◌}
use Rattle.std.specs.Prelude.{filter, slice_get}
use Rattle.serde_json.specs.Data.{Data}
use Rattle.refusals.specs.Refusals.{◌>>=◌}
use Rattle.namespaces.specs.Adding.{tested, is_declared, is_full, namespace, rules_add}
use Rattle.namespaces.specs.Changing.{continued, is_full_for, rules_change}
use Rattle.namespaces.specs.Declaration.{Relation, Namespace, Declaration, addition, change}
use Rattle.namespaces.specs.Lookup.{relations_of}
use Rattle.namespaces.specs.declared.fault.RulesFault.{RulesFault}
use Rattle.namespaces.specs.declared.fault.RulesFault.TheVariants.{RelationsChanged, StratumChanged}
use Rattle.refusal_laws.specs.LeastFault.{of_addition, of_change, applies, applies_to_addition, applies_to_change, first_of, unless}

-- the tests of some faults in turn, and then r
abbrev chain : {X : Type 0} → (RulesFault → Bool) → List RulesFault → Result X RulesFault → Result X RulesFault
chain f [] r = r
chain f (x ∷ xs) r = cond (f x) (Err x) (chain f xs r)

chain-then : {X Y : Type 0} (f : RulesFault → Bool) (xs : List RulesFault) (r : Result X RulesFault) (k : X
    → Result Y RulesFault) → (chain f xs r >>= k) ≡ chain f xs (r >>= k)
chain-then f [] r k = refl
chain-then {X} {Y} f (x ∷ xs) r k = by_test (f x) (chain-then f xs r k)
  where
    by_test : (b : Bool) → (chain f xs r >>= k) ≡ chain f xs (r >>= k)
        → (cond b (Err x) (chain f xs r) >>= k) ≡ cond b (Err x) (chain f xs (r >>= k))
    by_test true rest = refl
    by_test false rest = rest

chain-first : (f : RulesFault → Bool) (xs : List RulesFault) (ds : List Declaration)
    → chain f xs (Ok ds) ≡ unless (first_of f xs) ds
chain-first f [] ds = refl
chain-first f (x ∷ xs) ds = by_test (f x) (chain-first f xs ds)
  where
    by_test : (b : Bool) → chain f xs (Ok ds) ≡ unless (first_of f xs) ds
        → cond b (Err x) (chain f xs (Ok ds)) ≡ unless (slice_get (cond b (x ∷ filter f xs) (filter f xs)) 0) ds
    by_test true rest = refl
    by_test false rest = rest

tested-chain : (repeated full : Bool) (old : Option (List Relation)) (n : Namespace)
    → tested repeated full n ≡ chain (applies repeated full old n) of_addition (Ok n)
unfolding tested
tested-chain repeated full old n = refl

pub added_law : (ds : List Declaration) (d : Data) (n : Namespace) → namespace d ≡ Ok n
    → rules_add ds d ≡ unless (first_of (applies_to_addition ds n) of_addition) (ds ++ addition n ∷ [])
added_law ds d n is =
    rw is (ap (λ (r : Result Namespace RulesFault). r >>= λ m. Ok (ds ++ addition m ∷ [])) (tested-chain (is_declared
    n.name ds) (is_full ds) None n)
    ∙ chain-then (applies_to_addition ds n) of_addition (Ok n) (λ m. Ok (ds ++ addition m ∷ []))
    ∙ chain-first (applies_to_addition ds n) of_addition (ds ++ addition n ∷ []))

pub added_shape : (ds : List Declaration) (d : Data) (f : RulesFault) → namespace d ≡ Err f → rules_add ds d ≡ Err f
added_shape ds d f is = rw is refl

continued-chain : (full : Bool) (old : Option (List Relation)) (n : Namespace)
    → continued old n ≡ chain (applies false full old n) (RelationsChanged ∷ StratumChanged ∷ []) (Ok n)
unfolding continued
continued-chain full None n = refl
continued-chain full (Some rs) n = refl

pub changed_law : (ds : List Declaration) (at : ℕ) (d : Data) (n : Namespace) → namespace d ≡ Ok n
    → rules_change ds at d ≡ unless (first_of (applies_to_change ds n) of_change) (ds ++ change at n ∷ [])
changed_law ds at d n is =
    let test = applies_to_change ds n in
    let store : Namespace → Result (List Declaration) RulesFault = λ m. Ok (ds ++ change at m ∷ []) in
    rw is (ap (λ (r : Result Namespace RulesFault). (r >>= λ m. continued (relations_of m.name ds) m) >>= store)
    (tested-chain false (is_full_for n.name ds) (relations_of n.name ds) n)
    ∙ ap (λ (r : Result Namespace RulesFault). r >>= store) (chain-then test of_addition (Ok n) (λ m. continued
    (relations_of m.name ds) m))
    ∙ chain-then test of_addition (continued (relations_of n.name ds) n) store
    ∙ ap (λ (r : Result Namespace RulesFault). chain test of_addition (r >>= store)) (continued-chain (is_full_for
    n.name ds) (relations_of n.name ds) n)
    ∙ ap (chain test of_addition) (chain-then test (RelationsChanged ∷ StratumChanged ∷ []) (Ok n) store)
    ∙ chain-first test of_change (ds ++ change at n ∷ []))

pub changed_shape : (ds : List Declaration) (at : ℕ) (d : Data) (f : RulesFault) → namespace d ≡ Err f
    → rules_change ds at d ≡ Err f
changed_shape ds at d f is = rw is refl
