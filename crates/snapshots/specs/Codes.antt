-- The codes of facts, commits and timelines, which models ask for.
use Rattle.std.specs.Prelude.{◌≡◌, ℕ, ◌⊎◌, List, refl}
use Rattle.std.proofs.Common.{inl, inr}
use Rattle.std.specs.Coded.{Coded, code_by, coded×, coded⊎, coded_ℕ, coded_list}
use Rattle.tuple_text.specs.Sets.{SetValue}
use Rattle.tuple_text.specs.Tuples.{TupleValue, FactValue}
use Rattle.tuple_text.specs.declared.users.User.{User}
use Rattle.tuple_text.specs.declared.users.User.TheVariants.{Id, Set}
use Rattle.namespaces.specs.DeclarationCode.{declaration_code}
use Rattle.namespaces.specs.Declaration.{Declaration}
use Rattle.version_chains.specs.Commits.{Commit}
use Rattle.snapshots.specs.Timelines.{TimelineValue}

abbrev pub text_code : Coded (List ℕ)
text_code = coded_list coded_ℕ

abbrev set_code : Coded SetValue
set_code =
    code_by (List ℕ × (List ℕ × List ℕ)) (coded× text_code (coded× text_code text_code))
    (λ s. (s.namespace, (s.id, s.relation))) (λ p. record { namespace = p.0; id = p.1.0; relation = p.1.1 }) (λ _. refl)

abbrev user_parts : User → ℕ ⊎ SetValue
user_parts (Id n) = inl n
user_parts (Set s) = inr s

abbrev user_of : ℕ ⊎ SetValue → User
user_of (inl n) = Id n
user_of (inr s) = Set s

pub user_of-user_parts : (u : User) → user_of (user_parts u) ≡ u
user_of-user_parts (Id n) = refl
user_of-user_parts (Set s) = refl

abbrev user_code : Coded User
user_code = code_by (ℕ ⊎ SetValue) (coded⊎ coded_ℕ set_code) user_parts user_of user_of-user_parts

abbrev tuple_code : Coded TupleValue
tuple_code = code_by (SetValue × User) (coded× set_code user_code) (λ t. (t.set, t.user)) (λ p. record { set = p.0; user = p.1 }) (λ _. refl)

abbrev pub fact_code : Coded FactValue
fact_code = code_by (SetValue × ℕ) (coded× set_code coded_ℕ) (λ f. (f.set, f.user)) (λ p. record { set = p.0; user = p.1 }) (λ _. refl)

abbrev pub commit_code : Coded Commit
commit_code =
    code_by (ℕ × (List TupleValue × List TupleValue)) (coded× coded_ℕ (coded× (coded_list tuple_code) (coded_list tuple_code)))
    (λ c. (c.at, (c.adds, c.removes))) (λ p. record { at = p.0; adds = p.1.0; removes = p.1.1 }) (λ _. refl)

abbrev pub timeline_code : Coded TimelineValue
timeline_code =
    code_by (List Declaration × List Commit) (coded× (coded_list declaration_code) (coded_list commit_code))
    (λ t. (t.declarations, t.commits)) (λ p. record { declarations = p.0; commits = p.1 }) (λ _. refl)
