-- Of which namespaces something matters that is stored in a tupleset.
use Rattle.std.proofs.Common.{◌≡◌, ◌≤◌, ◌<◌, ◌^◌, ℕ, suc, List, [], None, Some, length, ap, sym, ◌∙◌, subst, inl, arith}
use Rattle.std.specs.Prelude.{Contains, IfSome, IsSomeAnd, Option, slice_get}
use Rattle.tuple_text.specs.Sets.{SetValue}
use Rattle.tuple_text.specs.Tuples.{fact_of}
use Rattle.tuple_text.specs.declared.users.User.TheVariants.{Set}
use Rattle.namespaces.specs.Declaration.{Declaration}
use Rattle.namespaces.specs.Lookup.{namespace_names, namespace_numbered, place_of, rule_at}
use Rattle.strata.specs.Meaning.{with_relation, IsStored}
use Rattle.namespaces.specs.Numbers.{Has}
use Rattle.namespaces.specs.declared.number_set.Numbers.{Numbers}
use Rattle.snapshots.specs.Snapshots.{rules_in, tuples_in}
use Rattle.snapshots.specs.declared.snapshot.Snapshot.{Snapshot}
use Rattle.judgement.specs.Decided.{dec_undeclared}
use Rattle.wide_rules.specs.Declaring.{AreDeclaring, DeclaresNone}
use Rattle.wide_rules.specs.Kept.{AreLive}
use Rattle.judgement.specs.Judgement.{KnownValue, IsOut}
use Rattle.judgement.specs.StoredIn.{HaveStored}
use Rattle.judgement.specs.Passes.{AreBarred}
use Rattle.judgement.proofs.IndexLemmas.{numbered}
use Rattle.judgement.proofs.PassLemmas.{place_of_element}

-- the namespace of a number, where it declares a relation, is that of a userset with that number
pub none_of_number : (ds : List Declaration) (at : ℕ) (names : List (List ℕ)) (n : ℕ) (namespace q : List ℕ) → length (namespace_names ds) ≤ 256
    → namespace_numbered n ds ≡ Some namespace → DeclaresNone (rule_at ds at) names namespace → place_of q (namespace_names ds) ≡ Some n → DeclaresNone (rule_at ds at) names q
none_of_number ds at names n namespace q few is none place relation named = by (dec_undeclared (rule_at ds at q relation))
  where
    by : Dec (rule_at ds at q relation ≡ None) → rule_at ds at q relation ≡ None
    by (yes absent) = absent
    by (no declared) =
        let k = numbered ds at q relation declared few in
        let numbers : Some (suc k.0) ≡ Some n = sym k.2 ∙ place in
        let same : suc k.0 ≡ n = cc in
        let names_of : Some q ≡ Some namespace = sym k.3 ∙ ap (λ (m : ℕ). namespace_numbered m ds) same ∙ is in
        let one : namespace ≡ q = cc in
        subst (λ (x : List ℕ). rule_at ds at x relation ≡ None) one (none relation named)

-- what no namespace of a stored userset declares lets nobody in
pub none_live : (s : Snapshot) (set : SetValue) (names : List (List ℕ)) (known : KnownValue) (user : ℕ)
    → AreLive s set names [] → AreBarred (rules_in s) (tuples_in s) known set names user
none_live s set names known user live name named g stored = by (dec_undeclared (rules_in s g.namespace name))
  where
    by : Dec (rules_in s g.namespace name ≡ None) → IsOut (rules_in s) known (fact_of (with_relation g name) user)
    by (yes none) = inl none
    by (no declared) =
        let n = numbered s.timeline.declarations s.at g.namespace name declared live.few in
        absurd (let there = live.all (suc n.0) g name stored n.2 named declared in omega (arith, there.1))

-- all that declare one at some time
pub live_declaring : (s : Snapshot) (set : SetValue) (names : List (List ℕ)) (numbers : List ℕ) → s.at < 2 ^ 64
    → AreDeclaring s.timeline.declarations names numbers → AreLive s set names numbers
live_declaring s set names numbers small are = record {
  few = are.few;
  all = λ n g name stored place named declared.
      let k = numbered s.timeline.declarations s.at g.namespace name declared are.few in
      let both : Some (suc k.0) ≡ Some n = sym k.2 ∙ place in
      let same : suc k.0 ≡ n = cc in
      subst (Contains numbers) same (are.all k.0 s.at g.namespace name k.1 small k.3 named declared);
}

-- none where no namespace of a stored userset declares one
pub live_nowhere : (s : Snapshot) (set : SetValue) (names : List (List ℕ)) → length (namespace_names s.timeline.declarations) ≤ 256
    → ((g : SetValue) → IsStored (tuples_in s) set (Set g) → DeclaresNone (rules_in s) names g.namespace) → AreLive s set names []
live_nowhere s set names few none = record {
  few = few;
  all = λ n g name stored place named declared. absurd (declared (none g stored name named));
}

-- where those among the declaring ones were looked at one by one
pub live_by_numbers : (s : Snapshot) (set : SetValue) (names : List (List ℕ)) (numbers live : List ℕ) → s.at < 2 ^ 64
    → AreDeclaring s.timeline.declarations names numbers
    → ((k n : ℕ) → k < length numbers → slice_get numbers k ≡ Some n → (g : SetValue) (name : List ℕ) → IsStored (tuples_in s) set (Set g)
    → place_of g.namespace (namespace_names s.timeline.declarations) ≡ Some n → Contains names name → ¬ (rules_in s g.namespace name ≡ None) → Contains live n)
    → AreLive s set names live
live_by_numbers s set names numbers live small are each = record {
  few = are.few;
  all = λ n g name stored place named declared.
      let there = (live_declaring s set names numbers small are).all n g name stored place named declared in
      let p = place_of_element numbers n there in
      each p.0 n p.1 p.2 g name stored place named declared;
}

-- ---- by the namespaces of what is stored

-- none where no namespace of what is stored declares one at some time
pub none_shared : (s : Snapshot) (set : SetValue) (names : List (List ℕ)) (numbers : List ℕ) (stored all : Numbers)
    → s.at < 2 ^ 64 → AreDeclaring s.timeline.declarations names numbers → ((n : ℕ) → Contains numbers n → Has all n) → HaveStored s set stored
    → ((n : ℕ) → Has stored n → Has all n → ⊥) → AreLive s set names []
none_shared s set names numbers stored all small are each have apart = record {
  few = are.few;
  all = λ n g name there place named declared.
      absurd (apart n (have n g there place) (each n ((live_declaring s set names numbers small are).all n g name there place named declared)));
}

-- nor of a number that is not among those of what is stored
pub none_absent : (s : Snapshot) (set : SetValue) (stored : Option Numbers) (n : ℕ) (g : SetValue)
    → IfSome stored (HaveStored s set) → IsSomeAnd stored (λ m. ¬ Has m n) → IsStored (tuples_in s) set (Set g)
    → place_of g.namespace (namespace_names s.timeline.declarations) ≡ Some n → ⊥
none_absent s set None n g have absent there place = absent
none_absent s set (Some m) n g have absent there place = absent (have n g there place)
