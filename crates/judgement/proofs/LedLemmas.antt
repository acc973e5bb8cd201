-- What leads to a user in a crowded userset: from what is stored in it, and from what is known of the user.
use Rattle.std.proofs.Common.{◌≡◌, ℕ, suc, ◌<◌, Bool, true, List, [], ◌∷◌, length, map, Option, None, Some, ◌↔◌, ◌⊎◌, inl, inr, IsTrue, false, refl, sym, ◌∙◌, ap, subst, nat_eq, ◌||◌, arith}
use Rattle.std.specs.Prelude.{Contains, slice_get, option_map}
use Rattle.std.specs.List.{list_any}
use Rattle.std.proofs.lemmas.Bool.{eqb-true, eq-eqb}
use Rattle.std.proofs.lemmas.Option.{slice_get-map, slice_get_within, slice_get_read, get_or_from_slice_get}
use Rattle.tuple_text.specs.Sets.{SetValue, set_eq}
use Rattle.tuple_text.specs.Tuples.{FactValue, TupleValue, fact_of}
use Rattle.tuple_text.specs.declared.users.User.TheVariants.{Set}
use Rattle.tuple_text.proofs.ValueLemmas.{set_eq-same, set_eq-itself}
use Rattle.strata.specs.Meaning.{IsStored}
use Rattle.marks.specs.Placed.{IsLinkedPlace, last_place, newest_first, passes}
use Rattle.marks.proofs.PlacedLemmas.{at_last_place, given_at, given_from, last_place-map, newest_first-here, newest_first-through}
use Rattle.judgement.specs.Facts.{is_of_user, sets_before, sets_of_user, user_of}
use Rattle.judgement.specs.Judgement.{KnownValue}
use Rattle.judgement.specs.Passes.{IsLed, IsObjectStored, IsTargetStored, SomeSet, target}
use Rattle.judgement.proofs.PassLemmas.{some_from, some_given}

any_map : {X Y : Type 0} (f : X → Y) (p : Y → Bool) (xs : List X) → list_any p (map f xs) ≡ list_any (λ x. p (f x)) xs
any_map f p [] = refl
any_map f p (x ∷ xs) = ap (λ b. p (f x) || b) (any_map f p xs)

-- ---- the facts of a user, by their places

passed : {X : Type 0} (p : X → Bool) (o : Option X) → passes p o ≡ true → (x : X) × (o ≡ Some x) × (p x ≡ true)
passed p None h = absurd cc
passed p (Some x) h = (x, refl, h)

module _ (user : ℕ) (fs : List FactValue) (i : ℕ) where
  pub within_facts : passes (is_of_user user) (slice_get fs i) ≡ true → i < length fs
  within_facts h = let w = passed (is_of_user user) (slice_get fs i) h in slice_get_within fs i w.0 w.1

  pub older_by_users : (users : List ℕ) (older : ℕ) → users ≡ map user_of fs → passes (is_of_user user) (slice_get fs i) ≡ true
      → ((mark : ℕ) → slice_get users i ≡ Some mark → older ≡ last_place (nat_eq mark) users i) → older ≡ last_place (is_of_user user) fs i
  older_by_users users older are h link =
      let w = passed (is_of_user user) (slice_get fs i) h in
      let own : w.0.user ≡ user = sym (eqb-true user w.0.user w.2) in
      let here : slice_get users i ≡ Some user =
      ap (λ (us : List ℕ). slice_get us i) are ∙ slice_get-map user_of fs i ∙ ap (option_map user_of) w.1 ∙ ap Some own in
      link user here ∙ ap (λ (us : List ℕ). last_place (nat_eq user) us i) are ∙ last_place-map user_of (nat_eq user) fs i

-- where a walk stands that began at a place of the user
module _ (user : ℕ) (fs : List FactValue) (place : ℕ) (on : IsLinkedPlace (is_of_user user) fs place) (i : ℕ) (next : place ≡ suc i) where
  pub fact_at : (f : FactValue) × (slice_get fs i ≡ Some f) × (is_of_user user f ≡ true)
  fact_at = let w = at_last_place (is_of_user user) fs on.0 i (sym on.2 ∙ next) in (w.0, w.1, w.2)

  pub linked_on : (older : ℕ) → older ≡ last_place (is_of_user user) fs i → IsLinkedPlace (is_of_user user) fs older
  linked_on older e = let within = slice_get_within fs i fact_at.0 fact_at.1 in (i, omega (arith, within), e)

  pub sets_on : (older : ℕ) → older ≡ last_place (is_of_user user) fs i → sets_before user fs place ≡ fact_at.0.set ∷ sets_before user fs older
  sets_on older e =
      let before : newest_first (is_of_user user) fs i ≡ newest_first (is_of_user user) fs older =
      newest_first-through (is_of_user user) (is_of_user user) (λ x h. h) fs i ∙ ap (newest_first (is_of_user user) fs) (sym e) in
      ap (sets_before user fs) next
      ∙ ap (map (λ (f : FactValue). f.set)) (newest_first-here (is_of_user user) fs i fact_at.0 fact_at.1 fact_at.2)
      ∙ ap (λ (gs : List FactValue). fact_at.0.set ∷ map (λ (f : FactValue). f.set) gs) before

-- ---- what leads to a user

-- what is known to hold of a user, by the usersets of his facts
module _ (yes : List FactValue) (user : ℕ) where
  pub known_by_sets : (g : SetValue) → list_any (set_eq g) (sets_of_user user yes) ≡ true → Contains yes (fact_of g user)
  known_by_sets g h =
      let w = given_at (is_of_user user) (λ f. set_eq g f.set) yes (length yes) (sym (any_map (λ (f : FactValue). f.set) (set_eq g) (newest_first (is_of_user user) yes (length yes))) ∙ h) in
      let same_set : g ≡ w.1.set = set_eq-same g w.1.set w.5 in
      let same_user : user ≡ w.1.user = eqb-true user w.1.user w.4 in
      let is : w.1 ≡ fact_of g user = λ i. record { set = sym same_set i; user = sym same_user i } in
      let here : slice_get yes w.0 ≡ Some (fact_of g user) = w.3 ∙ ap (λ (f : FactValue). Some f) is in
      (w.0, slice_get_within yes w.0 (fact_of g user) here, get_or_from_slice_get yes w.0 (fact_of g user) (fact_of g user) here)

  pub sets_by_known : (g : SetValue) → Contains yes (fact_of g user) → list_any (set_eq g) (sets_of_user user yes) ≡ true
  sets_by_known g c =
      let here : slice_get yes c.0 ≡ Some (fact_of g user) = slice_get_read yes (length yes) c.0 (fact_of g user) refl c.1 (sym c.2) in
      any_map (λ (f : FactValue). f.set) (set_eq g) (newest_first (is_of_user user) yes (length yes))
      ∙ given_from (is_of_user user) (λ f. set_eq g f.set) yes (length yes) c.0 (fact_of g user) c.1 here (eq-eqb user user refl) (set_eq-itself g)

-- a fact holds through what is stored where the userset of a known fact of the user is the target of that
pub led_by_targets : (store : List TupleValue) (known : KnownValue) (set : SetValue) (relation : Option (List ℕ)) (user : ℕ)
    → SomeSet (IsTargetStored store set relation) (sets_of_user user known.yes) ↔ IsLed store known set relation user
led_by_targets store known set relation user = (
  λ h.
      let w = some_given (IsTargetStored store set relation) (sets_of_user user known.yes) h in
      (w.2.0, w.2.1, subst (λ (t : SetValue). Contains known.yes (fact_of t user)) (sym w.2.2) (known_by_sets known.yes user w.0 w.1)),
  λ l.
      some_from (IsTargetStored store set relation) (sets_of_user user known.yes) (target l.0 relation)
      (sets_by_known known.yes user (target l.0 relation) l.2) (l.0, l.1, refl),
)

-- what is left of some usersets decides where the first does not
pub some_left : (P : SetValue → Type 0) (old new : List SetValue) (t : SetValue) (whole : Type 0) → old ≡ t ∷ new → ¬ P t
    → (SomeSet P old ↔ whole) → (SomeSet P new ↔ whole)
some_left P old new t whole is not_first same = (
  λ s. same.0 (subst (SomeSet P) (sym is) (inr s)),
  λ w. elim (subst (SomeSet P) is (same.1 w)) [ inl first ↦ absurd (not_first first) | inr rest ↦ rest ],
)

-- a userset is a target itself where it is stored
pub target_itself : (store : List TupleValue) (set t : SetValue) (b : Bool) → (IsTrue b ↔ IsStored store set (Set t)) → IsTrue b ↔ IsTargetStored store set None t
target_itself store set t b is = (
  λ h. (t, is.0 h, refl),
  λ w. is.1 (subst (λ (g : SetValue). IsStored store set (Set g)) w.2 w.1),
)

-- a userset's object under a relation is a target where it has that relation, and a userset of its object is stored
pub target_by_object : (store : List TupleValue) (set t : SetValue) (relation : List ℕ)
    → t.relation ≡ relation → IsObjectStored store set t → IsTargetStored store set (Some relation) t
target_by_object store set t relation same o =
    (o.0, o.1, λ i. record { namespace = o.2.0 i; id = o.2.1 i; relation = sym same i })

object_by_target : (store : List TupleValue) (set t : SetValue) (relation : List ℕ)
    → IsTargetStored store set (Some relation) t → (t.relation ≡ relation) × IsObjectStored store set t
object_by_target store set t relation h =
    (sym (ap (λ (g : SetValue). g.relation) h.2), (h.0, h.1, (ap (λ (g : SetValue). g.namespace) h.2, ap (λ (g : SetValue). g.id) h.2)))

pub target_by_stored_object : (store : List TupleValue) (set t : SetValue) (relation : List ℕ) (b : Bool) → t.relation ≡ relation
    → (IsTrue b ↔ IsObjectStored store set t) → IsTrue b ↔ IsTargetStored store set (Some relation) t
target_by_stored_object store set t relation b same is = (
  λ h. target_by_object store set t relation same (is.0 h),
  λ w. is.1 (object_by_target store set t relation w).1,
)

pub decided : (P : Type 0) (b : Bool) → (b ≡ true → P) → (b ≡ false → ¬ P) → IsTrue b ↔ P
decided P true is none = (λ _. is refl, λ _. refl)
decided P false is none = (λ h. absurd (let bad : false ≡ true = h in cc), λ p. absurd (none refl p))

-- either of two lists shows it, and either shows that it is not so
pub led_by_either : (S T L : Type 0) (b : Bool) → (S ↔ L) → (T ↔ L) → (b ≡ true → S ⊎ T) → (b ≡ false → (¬ S) ⊎ (¬ T)) → IsTrue b ↔ L
led_by_either S T L true s t leads none = (λ _. elim (leads refl) [ inl h ↦ s.0 h | inr h ↦ t.0 h ], λ _. refl)
led_by_either S T L false s t leads none = (
  λ h. absurd (let bad : false ≡ true = h in cc),
  λ l. absurd (elim (none refl) [ inl n ↦ n (s.1 l) | inr n ↦ n (t.1 l) ]),
)
