-- How it is decided what definitions ask of lists and of stored tuples. A decision is computed, with the reason for
-- its answer.
use Rattle.std.proofs.Common.{◌≡◌, ℕ, zero, suc, List, [], ◌∷◌, ◌⊎◌, inl, inr, refl, subst, sym, ap, ◌∙◌, arith}
use Rattle.std.proofs.Math.Decide.{ℕ_discrete}
use Rattle.std.specs.Prelude.{Contains}
use Rattle.tuple_text.specs.Sets.{SetValue}
use Rattle.tuple_text.specs.Tuples.{TupleValue}
use Rattle.tuple_text.specs.declared.users.User.{User}
use Rattle.tuple_text.specs.declared.users.User.TheVariants.{Id, Set}
use Rattle.strata.specs.Meaning.{IsStored}

-- ---- members of lists

pub Contains-cons_cases : {X : Type 0} → (x : X) (xs : List X) (y : X) → Contains (x ∷ xs) y → (x ≡ y) ⊎ Contains xs y
Contains-cons_cases x xs y (zero, lt, e) = inl e
Contains-cons_cases x xs y (suc k, lt, e) = inr (k, omega (arith, lt), e)

pub Contains-here : {X : Type 0} → (x : X) (xs : List X) → Contains (x ∷ xs) x
Contains-here x xs = (0, omega arith, refl)

pub Contains-there : {X : Type 0} → (x : X) (xs : List X) (y : X) → Contains xs y → Contains (x ∷ xs) y
Contains-there x xs y c = (suc c.0, omega (arith, c.1), c.2)

pub not_in_nil : {X : Type 0} → (y : X) → ¬ Contains [] y
not_in_nil y c = omega (arith, c.1)

-- ---- decisions of decisions

pub dec_not : {A : Type 0} → Dec A → Dec (¬ A)
dec_not (yes a) = no (λ n. n a)
dec_not (no n) = yes n

pub dec_both : {A B : Type 0} → Dec A → Dec B → Dec (A × B)
dec_both (yes a) (yes b) = yes (a, b)
dec_both (yes a) (no n) = no (λ p. n p.1)
dec_both (no n) d = no (λ p. n p.0)

pub dec_either : {A B : Type 0} → Dec A → Dec B → Dec (A ⊎ B)
dec_either (yes a) d = yes (inl a)
dec_either {A} {B} (no n) (yes b) = yes (inr b)
dec_either {A} {B} (no n) (no m) = no (λ s. elim s [ inl a ↦ n a | inr b ↦ m b ])

pub dec_same : {A B : Type 0} → (A → B) → (B → A) → Dec A → Dec B
dec_same f g (yes a) = yes (f a)
dec_same f g (no n) = no (λ b. n (g b))

-- whether some member of a list meets Q
pub dec_some : {X : Type 0} → (Q : X → Type 0) (xs : List X) → ((x : X) → Contains xs x → Dec (Q x)) → Dec ((x : X) × Contains xs x × Q x)
dec_some Q [] d = no (λ t. not_in_nil t.0 t.1)
dec_some {X} Q (x ∷ xs) d = by_cases (d x (Contains-here x xs)) (dec_some Q xs (λ y c. d y (Contains-there x xs y c)))
  where
    by_cases : Dec (Q x) → Dec ((y : X) × Contains xs y × Q y) → Dec ((y : X) × Contains (x ∷ xs) y × Q y)
    by_cases (yes q) r = yes (x, Contains-here x xs, q)
    by_cases (no n) (yes t) = yes (t.0, Contains-there x xs t.0 t.1, t.2)
    by_cases (no n) (no m) = no (λ t. elim (Contains-cons_cases x xs t.0 t.1)
        [ inl e ↦ n (subst Q (sym e) t.2) | inr c ↦ m (t.0, c, t.2) ])

pub dec_contains : {X : Type 0} → Discrete X → (xs : List X) (y : X) → Dec (Contains xs y)
dec_contains {X} same xs y =
    dec_same (λ t. subst (Contains xs) t.2 t.1) (λ c. (y, c, refl)) (dec_some (λ (x : X). x ≡ y) xs (λ x _. same x y))

-- ---- texts, usersets and tuples

pub same_bytes : Discrete (List ℕ)
same_bytes [] [] = yes refl
same_bytes [] (y ∷ ys) = no (λ e. cc)
same_bytes (x ∷ xs) [] = no (λ e. cc)
same_bytes (x ∷ xs) (y ∷ ys) = heads (ℕ_discrete x y) (same_bytes xs ys)
  where
    heads : Dec (x ≡ y) → Dec (xs ≡ ys) → Dec (x ∷ xs ≡ y ∷ ys)
    heads (yes p) (yes q) = yes (cc)
    heads (yes p) (no n) = no (λ e. n (cc))
    heads (no n) d = no (λ e. n (cc))

pub same_set : Discrete SetValue
same_set a b = parts (same_bytes a.namespace b.namespace) (same_bytes a.id b.id) (same_bytes a.relation b.relation)
  where
    parts : Dec (a.namespace ≡ b.namespace) → Dec (a.id ≡ b.id) → Dec (a.relation ≡ b.relation) → Dec (a ≡ b)
    parts (yes p) (yes q) (yes r) = yes (λ i. record { namespace = p i; id = q i; relation = r i })
    parts (yes p) (yes q) (no n) = no (λ e. n (ap (λ (x : SetValue). x.relation) e))
    parts (yes p) (no n) d = no (λ e. n (ap (λ (x : SetValue). x.id) e))
    parts (no n) d d' = no (λ e. n (ap (λ (x : SetValue). x.namespace) e))

pub same_users : Discrete User
same_users (Id m) (Id n) = dec_same (λ e. ap Id e) (λ e. (cc)) (ℕ_discrete m n)
same_users (Id m) (Set h) = no (λ e. cc)
same_users (Set g) (Id n) = no (λ e. cc)
same_users (Set g) (Set h) = dec_same (λ e. ap Set e) (λ e. (cc)) (same_set g h)

pub same_tuple : Discrete TupleValue
same_tuple a b = parts (same_set a.set b.set) (same_users a.user b.user)
  where
    parts : Dec (a.set ≡ b.set) → Dec (a.user ≡ b.user) → Dec (a ≡ b)
    parts (yes p) (yes q) = yes (λ i. record { set = p i; user = q i })
    parts (yes p) (no n) = no (λ e. n (ap (λ (x : TupleValue). x.user) e))
    parts (no n) d = no (λ e. n (ap (λ (x : TupleValue). x.set) e))

-- whether some stored userset of s meets Q
pub dec_some_stored : (store : List TupleValue) (s : SetValue) (Q : SetValue → Type 0)
    → ((g : SetValue) → IsStored store s (Set g) → Dec (Q g)) → Dec ((g : SetValue) × IsStored store s (Set g) × Q g)
dec_some_stored store s Q d =
    dec_same
    (λ t. (t.2.0, subst (Contains store) t.2.1 t.1, t.2.2))
    (λ t. (record { set = s; user = Set t.0 }, t.1, (t.0, refl, t.2)))
    (dec_some (λ (t : TupleValue). (g : SetValue) × (t ≡ record { set = s; user = Set g }) × Q g) store (λ t c. at t t.user refl c))
  where
    at : (t : TupleValue) (u : User) → t.user ≡ u → Contains store t → Dec ((g : SetValue) × (t ≡ record { set = s; user = Set g }) × Q g)
    at t (Id n) e c = no (λ h. let k : Id n ≡ Set h.0 = sym e ∙ ap (λ (x : TupleValue). x.user) h.1 in cc)
    at t (Set g) e c = by_cases (same_tuple t (record { set = s; user = Set g }))
      where
        by_cases : Dec (t ≡ record { set = s; user = Set g }) → Dec ((h : SetValue) × (t ≡ record { set = s; user = Set h }) × Q h)
        by_cases (yes p) = dec_same (λ q. (g, p, q))
            (λ h. let k : Set h.0 ≡ Set g = sym (ap (λ (x : TupleValue). x.user) h.1) ∙ e in
            let l : h.0 ≡ g = cc in subst Q l h.2)
            (d g (subst (Contains store) p c))
        by_cases (no n) = no (λ h. let k : Set h.0 ≡ Set g = sym (ap (λ (x : TupleValue). x.user) h.1) ∙ e in
            let l : h.0 ≡ g = cc in n (subst (λ (x : SetValue). t ≡ record { set = s; user = Set x }) l h.1))
