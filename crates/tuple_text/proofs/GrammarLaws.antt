-- What is read is spelled so, and what is spelled so is read.
use Rattle.std.proofs.Common.{◌≡◌, ℕ, ◌-◌, ◌<◌, ◌^◌, true, false, cond, List, ◌∷◌, ◌++◌, length, Option, Some, None, Result, Ok, Err, refl, sym, ap, subst, ◌∙◌, append_assoc}
use Rattle.std.specs.Char.{is_ascii_digit}
use Rattle.std.specs.Fmt.{decimal}
use Rattle.std.specs.List.{list_all}
use Rattle.std.specs.Prelude.{IfOk}
use Rattle.tuple_text.specs.declared.fault.TupleFault.{TupleFault}
use Rattle.tuple_text.specs.declared.fault.TupleFault.TheVariants as faults
use Rattle.tuple_text.specs.declared.users.User.{User}
use Rattle.tuple_text.specs.declared.users.User.TheVariants.{Id, Set}
use Rattle.tuple_text.specs.Sets.{SetValue}
use Rattle.tuple_text.specs.Tuples.{TupleValue, FactValue, tuple_of, fact_of}
use Rattle.tuple_text.specs.Forms.{IsUserset, is_name, is_object_id, is_user_relation, plain_number}
use Rattle.tuple_text.specs.Grammar.{IsUser, IsHead, IsTuple, IsFact, userset_text, user_text, tuple_text, fact_text}
use Rattle.tuple_text.specs.Faults.{Gives, Tells}
use Rattle.refusals.specs.Refusals.{◌>>=◌}
use Rattle.tuple_text.specs.Reading.{part_at, userset_at, id_or, id_only, user_at, head_at, tuple_at, fact_at}
use Rattle.tuple_text.proofs.Numbers.{plain_takes, plain_again}
use Rattle.tuple_text.proofs.Pieces.{guard_then, part_takes, part_again, name_lacks_colon, name_lacks_at, id_lacks, name_no_digit}

-- the value of a step that did not fail
bind_ok : {A B : Type 0} (r : Result A TupleFault) (f : A → Result B TupleFault) (y : B) → (r >>= f) ≡ Ok y → (x : A) × (r ≡ Ok x) × (f x ≡ Ok y)
bind_ok (Ok x) f y e = (x, refl, e)
bind_ok (Err d) f y e = absurd cc

abbrev done : {A : Type 0} → A → Result A TupleFault
done x = Ok x

ok_is : {A : Type 0} (x y : A) → done x ≡ done y → x ≡ y
ok_is x y e = cc

abbrev set_from : List ℕ → List ℕ → List ℕ → SetValue
set_from n i r = record { namespace = n; id = i; relation = r }

pub userset_takes : (text : List ℕ) (s : SetValue) → userset_at text ≡ Ok s → IsUserset s × (text ≡ userset_text s)
unfolding userset_at
userset_takes text s e =
    let len = length text in
    let a = bind_ok (part_at is_name 58 (faults.Namespace 0) text) (λ n. part_at is_object_id 35 (faults.ObjectId (len - length n.1)) n.1 >>= λ id. cond (is_user_relation id.1) (Ok (set_from n.0 id.0 id.1)) (Err (faults.Relation (len - length id.1)))) s e in
    let b = bind_ok (part_at is_object_id 35 (faults.ObjectId (len - length a.0.1)) a.0.1) (λ id. cond (is_user_relation id.1) (Ok (set_from a.0.0 id.0 id.1)) (Err (faults.Relation (len - length id.1)))) s a.2 in
    let made : SetValue = set_from a.0.0 b.0.0 b.0.1 in
    let g = guard_then (is_user_relation b.0.1) (faults.Relation (len - length b.0.1)) made s b.2 in
    let t0 = part_takes is_name 58 (faults.Namespace 0) text a.0 a.1 in
    let t1 = part_takes is_object_id 35 (faults.ObjectId (len - length a.0.1)) a.0.1 b.0 b.1 in
    let whole : text ≡ userset_text made = t0.parts ∙ ap (λ (w : List ℕ). a.0.0 ++ (58 ∷ w)) t1.parts in
    let fits : IsUserset made = record { namespace = t0.passes; id = t1.passes; relation = g.0 } in
    subst (λ (x : SetValue). IsUserset x × (text ≡ userset_text x)) g.1 (fits, whole)

pub userset_again : (s : SetValue) → IsUserset s → userset_at (userset_text s) ≡ Ok s
unfolding userset_at
userset_again s fits =
    let len : ℕ = length (userset_text s) in
    rw (
      part_again is_name 58 (faults.Namespace 0) s.namespace (s.id ++ (35 ∷ s.relation)) (name_lacks_colon s.namespace fits.namespace) fits.namespace,
      part_again is_object_id 35 (faults.ObjectId (len - length (s.id ++ (35 ∷ s.relation)))) s.id s.relation (id_lacks s.id fits.id) fits.id,
      fits.relation,
    ) refl

no_number : (s : SetValue) → IsUserset s → plain_number (userset_text s) ≡ None
unfolding plain_number
no_number s fits =
    let no : list_all is_ascii_digit (userset_text s) ≡ false = name_no_digit s.namespace (58 ∷ (s.id ++ (35 ∷ s.relation))) fits.namespace in
    rw no refl

id_or_takes : (o : Option ℕ) (r : Result SetValue TupleFault) (at : ℕ) (text : List ℕ) (u : User) → plain_number text ≡ o → userset_at text ≡ r → id_or at o r ≡ Ok u → IsUser u × (text ≡ user_text u)
id_or_takes (Some n) r at text u same read e =
    let taken = plain_takes text n same in
    subst (λ (x : User). IsUser x × (text ≡ user_text x)) (ok_is (Id n) u e) (taken.1, taken.0)
id_or_takes None (Ok s) at text u same read e =
    subst (λ (x : User). IsUser x × (text ≡ user_text x)) (ok_is (Set s) u e) (userset_takes text s read)
id_or_takes None (Err d) at text u same read e = absurd cc

user_takes : (at : ℕ) (text : List ℕ) (u : User) → user_at at text ≡ Ok u → IsUser u × (text ≡ user_text u)
unfolding user_at
user_takes at text u e = id_or_takes (plain_number text) (userset_at text) at text u refl refl e

user_again : (at : ℕ) (u : User) → IsUser u → user_at at (user_text u) ≡ Ok u
unfolding user_at
user_again at (Id n) fits = rw (plain_again n fits) refl
user_again at (Set s) fits = rw (no_number s fits, userset_again s fits) refl

-- a name is a relation as it may stand in a user
name_stands : (bs : List ℕ) → is_name bs ≡ true → is_user_relation bs ≡ true
name_stands bs e = rw e refl

-- a userset, `@` and a user
abbrev headed : SetValue → List ℕ → List ℕ
headed s user = userset_text s ++ (64 ∷ user)

regroup : (s : SetValue) (user : List ℕ) → headed s user ≡ s.namespace ++ (58 ∷ (s.id ++ (35 ∷ (s.relation ++ (64 ∷ user)))))
regroup s user = append_assoc s.namespace (58 ∷ (s.id ++ (35 ∷ s.relation))) (64 ∷ user)
    ∙ ap (λ (w : List ℕ). s.namespace ++ (58 ∷ w)) (append_assoc s.id (35 ∷ s.relation) (64 ∷ user))

head_takes : (text : List ℕ) (h : SetValue × List ℕ) → head_at text ≡ Ok h → IsHead h.0 × (text ≡ headed h.0 h.1)
unfolding head_at
head_takes text h e =
    let len = length text in
    let a = bind_ok (part_at is_name 58 (faults.Namespace 0) text) (λ n. part_at is_object_id 35 (faults.ObjectId (len - length n.1)) n.1 >>= λ id. part_at is_name 64 (faults.Relation (len - length id.1)) id.1 >>= λ r. Ok (set_from n.0 id.0 r.0, r.1)) h e in
    let b = bind_ok (part_at is_object_id 35 (faults.ObjectId (len - length a.0.1)) a.0.1) (λ id. part_at is_name 64 (faults.Relation (len - length id.1)) id.1 >>= λ r. Ok (set_from a.0.0 id.0 r.0, r.1)) h a.2 in
    let c = bind_ok (part_at is_name 64 (faults.Relation (len - length b.0.1)) b.0.1) (λ r. Ok (set_from a.0.0 b.0.0 r.0, r.1)) h b.2 in
    let t0 = part_takes is_name 58 (faults.Namespace 0) text a.0 a.1 in
    let t1 = part_takes is_object_id 35 (faults.ObjectId (len - length a.0.1)) a.0.1 b.0 b.1 in
    let t2 = part_takes is_name 64 (faults.Relation (len - length b.0.1)) b.0.1 c.0 c.1 in
    let made : SetValue = set_from a.0.0 b.0.0 c.0.0 in
    let whole : text ≡ headed made c.0.1 = t0.parts ∙ ap (λ (w : List ℕ). a.0.0 ++ (58 ∷ w)) (t1.parts ∙ ap (λ (w : List ℕ). b.0.0 ++ (35 ∷ w)) t2.parts) ∙ sym (regroup made c.0.1) in
    let fits : IsHead made = record { set = record { namespace = t0.passes; id = t1.passes; relation = name_stands c.0.0 t2.passes }; relation = t2.passes } in
    subst (λ (x : SetValue × List ℕ). IsHead x.0 × (text ≡ headed x.0 x.1)) (ok_is (made, c.0.1) h c.2) (fits, whole)

head_again : (s : SetValue) (user : List ℕ) → IsHead s → head_at (headed s user) ≡ Ok (s, user)
unfolding head_at
head_again s user fits =
    let r2 : List ℕ = s.relation ++ (64 ∷ user) in
    let r1 : List ℕ = s.id ++ (35 ∷ r2) in
    let len : ℕ = length (s.namespace ++ (58 ∷ r1)) in
    ap head_at (regroup s user) ∙ rw (
      part_again is_name 58 (faults.Namespace 0) s.namespace r1 (name_lacks_colon s.namespace fits.set.namespace) fits.set.namespace,
      part_again is_object_id 35 (faults.ObjectId (len - length r1)) s.id r2 (id_lacks s.id fits.set.id) fits.set.id,
      part_again is_name 64 (faults.Relation (len - length r2)) s.relation user (name_lacks_at s.relation fits.relation) fits.relation,
    ) refl

-- A userset, `@` and a user, where what reads the user takes what is spelled so.
module _ {U V : Type 0} (of : SetValue → U → V) (Fits : U → Type 0) (spelled : U → List ℕ)
    (user_in : ℕ → List ℕ → Result U TupleFault)
    (takes : (at : ℕ) (text : List ℕ) (u : U) → user_in at text ≡ Ok u → Fits u × (text ≡ spelled u)) where
  headed_takes : (text : List ℕ) (v : V)
      → (head_at text >>= λ h. user_in (length text - length h.1) h.1 >>= λ u. done (of h.0 u)) ≡ Ok v
      → (s : SetValue) × (u : U) × IsHead s × Fits u × (of s u ≡ v) × (text ≡ headed s (spelled u))
  headed_takes text v e =
      let a = bind_ok (head_at text) (λ h. user_in (length text - length h.1) h.1 >>= λ u. done (of h.0 u)) v e in
      let b = bind_ok (user_in (length text - length a.0.1) a.0.1) (λ u. done (of a.0.0 u)) v a.2 in
      let head = head_takes text a.0 a.1 in
      let user = takes (length text - length a.0.1) a.0.1 b.0 b.1 in
      (a.0.0, b.0, head.0, user.0, ok_is (of a.0.0 b.0) v b.2, head.1 ∙ ap (headed a.0.0) user.1)

pub tuple_takes : (text : List ℕ) (t : TupleValue) → tuple_at text ≡ Ok t → IsTuple t × (text ≡ tuple_text t)
unfolding tuple_at
tuple_takes text t e =
    let w = headed_takes tuple_of IsUser user_text user_at user_takes text t e in
    let fits : IsTuple (tuple_of w.0 w.1) = record { head = w.2; user = w.3 } in
    subst (λ (x : TupleValue). IsTuple x × (text ≡ tuple_text x)) w.4 (fits, w.5)

pub tuple_again : (t : TupleValue) → IsTuple t → tuple_at (tuple_text t) ≡ Ok t
unfolding tuple_at
tuple_again t fits =
    rw (
      head_again t.set (user_text t.user) fits.head,
      user_again (length (tuple_text t) - length (user_text t.user)) t.user fits.user,
    ) refl

id_only_takes : (at : ℕ) (text : List ℕ) (n : ℕ) → id_only at (plain_number text) ≡ Ok n
    → (n < 2 ^ 64) × (text ≡ decimal n)
id_only_takes at text n e = pick (plain_number text) refl e
  where
    pick : (o : Option ℕ) → plain_number text ≡ o → id_only at o ≡ Ok n → (n < 2 ^ 64) × (text ≡ decimal n)
    pick (Some m) same h = let taken = plain_takes text m same in rw (← ok_is m n h) (taken.1, taken.0)
    pick None same h = absurd cc

pub fact_takes : (text : List ℕ) (f : FactValue) → fact_at text ≡ Ok f → IsFact f × (text ≡ fact_text f)
unfolding fact_at
fact_takes text f e =
    let read = λ (at : ℕ) (user : List ℕ). id_only at (plain_number user) in
    let w = headed_takes fact_of (λ n. n < 2 ^ 64) decimal read id_only_takes text f e in
    let fits : IsFact (fact_of w.0 w.1) = record { head = w.2; user = w.3 } in
    subst (λ (x : FactValue). IsFact x × (text ≡ fact_text x)) w.4 (fits, w.5)

pub fact_again : (f : FactValue) → IsFact f → fact_at (fact_text f) ≡ Ok f
unfolding fact_at
fact_again f fits =
    rw (head_again f.set (decimal f.user) fits.head, plain_again f.user fits.user) refl

-- the laws, of what a function answered
pub userset_found : (text : List ℕ) (r : Result SetValue TupleFault) → Gives (λ s. s) r (userset_at text) → IfOk r (λ s. IsUserset s × (text ≡ userset_text s))
userset_found text (Ok s) h = userset_takes text s h
userset_found text (Err e) h = tt

pub tuple_found : {X : Type 0} (view : X → TupleValue) (text : List ℕ) (r : Result X TupleFault) → Tells view r (tuple_at text) → IfOk r (λ x. IsTuple (view x) × (text ≡ tuple_text (view x)))
tuple_found view text (Ok x) h = tuple_takes text (view x) h
tuple_found view text (Err e) h = tt

pub fact_found : {X : Type 0} (view : X → FactValue) (text : List ℕ) (r : Result X TupleFault) → Tells view r (fact_at text) → IfOk r (λ x. IsFact (view x) × (text ≡ fact_text (view x)))
fact_found view text (Ok x) h = fact_takes text (view x) h
fact_found view text (Err e) h = tt
