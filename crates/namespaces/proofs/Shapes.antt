-- The shape of an expression, by what stands at its keys.
use Rattle.std.proofs.Common.{◌≡◌, ℕ, zero, length, get_or, ◌<◌, ◌≤◌, suc, cond, List, [], ◌∷◌, ◌++◌, codes, Option, Some, None, Result, Ok, Ordering, Less, Equal, Greater, is_eq, subst, refl, ap, arith}
use Rattle.std.specs.Ordering.{nat_cmp, match_ordering}
use Rattle.std.specs.Cmp.Lexicographic.{slice_cmp}
use Rattle.std.proofs.lemmas.Map.Text.{is_eq-slice_cmp}
use Rattle.serde_json.specs.Data.{Data, null, boolean, number, string, array, object, Members, no_members, member, depth, items_depth, members_depth}
use Rattle.serde_json.specs.Find.{get, get_member, as_array}
use Rattle.serde_json.specs.View.{view, items_view}
use Rattle.serde_json.specs.declared.value.Value.{Value}
use Rattle.namespaces.specs.declared.fault.RulesFault.{RulesFault}
use Rattle.namespaces.specs.Fault.{needed}
use Rattle.refusals.specs.Refusals.{◌>>=◌}
use Rattle.rewrites.specs.Expression.{minus}
use Rattle.namespaces.specs.Shape.{forms_in, only_form, expression, child_list, expressions, exclusion, expression_at, child_list_at, exclusion_at}

module _ {X : Type 0} (f : Data → Result X RulesFault) where
  member_step : (o : Ordering) (d : Data) (here : Result X RulesFault) (rest : Option Data) → here ≡ (needed rest >>= f) → cond (is_eq o) (f d) here ≡ (needed (match_ordering o rest (Some d) rest) >>= f)
  member_step Less d here rest e = e
  member_step Equal d here rest e = refl
  member_step Greater d here rest e = e

pub expression_at-get : (key : List ℕ) (ms : Members) → expression_at key ms ≡ (needed (get_member key ms) >>= expression)
expression_at-get key no_members = refl
expression_at-get key (member k d ms) = rw (← is_eq-slice_cmp key k) (member_step expression (slice_cmp nat_cmp key k) d _ _ (expression_at-get key ms))

pub child_list_at-get : (key : List ℕ) (ms : Members) → child_list_at key ms ≡ (needed (get_member key ms) >>= child_list)
child_list_at-get key no_members = refl
child_list_at-get key (member k d ms) = rw (← is_eq-slice_cmp key k) (member_step child_list (slice_cmp nat_cmp key k) d _ _ (child_list_at-get key ms))

pub exclusion_at-get : (key : List ℕ) (ms : Members) → exclusion_at key ms ≡ (needed (get_member key ms) >>= exclusion)
exclusion_at-get key no_members = refl
exclusion_at-get key (member k d ms) = rw (← is_eq-slice_cmp key k) (member_step exclusion (slice_cmp nat_cmp key k) d _ _ (exclusion_at-get key ms))

pub expression_get : (d : Data)
    → expression d ≡ only_form d (needed (get (codes "union") d) >>= child_list) (needed (get (codes "intersection") d) >>= child_list) (needed (get (codes "exclusion") d) >>= exclusion)
unfolding only_form forms_in
expression_get null = refl
expression_get (boolean b) = refl
expression_get (number n) = refl
expression_get (string s) = refl
expression_get (array ds) = refl
expression_get (object ms) = rw (child_list_at-get (codes "union") ms, child_list_at-get (codes "intersection") ms, exclusion_at-get (codes "exclusion") ms) refl

pub exclusion_get : (d : Data) → exclusion d ≡ ((needed (get (codes "base") d) >>= expression) >>= λ a. (needed (get (codes "subtract") d) >>= expression) >>= λ b. Ok (minus a b))
exclusion_get null = refl
exclusion_get (boolean b) = refl
exclusion_get (number n) = refl
exclusion_get (string s) = refl
exclusion_get (array ds) = refl
exclusion_get (object ms) = rw (expression_at-get (codes "base") ms, expression_at-get (codes "subtract") ms) refl

pub child_list-as_array : (d : Data) → child_list d ≡ (needed (as_array d) >>= expressions)
child_list-as_array null = refl
child_list-as_array (boolean b) = refl
child_list-as_array (number n) = refl
child_list-as_array (string s) = refl
child_list-as_array (array ds) = refl
child_list-as_array (object ms) = refl

-- what a look-up finds is less deep
abbrev Below : ℕ → Option Data → Type 0
Below n None = Unit {0}
Below n (Some d) = depth d ≤ n

below_step : (o : Ordering) (n : ℕ) (d : Data) (rest : Option Data) → depth d ≤ n → Below n rest → Below n (match_ordering o rest (Some d) rest)
below_step Less n d rest here later = later
below_step Equal n d rest here later = here
below_step Greater n d rest here later = later

below_member : (key : List ℕ) (ms : Members) (n : ℕ) → members_depth ms ≤ n → Below n (get_member key ms)
below_member key no_members n h = tt
below_member key (member k d ms) n h = below_step (slice_cmp nat_cmp key k) n d _ (omega arith) (below_member key ms n (omega arith))

-- `front`, and then what was read behind it
abbrev pub after : {A : Type 0} → List A → Result (List A) RulesFault → Result (List A) RulesFault
after front read = read >>= λ rs. Ok (front ++ rs)

pub below_get : (key : List ℕ) (d e : Data) → get key d ≡ Some e → depth e < depth d
below_get key null e h = cc
below_get key (boolean b) e h = cc
below_get key (number n) e h = cc
below_get key (string s) e h = cc
below_get key (array ds) e h = cc
below_get key (object ms) e h = let within = subst (Below (members_depth ms)) h (below_member key ms (members_depth ms) (omega arith)) in omega (arith, within)

needed_ok : {A : Type 0} (o : Option A) (x : A) → needed o ≡ Ok x → o ≡ Some x
needed_ok None x h = cc
needed_ok (Some y) x h = let same : y ≡ x = cc in ap Some same

-- a member lies inside
pub below_member_of : (key : List ℕ) (d e : Data) → needed (get key d) ≡ Ok e → depth e < depth d
below_member_of key d e h = below_get key d e (needed_ok _ e h)

below_item : (vs : List Value) (i : ℕ) (v : Value) → i < length vs → v ≡ get_or vs i v → depth (view v) ≤ items_depth (items_view vs)
below_item [] i v h at = absurd (omega arith)
below_item (w ∷ vs) zero v h at = rw at (omega arith)
below_item (w ∷ vs) (suc i) v h at = omega (arith, below_item vs i v (omega arith) at)

-- an item lies inside
pub below_array : (d : Data) (vs : List Value) (i : ℕ) (v : Value) → needed (as_array d) ≡ Ok (items_view vs) → i < length vs → v ≡ get_or vs i v → depth (view v) < depth d
below_array null vs i v e h at = cc
below_array (boolean b) vs i v e h at = cc
below_array (number n) vs i v e h at = cc
below_array (string s) vs i v e h at = cc
below_array (array ds) vs i v e h at = let same : ds ≡ items_view vs = cc in rw same (omega (arith, below_item vs i v h at))
below_array (object ms) vs i v e h at = cc
