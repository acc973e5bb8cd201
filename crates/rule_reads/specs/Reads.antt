-- What the rules ever declared read of the tuples' users, and how a sample fits it. No public clause cites this module.
use Rattle.std.specs.Prelude.{◌≡◌, ℕ, ◌+◌, ◌≤◌, nat_lt, ◌&&◌, Bool, true, false, List, [], map, Contains, Option, None, Some, option_map, is_some, slice_get}
use Rattle.std.proofs.Common.{◌⊎◌}
use Rattle.std.specs.Str.{bytes_eq}
use Rattle.tuple_text.specs.Sets.{SetValue}
use Rattle.tuple_text.specs.Tuples.{TupleValue}
use Rattle.tuple_text.specs.declared.users.User.{User}
use Rattle.tuple_text.specs.declared.users.User.TheVariants.{Id, Set}
use Rattle.namespaces.specs.Declaration.{Relation, Declaration}
use Rattle.namespaces.specs.Lookup.{relation_of, relation_numbered}
use Rattle.namespaces.specs.declared.number.RelNo.{RelNo}
use Rattle.namespaces.specs.WellFormed.{IsWellFormed}
use Rattle.strata.specs.Edges.{Place, at_this, at_computed, at_tuple_to, places, is_broken_between}
use Rattle.marks.specs.Marks.{set_mark}
use Rattle.rule_reads.specs.declared.kinds.Kinds.{Kinds}
use Rattle.rule_reads.specs.declared.reads.Scope.{Scope}
use Rattle.rule_reads.specs.declared.reads.Reader.{Reader}
use Rattle.rule_reads.specs.declared.reads.Reads.{Reads}
use Rattle.rule_reads.specs.declared.reads.Through.{Through}

abbrev pub stratum_of : List Declaration → SetValue → Option ℕ
stratum_of ds g = option_map (λ r. r.stratum) (relation_of g.namespace g.relation ds)

-- ---- marks

-- a mark was added to others, unless it was there
pub record HasMark (mark : ℕ) (is_new : Bool) (old new : List ℕ) : Type 0 where
  pub there : Contains new mark
  pub kept : (m : ℕ) → Contains old m → Contains new m
  pub only : (m : ℕ) → Contains new m → Contains old m ⊎ (mark ≡ m)
  pub same : is_new ≡ false → new ≡ old

-- a relation, as a userset of no object
abbrev pub relation_named : List ℕ → List ℕ → SetValue
relation_named namespace relation = record { namespace = namespace; id = []; relation = relation }

abbrev pub relation_mark : List ℕ → List ℕ → ℕ
relation_mark namespace relation = set_mark (relation_named namespace relation)

-- a relation, and a namespace of users in place of an id
abbrev pub pair_mark : SetValue → List ℕ → ℕ
pair_mark s users = set_mark (record { namespace = s.namespace; id = users; relation = s.relation })

-- a user's relation; an id has none
abbrev pub relation_of_user : User → SetValue
relation_of_user (Id n) = relation_named [] []
relation_of_user (Set g) = relation_named g.namespace g.relation

abbrev pub mark_of_set : TupleValue → ℕ
mark_of_set t = relation_mark t.set.namespace t.set.relation

abbrev pub mark_of_user : TupleValue → ℕ
mark_of_user t = set_mark (relation_of_user t.user)

abbrev pub mark_of_pair : TupleValue → ℕ
mark_of_pair t = pair_mark t.set (relation_of_user t.user).namespace

-- the tuple is of this relation, and its user a userset of that namespace
abbrev pub is_from : User → List ℕ → Bool
is_from (Id n) q = false
is_from (Set g) q = bytes_eq g.namespace q

abbrev pub is_pair_of : SetValue → List ℕ → TupleValue → Bool
is_pair_of s users t = bytes_eq t.set.namespace s.namespace && (bytes_eq t.set.relation s.relation && is_from t.user users)

abbrev pub IsSomeOfPair : SetValue → List ℕ → List TupleValue → Type 0
IsSomeOfPair s users ts = (t : TupleValue) × Contains ts t × (is_pair_of s users t ≡ true)

-- the kinds are those of the tuples
pub record AreKinds (kinds : Kinds) (ts : List TupleValue) : Type 0 where
  pub sets : kinds.sets ≡ map mark_of_set ts
  pub users : kinds.users ≡ map mark_of_user ts
  pub pairs : kinds.pairs ≡ map mark_of_pair ts

abbrev pub tupleset_mark : Through → ℕ
tupleset_mark e = relation_mark e.names.namespace e.names.relation

abbrev pub computed_mark : Through → ℕ
computed_mark e = relation_mark [] e.names.id

pub record AreMarked (reads : Reads) : Type 0 where
  pub tuplesets : reads.tuplesets ≡ map tupleset_mark reads.through.items
  pub computed : reads.computed ≡ map computed_mark reads.through.items

-- ---- what is read

-- the relations that read their own tuples, plainly or under a subtracted side
abbrev pub own : Bool → Reads → List ℕ
own true reads = reads.strict
own false reads = reads.plain

-- what a stratum that a relation of stratum r reads is below
abbrev pub ceiling : ℕ → Bool → ℕ
ceiling r true = r
ceiling r false = r + 1

abbrev pub IsReadThrough : List Through → SetValue → ℕ → Type 0
IsReadThrough es names k = (e : Through) × Contains es e × (e.names ≡ names) × (e.ceiling ≤ k)

-- a place in a rule of a relation is among what is read
abbrev pub IsRead : Reads → List ℕ → List ℕ → ℕ → Bool → Place → Type 0
IsRead reads namespace relation stratum strict at_this = Contains (own strict reads) (relation_mark namespace relation)
IsRead reads namespace relation stratum strict (at_computed q) = Unit {0}
IsRead reads namespace relation stratum strict (at_tuple_to q c) =
    IsReadThrough reads.through.items (record { namespace = namespace; id = c; relation = q }) (ceiling stratum strict)

abbrev pub AreRead : Reads → List ℕ → List ℕ → ℕ → List (Bool × Place) → Type 0
AreRead reads namespace relation stratum ps =
    (strict : Bool) (place : Place) → Contains ps (strict, place) → IsRead reads namespace relation stratum strict place

-- each place of each rule ever declared
abbrev pub HasRead : Reads → List Declaration → Type 0
HasRead reads ds =
    (d : Declaration) (x : Relation) → Contains ds d → Contains d.relations x → AreRead reads d.name x.name x.stratum (places false x.expression)

-- ---- what fits

abbrev pub is_below : Option ℕ → ℕ → Bool
is_below None k = true
is_below (Some x) k = nat_lt x k

-- no `this` reads too high by the tuple, whose relation is declared
abbrev pub FitsOwn : List Declaration → Reads → TupleValue → Type 0
FitsOwn ds reads t =
    (g : SetValue) → t.user ≡ Set g →
    (is_some (stratum_of ds t.set) ≡ true)
    × ((strict : Bool) → Contains (own strict reads) (mark_of_set t) → is_broken_between (stratum_of ds t.set) (stratum_of ds g) strict ≡ false)

-- what a `tuple_to` computes is low enough in a namespace of users
abbrev pub IsLow : List Declaration → List ℕ → Through → Type 0
IsLow ds users e = is_below (stratum_of ds (relation_named users e.names.id)) e.ceiling ≡ true

-- no `tuple_to` of these reads too high by the tuple
abbrev pub FitsThrough : List Declaration → List Through → TupleValue → Type 0
FitsThrough ds es t =
    (g : SetValue) (e : Through) → t.user ≡ Set g → Contains es e → e.names.namespace ≡ t.set.namespace → e.names.relation ≡ t.set.relation → IsLow ds g.namespace e

pub record Fits (ds : List Declaration) (reads : Reads) (t : TupleValue) : Type 0 where
  pub own : FitsOwn ds reads t
  pub through : FitsThrough ds reads.through.items t

abbrev pub AllFit : List Declaration → Reads → List TupleValue → Type 0
AllFit ds reads ts = (t : TupleValue) → Contains ts t → Fits ds reads t

-- where a tuple of the pair was added, it is low enough
abbrev pub IsLowWhereStored : List Declaration → Kinds → List ℕ → Through → Type 0
IsLowWhereStored ds kinds users e = Contains kinds.pairs (pair_mark e.names users) → IsLow ds users e

pub record IsScope (ds : List Declaration) (kinds : Kinds) (ts : List TupleValue) : Type 0 where
  pub well_formed : IsWellFormed ds
  pub of_tuples : AreKinds kinds ts

-- the relation r of the namespace q reads no tuple too high, nor is it read too high through a tupleset
pub record IsFitting (ds : List Declaration) (reads : Reads) (kinds : Kinds) (ts : List TupleValue) (q r : List ℕ) : Type 0 where
  pub own : (t : TupleValue) → Contains ts t → relation_of_user t.user ≡ relation_named q r → FitsOwn ds reads t
  pub through : (e : Through) → Contains reads.through.items e → e.names.id ≡ r → IsLowWhereStored ds kinds q e

-- more is read: nothing of what was is lost, and each tuple fits that did
pub record IsGrown (ds : List Declaration) (ts : List TupleValue) (old new : Reads) : Type 0 where
  pub own_kept : (strict : Bool) (m : ℕ) → Contains (own strict old) m → Contains (own strict new) m
  pub through_kept : (e : Through) → Contains old.through.items e → Contains new.through.items e
  pub marked : AreMarked old → AreMarked new
  pub fit : AllFit ds old ts → AllFit ds new ts

-- and these places in a rule of a relation are read
pub record IsWider (ds : List Declaration) (ts : List TupleValue) (namespace relation : List ℕ) (stratum : ℕ) (ps : List (Bool × Place)) (old new : Reads) : Type 0 where
  pub grown : IsGrown ds ts old new
  pub read : AreRead new namespace relation stratum ps

-- and those of the last rule of a relation, if there is one
pub record HasTaken (ds : List Declaration) (ts : List TupleValue) (namespace : List ℕ) (number : RelNo) (old new : Reads) : Type 0 where
  pub grown : IsGrown ds ts old new
  pub read : (x : Relation) → relation_numbered number ds ≡ Some x → AreRead new namespace x.name x.stratum (places false x.expression)

abbrev pub relation_number : ℕ → ℕ → RelNo
relation_number n r = record { namespace = n; relation = r }

-- and those of the last rules of a namespace
pub record HasTakenAll (ds : List Declaration) (ts : List TupleValue) (namespace : List ℕ) (n : ℕ) (old new : Reads) : Type 0 where
  pub grown : IsGrown ds ts old new
  pub read : (r : ℕ) (x : Relation) → relation_numbered (relation_number n r) ds ≡ Some x → AreRead new namespace x.name x.stratum (places false x.expression)

-- ---- the same, of the rules and the tuples at hand

abbrev pub IsSound : Scope → Type 0
IsSound scope = IsScope scope.rules.now scope.kinds.now scope.tuples.now

abbrev pub IsLowAt : Scope → List ℕ → Through → Type 0
IsLowAt scope users e = IsLowWhereStored scope.rules.now scope.kinds.now users e

abbrev pub IsFittingAt : Scope → Reads → List ℕ → List ℕ → Type 0
IsFittingAt scope reads q r = IsFitting scope.rules.now reads scope.kinds.now scope.tuples.now q r

abbrev pub Widens : Scope → Reader → List (Bool × Place) → Reads → Reads → Type 0
Widens scope reader ps old new = IsWider scope.rules.now scope.tuples.now reader.namespace.now reader.relation.now reader.stratum ps old new

abbrev pub TakesAt : Scope → List ℕ → RelNo → Reads → Reads → Type 0
TakesAt scope namespace number old new = HasTaken scope.rules.now scope.tuples.now namespace number old new

abbrev pub TakesAllAt : Scope → List ℕ → ℕ → Reads → Reads → Type 0
TakesAllAt scope namespace n old new = HasTakenAll scope.rules.now scope.tuples.now namespace n old new

-- P holds of each item with a mark
abbrev pub EachMarked : {X : Type 0} → List ℕ → ℕ → List X → (X → Type 0) → Type 0
EachMarked {X} marks mark xs P = (i : ℕ) (x : X) → slice_get marks i ≡ Some mark → slice_get xs i ≡ Some x → P x
