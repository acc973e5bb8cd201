-- The users that the arena gives, and the commits that its touches make. No public clause cites this module.
use Rattle.std.specs.Prelude.{◌≡◌, ℕ, Bool, false, List, [], ◌∷◌, ◌++◌, None, map, filter, length, ◌&&◌, ◌<◌, ◌≤◌, not, nat_eq, nat_le, suc, slice_get, Some, Option, MatchOption, true}
use Rattle.std.specs.Bool.{beq}
use Rattle.std.specs.List.{AllByRecursion}
use Rattle.std.specs.List.Sorted.{IsStrictlyIncreasing}
use Rattle.tuple_text.specs.Sets.{SetValue, set_eq}
use Rattle.tuple_text.specs.Tuples.{TupleValue}
use Rattle.tuple_text.specs.Order.{tuple_eq}
use Rattle.tuple_text.specs.Refs.{user_value}
use Rattle.tuple_text.specs.declared.users.User.{User}
use Rattle.tuple_text.specs.declared.users.User.TheVariants.{Id, Set}
use Rattle.version_chains.specs.Appends.{first_repeat}
use Rattle.version_chains.specs.Arena.{Held, IsNumber}
use Rattle.version_chains.specs.Commits.{Commit, Touch, changelog, touches_to, until, last_live}
use Rattle.marks.specs.Placed.{last_place, newest_first, IsLinkedPlace, IsWalk}
use Rattle.marks.specs.Marks.{set_mark, kind_mark, held_mark, is_userset}
use Rattle.marks.specs.declared.tuples.MarkedUser.{MarkedUser}
use Rattle.version_chains.specs.declared.node.Node.{Node}

-- the place of the newest touch of a tuple among the first n
abbrev pub newest_of : TupleValue → List Touch → ℕ → ℕ
newest_of t touches n = last_place (λ x. tuple_eq x.tuple t) touches n

-- whether the last touch of a tuple up to a timestamp adds it
abbrev pub is_stored_by : List Touch → ℕ → TupleValue → Bool
is_stored_by touches s t = last_live false (touches_to t (until s touches))

-- no tuple with a number is this one, and no touch is of it
abbrev pub IsUnnumbered : Held → TupleValue → Type 0
IsUnnumbered h t = (i : ℕ) (u : TupleValue) → slice_get h.tuples i ≡ Some u → tuple_eq u t ≡ false

abbrev pub IsUntouched : Held → TupleValue → Type 0
IsUntouched h t = (i : ℕ) (x : Touch) → slice_get h.touches i ≡ Some x → tuple_eq x.tuple t ≡ false

-- what a look for the number of a tuple gives
pub record FindsNumber (h : Held) (t : TupleValue) (result : Option ℕ) : Type 0 where
  pub found : MatchOption result (IsUnnumbered h t) (IsNumber h.tuples t)
  pub untouched : result ≡ None → IsUntouched h t

-- each touch is one of a tuple that is there
abbrev pub AreTouchesKnown : Held → Type 0
AreTouchesKnown h = (i : ℕ) (x : Touch) → slice_get h.touches i ≡ Some x → (k : ℕ) × (slice_get h.tuples k ≡ Some x.tuple)

-- the touch at an index, whose link is to the one of the same tuple before it
abbrev pub IsTouchAt : List Touch → ℕ → Node → Type 0
IsTouchAt touches i n = (x : Touch) × (slice_get touches i ≡ Some x) × (n.at ≡ x.at) × (n.live ≡ x.live) × (n.older ≡ newest_of x.tuple touches i)

-- the user is of a kind: a userset, or else an id
abbrev pub is_of_kind : Bool → User → Bool
is_of_kind usersets u = beq (is_userset u) usersets

-- the tuple is of the userset, its user is of the kind, and it is stored
abbrev pub is_given : SetValue → Bool → ℕ → List Touch → TupleValue → Bool
is_given g usersets s touches t = set_eq t.set g && (is_of_kind usersets t.user && is_stored_by touches s t)

-- the user is given where the test says so
abbrev pub Gives : Option MarkedUser → Bool → User → Type 0
Gives result given user = MatchOption result (given ≡ false) (λ u. (given ≡ true) × (user_value u.user ≡ user))

-- the users of such tuples at the first places, the last first
abbrev pub users_before : SetValue → Bool → ℕ → Held → ℕ → List User
users_before g usersets s h place = map (λ t. t.user) (newest_first (is_given g usersets s h.touches) h.tuples place)

-- the usersets among users
abbrev pub usersets_of : List User → List SetValue
usersets_of [] = []
usersets_of (Id n ∷ us) = usersets_of us
usersets_of (Set g ∷ us) = g ∷ usersets_of us

-- each of the users is a userset
abbrev pub AreUsersets : List User → Type 0
AreUsersets us = AllByRecursion (λ u. is_userset u ≡ true) us

-- the tuple's userset and the kind of its user have this mark
abbrev pub has_mark_of : SetValue → Bool → TupleValue → Bool
has_mark_of g usersets t = nat_eq (kind_mark (set_mark g) usersets) (held_mark t)

-- the tuple's touches at the first places, the last first
abbrev pub history_before : TupleValue → Held → ℕ → List (ℕ × Bool)
history_before t h place = map (λ x. (x.at, x.live)) (newest_first (λ x. tuple_eq x.tuple t) h.touches place)

-- from the touch at an index to a place: no touch of the tuple up to the timestamp lies between
pub record LeadsBack (t : TupleValue) (s : ℕ) (touches : List Touch) (index place : ℕ) : Type 0 where
  pub nearer : place ≤ index
  pub on : IsLinkedPlace (λ x. tuple_eq x.tuple t) touches place
  pub passes_none : newest_first (λ x. tuple_eq x.tuple t && nat_le x.at s) touches (suc index) ≡ newest_first (λ x. tuple_eq x.tuple t && nat_le x.at s) touches place

-- each touch from an index on is after the timestamp
abbrev pub AreLaterFrom : ℕ → List Touch → ℕ → Type 0
AreLaterFrom s touches n = (i : ℕ) (x : Touch) → slice_get touches i ≡ Some x → n ≤ i → s < x.at

-- a walk over the touches of a tuple that looks for the last one up to the timestamp
abbrev pub IsWalkUntil : TupleValue → ℕ → List Touch → ℕ → Type 0
IsWalkUntil t s touches place = IsWalk (λ x. tuple_eq x.tuple t) (λ x. tuple_eq x.tuple t && nat_le x.at s) touches place

-- the commit of a timestamp: its touches, in order
abbrev pub commit_at : List Touch → ℕ → Commit
commit_at touches at = record {
  at = at;
  adds = map (λ x. x.tuple) (filter (λ x. nat_eq x.at at && x.live) touches);
  removes = map (λ x. x.tuple) (filter (λ x. nat_eq x.at at && not x.live) touches);
}

abbrev pub commits_of : List ℕ → List Touch → List Commit
commits_of times touches = map (commit_at touches) times

-- no commit touches a tuple twice
abbrev pub AreApart : List Commit → Type 0
AreApart commits = AllByRecursion (λ c. first_repeat (c.adds ++ c.removes) ≡ None) commits

-- the touches are those of the commits
pub record AreCommits (times : List ℕ) (touches : List Touch) (limit : ℕ) : Type 0 where
  pub rising : IsStrictlyIncreasing times
  pub logged : changelog (commits_of times touches) ≡ touches
  pub apart : AreApart (commits_of times touches)
  pub small : length touches ≤ limit
