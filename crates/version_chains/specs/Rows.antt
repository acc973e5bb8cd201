-- What is kept of tuples, whose texts stand one behind the other. No public clause cites this module.
use Rattle.std.specs.Prelude.{◌≡◌, ℕ, List, Option, None, Some, IfSome, slice_get}
use Rattle.tuple_text.specs.Refs.{set_value, user_value}
use Rattle.tuple_text.specs.Tuples.{TupleValue, tuple_of}
use Rattle.tuple_text.specs.declared.users.User.{User}
use Rattle.tuple_text.specs.declared.users.User.TheVariants.{Id, Set}
use Rattle.marks.specs.Marks.{user_mark}
use Rattle.version_chains.specs.Texts.{IsSpan, set_in}
use Rattle.version_chains.specs.declared.row.Row.{Row}
use Rattle.version_chains.specs.declared.row.RowRef.{RowRef}
use Rattle.version_chains.specs.declared.texts.Span.{Span}

-- a tuple, and the place of its newest touch
pub record Kept : Type 0 where
  pub tuple : TupleValue
  pub latest : ℕ

-- the user: a userset in the text, or else the id that is its own mark
abbrev pub user_in : List ℕ → Option Span → ℕ → User
user_in text None mark = Id mark
user_in text (Some p) mark = Set (set_in text p)

abbrev pub kept_in : List ℕ → Row → Kept
kept_in text r = record { tuple = tuple_of (set_in text r.set) (user_in text r.user r.user_mark); latest = r.latest }

-- as it is read
abbrev pub row_value : RowRef → Kept
row_value r = record { tuple = tuple_of (set_value r.set) (user_value r.user.user); latest = r.latest }

-- the parts of the row are texts, and its user has its mark
pub record IsRow (text : List ℕ) (r : Row) : Type 0 where
  pub set : IsSpan text r.set
  pub user : IfSome r.user (IsSpan text)
  pub mark : r.user_mark ≡ user_mark (user_in text r.user r.user_mark)

abbrev pub AreRows : List ℕ → List Row → Type 0
AreRows text rows = (i : ℕ) (r : Row) → slice_get rows i ≡ Some r → IsRow text r
