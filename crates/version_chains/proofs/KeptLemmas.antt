-- Rows whose text goes on, one more row, and one whose newest touch is another.
use Rattle.std.proofs.Common.{◌≡◌, ◌<◌, ◌≤◌, ℕ, List, [], ◌∷◌, ◌++◌, length, map, get_or, refl, sym, ◌∙◌, ap, subst, Option, None, Some, Result, Ok, Err, inl, inr, arith}
use Rattle.std.specs.Prelude.{IfSome, OnErr, slice_get, slice_set}
use Rattle.std.proofs.lemmas.List.{length-map, map-append, map-set}
use Rattle.std.proofs.lemmas.Option.{slice_get_past}
use Rattle.tuple_text.specs.declared.users.User.TheVariants.{Set}
use Rattle.marks.specs.Marks.{user_mark}
use Rattle.version_chains.specs.Rows.{AreRows, IsRow, Kept, kept_in, user_in}
use Rattle.version_chains.specs.Texts.{GoesOn, IsSpan}
use Rattle.version_chains.specs.declared.row.Row.{Row}
use Rattle.version_chains.specs.declared.texts.Span.{Span}
use Rattle.version_chains.proofs.ArenaLemmas.{item_of}
use Rattle.marks.proofs.PlacedLemmas.{map-same_items, read_item, slice_get-cases, slice_get-set}
use Rattle.version_chains.proofs.TextLemmas.{set-kept, span-kept}

pub on_err : {T E P : Type 0} (r : Result T E) → P → OnErr r P
on_err (Ok x) p = tt
on_err (Err e) p = p

module _ (old new : List ℕ) (on : GoesOn old new) where
  pub user-kept : (u : Option Span) (mark : ℕ) → IfSome u (IsSpan old) → user_in new u mark ≡ user_in old u mark
  user-kept None mark is = refl
  user-kept (Some p) mark is = ap Set (set-kept old new on p is)

  pub spans-kept : (u : Option Span) → IfSome u (IsSpan old) → IfSome u (IsSpan new)
  spans-kept None is = is
  spans-kept (Some p) is = span-kept old new on p is

  module _ (r : Row) (is : IsRow old r) where
    user : user_in new r.user r.user_mark ≡ user_in old r.user r.user_mark
    user = user-kept r.user r.user_mark is.user

    pub row-kept_on : IsRow new r
    row-kept_on = record {
      set = span-kept old new on r.set is.set;
      user = spans-kept r.user is.user;
      mark = is.mark ∙ ap user_mark (sym user);
    }

    pub kept-same : kept_in new r ≡ kept_in old r
    kept-same = λ i. record {
      tuple = record { set = set-kept old new on r.set is.set i; user = user i };
      latest = r.latest;
    }

  pub rows-kept : (rows : List Row) → AreRows old rows → AreRows new rows
  rows-kept rows are i r at = row-kept_on r (are i r at)

  pub all-kept : (rows : List Row) → AreRows old rows → map (kept_in new) rows ≡ map (kept_in old) rows
  all-kept rows are = map-same_items (kept_in new) (kept_in old) rows (λ i r at. kept-same r (are i r at))

-- the row that was read of a slice of them
module _ (text : List ℕ) (rows slice : List Row) (number : ℕ) (same : slice ≡ rows) where
  pub row-there : (row : Row) → number < length slice → row ≡ get_or slice number row → AreRows text rows
      → IsRow text row × (Some (kept_in text row) ≡ slice_get (map (kept_in text) rows) number)
  row-there row within read are =
      let at = read_item rows slice number row same within read in
      (are number row at, sym (item_of (kept_in text) rows number row at))

  pub none-there : length slice ≤ number → None ≡ slice_get (map (kept_in text) rows) number
  none-there past =
      let count = length-map rows (kept_in text) in
      let size = ap length same in
      sym (slice_get_past (map (kept_in text) rows) number (omega (arith, past, count, size)))

-- one more row
module _ (text : List ℕ) (rows more : List Row) (row : Row) (is : more ≡ rows ++ row ∷ []) where
  pub rows-more : AreRows text rows → IsRow text row → AreRows text more
  rows-more are new i r at = elim (slice_get-cases rows row i r (subst (λ (rs : List Row). slice_get rs i ≡ Some r) is at)) [
    | inl old ↦ are i r old
    | inr last ↦ subst (IsRow text) last.1 new
  ]

  pub kept-more : map (kept_in text) more ≡ map (kept_in text) rows ++ kept_in text row ∷ []
  kept-more = ap (map (kept_in text)) is ∙ map-append (kept_in text) rows (row ∷ [])

-- a row with another place for the newest touch of its tuple
module _ (text : List ℕ) (rows : List Row) (number : ℕ) (row : Row) (latest : ℕ) (within : number < length (map (kept_in text) rows))
    (read : row ≡ get_or rows number row) where
  abbrev pub later : Row
  later = record { set = row.set; user = row.user; user_mark = row.user_mark; latest = latest }

  there : slice_get rows number ≡ Some row
  there = read_item rows rows number row refl (subst (λ (n : ℕ). number < n) (length-map rows (kept_in text)) within) read

  pub rows-later : AreRows text rows → AreRows text (slice_set rows number later)
  rows-later are i r at = elim (slice_get-set rows number i r later at) [
    | inl here ↦ let is = are number row there in subst (IsRow text) here.1 (record { set = is.set; user = is.user; mark = is.mark })
    | inr other ↦ are i r other.1
  ]

  pub kept-later : (k : Kept) → slice_get (map (kept_in text) rows) number ≡ Some k
      → map (kept_in text) (slice_set rows number later) ≡ slice_set (map (kept_in text) rows) number (record { tuple = k.tuple; latest = latest })
  kept-later k at =
      let same : Some k ≡ Some (kept_in text row) = sym at ∙ item_of (kept_in text) rows number row there in
      let is : k ≡ kept_in text row = cc in
      map-set (kept_in text) rows number later
      ∙ ap (λ (x : Kept). slice_set (map (kept_in text) rows) number (record { tuple = x.tuple; latest = latest })) (sym is)
