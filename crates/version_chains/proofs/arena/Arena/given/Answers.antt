use Rattle.std.proofs.Common.{◌≡◌, ℕ, Bool, true, false, ◌&&◌, List, None, Some, refl, sym, ◌∙◌, ap}
use Rattle.std.specs.Prelude.{slice_get}
use Rattle.std.specs.Bool.{beq}
use Rattle.tuple_text.specs.Refs.{set_value}
use Rattle.tuple_text.specs.Sets.{set_eq}
use Rattle.tuple_text.specs.Tuples.{TupleValue}
use Rattle.tuple_text.specs.declared.users.User.{User}
use Rattle.version_chains.specs.Arena.{Held, tuples_of}
use Rattle.version_chains.specs.Given.{is_stored_by}
use Rattle.marks.specs.Marks.{is_userset}
use Rattle.version_chains.specs.Rows.{Kept, row_value}
use Rattle.version_chains.proofs.RowLemmas.{row-kept}
use Rattle.version_chains.proofs.arena.Arena.given.Goals as goal
use Rattle.version_chains.proofs.arena.Arena.given.Goals.{else-is_of_set-via-then-is_of_set+then-is_userset-usersets+else-is_live, else-is_of_set-via-then-is_of_set+else-is_userset-usersets, else-is_of_set-via-else-is_of_set}

row_of : (rows : List Kept) (tuples : List TupleValue) (i : ℕ) (row : Kept) (t : TupleValue) → tuples_of rows ≡ tuples
    → Some row ≡ slice_get rows i → slice_get tuples i ≡ Some t → row.tuple ≡ t
row_of rows tuples i row t shown at is =
    let kept = row-kept rows i t (rw shown is) in
    let same : Some row ≡ Some kept.0 = at ∙ kept.1 in
    let whole : row ≡ kept.0 = cc in
    ap (λ (r : Kept). r.tuple) whole ∙ kept.2

no_row : (rows : List Kept) (tuples : List TupleValue) (i : ℕ) (t : TupleValue) → tuples_of rows ≡ tuples
    → None ≡ slice_get rows i → slice_get tuples i ≡ Some t → ⊥
no_row rows tuples i t shown none is =
    let kept = row-kept rows i t (rw shown is) in
    let never : None ≡ Some kept.0 = none ∙ kept.1 in
    absurd cc

all_true : (a b c : Bool) → a ≡ true → b ≡ true → c ≡ true → (a && (b && c)) ≡ true
all_true a b c h i j = rw (h, i) j

first_false : (a b c : Bool) → a ≡ false → (a && (b && c)) ≡ false
first_false a b c h = rw h refl

second_false : (a b c : Bool) → b ≡ false → (a && (b && c)) ≡ false
second_false true b c h = rw h refl
second_false false b c h = refl

third_false : (a b c : Bool) → c ≡ false → (a && (b && c)) ≡ false
third_false true true c h = h
third_false true false c h = refl
third_false false b c h = refl

same_kind : (usersets : Bool) (t : TupleValue) (u : User) → u ≡ t.user → (b r : Bool) → r ≡ is_userset u → beq r usersets ≡ b → beq (is_userset t.user) usersets ≡ b
same_kind usersets t u user b r is test =
    ap (λ (x : User). beq (is_userset x) usersets) (sym user) ∙ ap (λ (x : Bool). beq x usersets) (sym is) ∙ test

pub returns-in_err-row : goal.returns-in_err-row
returns-in_err-row c =
    λ t is. absurd (no_row c.self.inside.rows c.args.self.now.tuples c.args.number t
    (ap (λ (h : Held). h.tuples) c.self.view_is) c.in_err-row.ensures is)

pub returns-then-is_live : goal.returns-then-is_live
returns-then-is_live c = λ t is.
    let same = row_of c.self.inside.rows c.args.self.now.tuples c.args.number (row_value c.in_ok-row.row) t
    (ap (λ (h : Held). h.tuples) c.self.view_is) c.in_ok-row.ensures is in
    let user = ap (λ (x : TupleValue). x.user) same in (
      all_true _ _ _ (sym (c.is_of_set.ensures t is) ∙ c.if-is_of_set.true)
          (same_kind c.args.usersets t _ user true _ c.is_userset.ensures
          c.if-is_userset-usersets.true)
          (sym (c.is_live.ensures t is) ∙ c.if-is_live.true),
      user,
    )

pub returns-else-is_of_set : goal.returns-else-is_of_set
returns-else-is_of_set c = λ t is.
    let same = row_of c.self.inside.rows c.args.self.now.tuples c.args.number (row_value c.in_ok-row.row) t
    (ap (λ (h : Held). h.tuples) c.self.view_is) c.in_ok-row.ensures is in
    let user = ap (λ (x : TupleValue). x.user) same in
    elim c.else-is_of_set.branch [
      | else-is_of_set-via-then-is_of_set+then-is_userset-usersets+else-is_live w ↦ third_false (set_eq t.set (set_value c.args.set))
          (beq (is_userset t.user) c.args.usersets) _ (sym (w.is_live.ensures t is) ∙ w.if-is_live.false)
      | else-is_of_set-via-then-is_of_set+else-is_userset-usersets w ↦ second_false (set_eq t.set (set_value c.args.set))
          (beq (is_userset t.user) c.args.usersets) (is_stored_by c.args.self.now.touches c.args.at t)
          (same_kind c.args.usersets t _ user false _ w.is_userset.ensures
          w.if-is_userset-usersets.false)
      | else-is_of_set-via-else-is_of_set w ↦ first_false (set_eq t.set (set_value c.args.set))
          (beq (is_userset t.user) c.args.usersets) (is_stored_by c.args.self.now.touches c.args.at t)
          (sym (c.is_of_set.ensures t is) ∙ w.if-is_of_set.false)
    ]
