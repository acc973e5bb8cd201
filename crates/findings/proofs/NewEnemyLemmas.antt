-- What a check has seen of the changes before its content check.
use Rattle.std.proofs.Common.{◌≡◌, ℕ, zero, suc, ◌<◌, ◌≤◌, Bool, true, false, cond, leb, ◌||◌, List, [], ◌∷◌, ◌++◌, Option, Some, arith, refl, sym, ap, ◌∙◌, subst}
use Rattle.std.specs.Prelude.{slice_get, Contains, IfSome}
use Rattle.std.specs.List.{list_any}
use Rattle.std.proofs.lemmas.Bool.{true≢false, le-leb, leb-true, or_parts}
use Rattle.std.proofs.lemmas.List.Elements.{filter-append}
use Rattle.std.proofs.lemmas.Map.Views.{Contains-from_any, list_any-from_Contains}
use Rattle.std.proofs.lemmas.Option.{slice_get-get_or, slice_get_within, get_or_from_slice_get, same_Some}
use Rattle.tuple_text.specs.Tuples.{TupleValue}
use Rattle.tuple_text.specs.Order.{tuple_eq}
use Rattle.tuple_text.specs.OrderLaws.{tuple_equiv}
use Rattle.tuple_text.proofs.ValueLemmas.{tuple_eq-same}
use Rattle.version_chains.specs.Commits.{Commit, Touch, touches, changelog, touches_to, until, last_live}
use Rattle.version_chains.proofs.CommitLemmas.{side}
use Rattle.version_chains.proofs.StoreLemmas.{store_at-iff}
use Rattle.trace_lines.specs.Values.{EntryValue, TraceValue}
use Rattle.trace_lines.specs.Versions.{Version, entry_version, version_named, AreIssuedOnce}
use Rattle.trace_lines.specs.declared.entry.EntryKind.{EntryKind}
use Rattle.trace_lines.specs.declared.entry.EntryKind.TheVariants.{Check, Content}
use Rattle.token_order.specs.Order.{CommitLine, on_lines, commit_lines_of, CoversVersion, IsFresh, IsInOrder}
use Rattle.findings.specs.NewEnemy.{IsCheckOf, IsBeforeContent, HasSeen, HasNoNewEnemy}

-- ---- the last touch of a tuple

last_of_two : (b : Bool) (xs ys : List Touch) → last_live b (xs ++ ys) ≡ last_live (last_live b xs) ys
last_of_two b [] ys = refl
last_of_two b (x ∷ xs) ys = last_of_two x.live xs ys

module _ (x : TupleValue) (s : ℕ) where
  -- the touches of the tuple up to the timestamp
  abbrev its : List Touch → List Touch
  its xs = touches_to x (until s xs)

  its_of_two : (xs ys : List Touch) → its (xs ++ ys) ≡ its xs ++ its ys
  its_of_two xs ys =
      ap (touches_to x) (filter-append (λ (y : Touch). leb y.at s) xs ys)
      ∙ filter-append (λ (y : Touch). tuple_eq y.tuple x) (until s xs) (until s ys)

  abbrev touch_at : ℕ → Bool → TupleValue → Touch
  touch_at at b t = record { at = at; live = b; tuple = t }

  -- touches that all add, or all remove, leave what they say
  kept_by : (at : ℕ) (b : Bool) (ts : List TupleValue) → last_live b (its (side at b ts)) ≡ b
  kept_by at b [] = refl
  kept_by at b (t ∷ ts) = by_time (leb at s) (kept_by at b ts)
    where
      by_tuple : (q : Bool) → last_live b (its (side at b ts)) ≡ b
          → last_live b (cond q (touch_at at b t ∷ its (side at b ts)) (its (side at b ts))) ≡ b
      by_tuple true h = h
      by_tuple false h = h

      by_time : (p : Bool) → last_live b (its (side at b ts)) ≡ b
          → last_live b (touches_to x (cond p (touch_at at b t ∷ until s (side at b ts)) (until s (side at b ts)))) ≡ b
      by_time true h = by_tuple (tuple_eq t x) h
      by_time false h = h

  -- one of them touches the tuple in time, so they decide
  decided_by : (at : ℕ) (b a : Bool) (ts : List TupleValue) → at ≤ s → list_any (tuple_eq x) ts ≡ true
      → last_live a (its (side at b ts)) ≡ b
  decided_by at b a [] le has = cc
  decided_by at b a (t ∷ ts) le has = rw (le-leb at s le) (by_tuple (decided_by at b a ts le) (tuple_eq t x) refl)
    where
      by_tuple : (list_any (tuple_eq x) ts ≡ true → last_live a (its (side at b ts)) ≡ b) → (q : Bool)
          → tuple_eq t x ≡ q
          → last_live a (cond q (touch_at at b t ∷ its (side at b ts)) (its (side at b ts))) ≡ b
      by_tuple further true is = kept_by at b ts
      by_tuple further false is =
          let other : tuple_eq x t ≡ false = tuple_equiv.symm x t ∙ is in
          further (sym (ap (λ (c : Bool). c || list_any (tuple_eq x) ts) other) ∙ has)

  -- none of them touches the tuple
  untouched : (at : ℕ) (b a : Bool) (ts : List TupleValue) → list_any (tuple_eq x) ts ≡ false
      → last_live a (its (side at b ts)) ≡ a
  untouched at b a [] none = refl
  untouched at b a (t ∷ ts) none =
      let parts = or_parts (tuple_eq x t) (list_any (tuple_eq x) ts) none in
      by_time (tuple_equiv.symm t x ∙ parts.0) (untouched at b a ts parts.1) (leb at s)
    where
      by_time : tuple_eq t x ≡ false → last_live a (its (side at b ts)) ≡ a
          → (p : Bool)
          → last_live a (touches_to x (cond p (touch_at at b t ∷ until s (side at b ts)) (until s (side at b ts))))
          ≡ a
      by_time other rest true = rw other rest
      by_time other rest false = rest

  too_late : (at : ℕ) (b : Bool) (ts : List TupleValue) → leb at s ≡ false → until s (side at b ts) ≡ []
  too_late at b [] late = refl
  too_late at b (t ∷ ts) late = rw late (too_late at b ts late)

  -- the tuples that a commit would touch against b
  abbrev against : Bool → Commit → List TupleValue
  against true c = c.removes
  against false c = c.adds

  abbrev Leaves : Bool → Commit → Type 0
  Leaves b c = c.at ≤ s → ¬ Contains (against b c) x

  not_any : (ts : List TupleValue) → ¬ Contains ts x → list_any (tuple_eq x) ts ≡ false
  not_any ts none = by_test (list_any (tuple_eq x) ts) refl
    where
      by_test : (b : Bool) → list_any (tuple_eq x) ts ≡ b → b ≡ false
      by_test true is = absurd (none (Contains-from_any tuple_eq-same x ts is))
      by_test false is = refl

  of_commit : (a : Bool) (c : Commit)
      → last_live a (its (touches c)) ≡ last_live (last_live a (its (side c.at true c.adds))) (its (side c.at false
      c.removes))
  of_commit a c =
      ap (last_live a) (its_of_two (side c.at true c.adds) (side c.at false c.removes))
      ∙ last_of_two a (its (side c.at true c.adds)) (its (side c.at false c.removes))

  commit_leaves : (b : Bool) (c : Commit) → Leaves b c → last_live b (its (touches c)) ≡ b
  commit_leaves b c leaves = of_commit b c ∙ by_time b (leb c.at s) refl leaves
    where
      by_time : (b p : Bool) → leb c.at s ≡ p → Leaves b c
          → last_live (last_live b (its (side c.at true c.adds))) (its (side c.at false c.removes)) ≡ b
      by_time b false late leaves = rw (too_late c.at true c.adds late, too_late c.at false c.removes late) refl
      by_time true true le leaves =
          rw (kept_by c.at true c.adds) (untouched c.at false true c.removes (not_any c.removes (leaves (leb-true c.at
          s le))))
      by_time false true le leaves =
          rw (untouched c.at true false c.adds (not_any c.adds (leaves (leb-true c.at s le)))) (kept_by c.at false
          c.removes)

  of_changes : (a : Bool) (c : Commit) (cs : List Commit)
      → last_live a (its (changelog (c ∷ cs))) ≡ last_live (last_live a (its (touches c))) (its (changelog cs))
  of_changes a c cs = ap (last_live a) (its_of_two (touches c) (changelog cs))
      ∙ last_of_two a (its (touches c)) (its (changelog cs))

  all_leave : (b : Bool) (cs : List Commit) → ((m : ℕ) (c : Commit) → slice_get cs m ≡ Some c → Leaves b c)
      → last_live b (its (changelog cs)) ≡ b
  all_leave b [] leave = refl
  all_leave b (c ∷ cs) leave =
      of_changes b c cs
      ∙ ap (λ (a : Bool). last_live a (its (changelog cs))) (commit_leaves b c (leave 0 c refl))
      ∙ all_leave b cs (λ m d at. leave (suc m) d at)

  -- what a commit makes of the tuple, where none behind it touches it otherwise, is what stays
  stays : (b : Bool) (cs : List Commit) (k : ℕ) (c : Commit) (a : Bool) → slice_get cs k ≡ Some c
      → ((a : Bool) → last_live a (its (touches c)) ≡ b)
      → ((m : ℕ) (d : Commit) → k < m → slice_get cs m ≡ Some d → Leaves b d) → last_live a (its (changelog cs)) ≡ b
  stays b [] k c a at makes leave = cc
  stays b (d ∷ ds) zero c a at makes leave =
      let same : d ≡ c = same_Some d c at in
      of_changes a d ds
      ∙ ap (λ (e : Bool). last_live e (its (changelog ds))) (ap (λ (e : Commit). last_live a (its (touches e))) same
      ∙ makes a)
      ∙ all_leave b ds (λ m e there. leave (suc m) e (omega arith) there)
  stays b (d ∷ ds) (suc k) c a at makes leave =
      of_changes a d ds
      ∙ stays b ds k c (last_live a (its (touches d))) at makes (λ m e lt there. leave (suc m) e (omega (arith, lt))
      there)

  removes_it : (c : Commit) → c.at ≤ s → Contains c.removes x → (a : Bool) → last_live a (its (touches c)) ≡ false
  removes_it c le has a =
      of_commit a c
      ∙ decided_by c.at false (last_live a (its (side c.at true c.adds))) c.removes le (list_any-from_Contains
      tuple_equiv x c.removes has)

  adds_it : (c : Commit) → c.at ≤ s → Contains c.adds x → ¬ Contains c.removes x → (a : Bool)
      → last_live a (its (touches c)) ≡ true
  adds_it c le has not a =
      of_commit a c
      ∙ ap (λ (e : Bool). last_live e (its (side c.at false c.removes))) (decided_by c.at true a c.adds le
      (list_any-from_Contains tuple_equiv x c.adds has))
      ∙ untouched c.at false true c.removes (not_any c.removes not)

-- ---- a check is as new as the commits before its content check

named_by_check : (k : EntryKind) (o : Option Version) (v : Version) → version_named k o ≡ Some v → k ≡ Check
named_by_check Check o v h = refl
named_by_check Content o v h = cc

placed_at : (lines : List ℕ) (commits : List Commit) (k line : ℕ) (c : Commit) → slice_get lines k ≡ Some line
    → slice_get commits k ≡ Some c
    → slice_get (on_lines lines commits) k ≡ Some (record { line = line; at = c.at })
placed_at [] cs k line c at there = cc
placed_at (l ∷ ls) [] k line c at there = cc
placed_at (l ∷ ls) (d ∷ ds) zero line c at there =
    let lines : l ≡ line = same_Some l line at in
    let commits : d ≡ c = same_Some d c there in
    rw (lines, commits) refl
placed_at (l ∷ ls) (d ∷ ds) (suc k) line c at there = placed_at ls ds k line c at there

there_of : {X : Type 0} (xs : List X) (x : X) (h : Contains xs x) → slice_get xs h.0 ≡ Some x
there_of xs x h = slice_get-get_or xs h.0 x h.1 ∙ ap Some h.2

module _ (t : TraceValue) (once : AreIssuedOnce t.entries) (e c : EntryValue) (is : IsCheckOf t e c) (fresh : IsFresh t e) where
  covers : CoversVersion t e is.version
  covers = subst (λ (o : Option Version). IfSome o (CoversVersion t e)) is.named fresh.covers_version

  -- the version has one content check
  same : covers.content ≡ c
  same =
      let first = there_of t.entries covers.content covers.recorded in
      let second = there_of t.entries c is.recorded in
      let place = once is.version covers.recorded.0 is.recorded.0 covers.content c first second covers.issued is.issued
      in
      same_Some covers.content c (sym first ∙ ap (slice_get t.entries) place ∙ second)

  in_time : (k : ℕ) (commit : Commit) → IsBeforeContent t k commit c → commit.at ≤ e.snapshot
  in_time k commit before =
      let at = placed_at t.commit_lines t.commits k before.line commit before.placed before.there in
      let lt = slice_get_within (commit_lines_of t) k _ at in
      let item = get_or_from_slice_get (commit_lines_of t) k _ (record { line = before.line; at = commit.at }) at in
      let earlier : before.line < covers.content.line = subst (λ (y : EntryValue). before.line < y.line) (sym same)
      before.before in
      subst (λ (y : CommitLine). y.line < covers.content.line
      → y.at ≤ e.snapshot) item (covers.covered k (record { line = before.line; at = commit.at }) lt) earlier

  -- a fresh check has seen each change before its content check
  pub seen : HasSeen t e c
  seen = record {
    removed = λ k commit before x has later stored.
        let gone = stays x e.snapshot false t.commits k commit false before.there
        (removes_it x e.snapshot commit (in_time k commit before) has) (λ m d lt at le. later m d lt at le) in
        true≢false (sym ((store_at-iff t.commits e.snapshot x).0 stored) ∙ gone);
    added = λ k commit before x has later.
        let le = in_time k commit before in
        (store_at-iff t.commits e.snapshot x).1 (stays x e.snapshot true t.commits k commit false before.there
        (adds_it x e.snapshot commit le has (later k commit (omega arith) before.there le)) (λ m d lt at le. later m d
        (omega (arith, lt)) at le));
  }

pub is_check : (t : TraceValue) (e c : EntryValue) → IsCheckOf t e c → e.kind ≡ Check
is_check t e c is = named_by_check e.kind (entry_version e) is.version is.named

pub new_enemy : (t : TraceValue) → AreIssuedOnce t.entries → IsInOrder t → HasNoNewEnemy t
new_enemy t once order e c is =
    let at = is.checked in
    let fresh = subst (λ (y : EntryValue). y.kind ≡ Check → IsFresh t y) at.2 (order.fresh at.0 e at.1) (is_check t e c is) in
    seen t once e c is fresh
