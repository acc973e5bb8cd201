-- What is found on an entry, by the commits next to it.
use Rattle.std.proofs.Common.{◌≡◌, ℕ, ◌+◌, ◌<◌, ◌≤◌, true, false, ltb, leb, List, length, map, get_or, Some, None, arith, refl, sym, ap, subst, ◌∙◌, inl, inr}
use Rattle.std.specs.Prelude.{Option, slice_get}
use Rattle.std.specs.List.{list_any}
use Rattle.std.specs.List.Sorted.{IsStrictlyIncreasing}
use Rattle.std.proofs.lemmas.Bool.{cases_Bool}
use Rattle.std.proofs.lemmas.List.{length-map}
use Rattle.std.proofs.lemmas.Option.{get_or_from_slice_get, same_Some}
use Rattle.version_chains.specs.Commits.{Commit}
use Rattle.trace_lines.specs.Values.{EntryValue, TraceValue}
use Rattle.token_order.specs.Order.{CommitLine}
use Rattle.token_order.specs.Standing.{StandsAmong}
use Rattle.token_order.specs.Found.{is_content, earlier_commits, later_commits, not_latest, open_snapshot}
use Rattle.token_order.proofs.Neighbours.{earlier_are, later_are, last_above, none_above, first_covered, none_covered, none_behind}

-- what is said of an entry is said of the one that stands there
pub told_of : (says : EntryValue → Option ℕ) {answer : Option ℕ} {asked : Option EntryValue} {x e : EntryValue} → asked ≡ Some x → asked ≡ Some e → answer ≡ says x → answer ≡ says e
told_of says {answer = answer} {x = x} {e = e} there at told = subst (λ (e : EntryValue). answer ≡ says e) (same_Some x e (sym there ∙ at)) told

module _ {t : TraceValue} {e : EntryValue} {times : List ℕ} (among : StandsAmong t e times) where
  rises : IsStrictlyIncreasing (map (λ (c : Commit). c.at) t.commits)
  rises = rw (← among.are) among.rising

  none_late : list_any (λ (c : CommitLine). ltb e.snapshot c.at) (earlier_commits t e) ≡ false → None ≡ not_latest t e
  none_late none = elim (cases_Bool (is_content e.kind)) [
    | inl content ↦ rw (content, none) refl
    | inr check ↦ rw check refl
  ]

  -- no commit stands before the entry
  pub first_of_all : e.before ≡ 0 → None ≡ not_latest t e
  first_of_all zero = none_late (rw (earlier_are t.commit_lines t.commits e.before e.line among.counted rises among.within among.earlier among.later, zero) refl)

  pub latest : (last : ℕ) → e.before ≡ last + 1 → get_or times last 0 ≤ e.snapshot → None ≡ not_latest t e
  latest last is le =
      none_late (rw (earlier_are t.commit_lines t.commits e.before e.line among.counted rises among.within among.earlier among.later)
      (none_above t.commit_lines t.commits e.before e.line among.counted rises among.within among.earlier among.later e.snapshot last is (rw (← among.are) le)))

  pub late : (last line : ℕ) → is_content e.kind ≡ true → e.before ≡ last + 1 → e.snapshot < get_or times last 0 → slice_get t.commit_lines last ≡ Some line → Some line ≡ not_latest t e
  late last line content is lt at =
      let found = last_above t.commit_lines t.commits e.before e.line among.counted rises among.within among.earlier among.later e.snapshot last is (rw (← among.are) lt) in
      let here : get_or t.commit_lines last 0 ≡ line = get_or_from_slice_get t.commit_lines last line 0 at in
      sym (rw (content, earlier_are t.commit_lines t.commits e.before e.line among.counted rises among.within among.earlier among.later, found.0) (found.1 ∙ ap (λ (n : ℕ). Some n) here))

  none_open : list_any (λ (c : CommitLine). leb c.at e.snapshot) (later_commits t e) ≡ false → None ≡ open_snapshot t e
  none_open none = rw none refl

  -- no commit stands behind the entry
  pub last_of_all : length times ≤ e.before → None ≡ open_snapshot t e
  last_of_all le =
      none_open (rw (later_are t.commit_lines t.commits e.before e.line among.counted rises among.within among.earlier among.later)
      (none_behind t.commit_lines t.commits e.before e.line among.counted rises among.within among.earlier among.later e.snapshot (let l = length-map t.commits (λ (c : Commit). c.at) in let m = ap length among.are in omega (arith, l, m, le))))

  pub closed : e.snapshot < get_or times e.before 0 → None ≡ open_snapshot t e
  closed lt =
      none_open (rw (later_are t.commit_lines t.commits e.before e.line among.counted rises among.within among.earlier among.later)
      (none_covered t.commit_lines t.commits e.before e.line among.counted rises among.within among.earlier among.later e.snapshot (rw (← among.are) lt)))

  pub still_open : (line : ℕ) → e.before < length times → get_or times e.before 0 ≤ e.snapshot → slice_get t.commit_lines e.before ≡ Some line → Some line ≡ open_snapshot t e
  still_open line lt le at =
      let l = length-map t.commits (λ (c : Commit). c.at) in
      let m = ap length among.are in
      let found = first_covered t.commit_lines t.commits e.before e.line among.counted rises among.within among.earlier among.later e.snapshot (omega (arith, l, m, lt)) (rw (← among.are) le) in
      let here : get_or t.commit_lines e.before 0 ≡ line = get_or_from_slice_get t.commit_lines e.before line 0 at in
      sym (rw (later_are t.commit_lines t.commits e.before e.line among.counted rises among.within among.earlier among.later, found.0) (found.1 ∙ ap (λ (n : ℕ). Some n) here))
