-- What a finding on tokens denies.
use Rattle.std.proofs.Common.{◌≡◌, ℕ, zero, suc, ◌+◌, ◌<◌, ◌≤◌, Bool, true, false, cond, ltb, leb, ◌&&◌, List, [], ◌∷◌, take, Option, Some, None, arith, refl, sym, ap, ◌∙◌, inl, inr}
use Rattle.std.specs.Prelude.{IfSome, IsSomeAnd, IsTrue, Contains, filter, not, slice_get, is_some, is_none, option_and_then}
use Rattle.std.specs.List.{list_any, AllByRecursion, position_from}
use Rattle.std.specs.List.Sorted.{IsStrictlyIncreasing}
use Rattle.std.proofs.lemmas.Bool.{and_parts, true≢false, ltb-true, le-ltb, lt-leb, cases_lt}
use Rattle.std.proofs.lemmas.List.Elements.{recursion_from_All}
use Rattle.std.proofs.lemmas.Option.{slice_get-get_or, slice_get_within, get_or_from_slice_get}
use Rattle.zookie.specs.Tokens.{Token}
use Rattle.trace_lines.specs.Values.{EntryValue, TraceValue, entry_lines}
use Rattle.trace_lines.specs.Versions.{Version, entry_version, version_named, issues, content_of}
use Rattle.trace_lines.specs.declared.entry.EntryKind.{EntryKind}
use Rattle.trace_lines.specs.declared.entry.EntryKind.TheVariants.{Check, Content}
use Rattle.trace_lines.proofs.IssuedVersions.{Means, named_content-means}
use Rattle.token_order.specs.Order.{CommitLine, commit_lines_of, IsLatest, IsClosed}
use Rattle.token_order.specs.Denied.{IsContentOf, AreDenied}
use Rattle.token_order.specs.Found.{is_check, is_content, is_above, is_short_of, line_if_short, old_token, earlier_commits, later_commits, first_line, last_line, is_unknown_version, order_of}
use Rattle.token_order.proofs.Lines.{line_before}

-- where all that one test passes fail another, none passes both
none_kept : {X : Type 0} (p q : X → Bool) (xs : List X) → AllByRecursion (λ x. p x ≡ true → q x ≡ false) xs → list_any q (filter p xs) ≡ false
none_kept p q [] h = refl
none_kept p q (x ∷ xs) h = by_test (none_kept p q xs h.1) (p x) refl
  where
    by_test : list_any q (filter p xs) ≡ false → (b : Bool) → p x ≡ b → list_any q (cond b (x ∷ filter p xs) (filter p xs)) ≡ false
    by_test rest true is = rw (h.0 is) rest
    by_test rest false is = rest

told_if : (b : Bool) (o : Option ℕ) (line : ℕ) → cond b o None ≡ Some line → b ≡ true
told_if true o line h = refl
told_if false o line h = cc

check_of : (k : EntryKind) → is_check k ≡ true → k ≡ Check
check_of Check h = refl
check_of Content h = cc

content_kind_of : (k : EntryKind) → is_content k ≡ true → k ≡ Content
content_kind_of Check h = cc
content_kind_of Content h = refl

beyond : (z : Option Token) (s : ℕ) → is_above z s ≡ true → ¬ IfSome z (λ z. z.at ≤ s)
beyond None s h reached = absurd (true≢false (sym h))
beyond (Some z) s h reached = let above = ltb-true s z.at h in absurd (omega (arith, above, reached))

short_of : (z : Option Token) (s : ℕ) → is_short_of z s ≡ true → ¬ IsSomeAnd z (λ z. s ≤ z.at)
short_of None s h reached = reached
short_of (Some z) s h reached = let below = ltb-true z.at s h in absurd (omega (arith, below, reached))

line_told : (z : Option Token) (c : EntryValue) (line : ℕ) → line_if_short z c ≡ Some line → (c.line ≡ line) × (is_short_of z c.snapshot ≡ true)
line_told z c line h = by_test (is_short_of z c.snapshot) refl h
  where
    by_test : (b : Bool) → is_short_of z c.snapshot ≡ b → cond b (Some c.line) None ≡ Some line → (c.line ≡ line) × (is_short_of z c.snapshot ≡ true)
    by_test true is h = (cc, is)
    by_test false is h = cc

none_issued : (v : Version) (n : ℕ) (es : List EntryValue) → is_none (position_from (issues v) n es) ≡ true
    → (k : ℕ) (c : EntryValue) → slice_get es k ≡ Some c → issues v c ≡ false
none_issued v n [] none k c at = cc
none_issued v n (e ∷ es) none k c at = by_test (λ left j there. none_issued v (n + 1) es left j c there) (issues v e) refl none k at
  where
    by_test : (is_none (position_from (issues v) (n + 1) es) ≡ true → (j : ℕ) → slice_get es j ≡ Some c → issues v c ≡ false)
        → (b : Bool) → issues v e ≡ b → is_none (cond b (Some n) (position_from (issues v) (n + 1) es)) ≡ true
        → (k : ℕ) → slice_get (e ∷ es) k ≡ Some c → issues v c ≡ false
    by_test further true is none k at = cc
    by_test further false is none zero at = let same : e ≡ c = cc in ap (issues v) (sym same) ∙ is
    by_test further false is none (suc k) at = further none k at

kept_in_front : (es : List EntryValue) (i j : ℕ) (c : EntryValue) → j < i → slice_get es j ≡ Some c → slice_get (take i es) j ≡ Some c
kept_in_front [] i j c lt at = cc
kept_in_front (e ∷ es) zero j c lt at = absurd (omega (arith, lt))
kept_in_front (e ∷ es) (suc i) zero c lt at = at
kept_in_front (e ∷ es) (suc i) (suc j) c lt at = kept_in_front es i j c (omega (arith, lt)) at

module _ (t : TraceValue) (rising : IsStrictlyIncreasing (entry_lines t.entries)) (i : ℕ) (e : EntryValue) (at : slice_get t.entries i ≡ Some e) where
  none_later : IsLatest t e → list_any (λ c. ltb e.snapshot c.at) (earlier_commits t e) ≡ false
  none_later latest =
      none_kept (λ (c : CommitLine). ltb c.line e.line) (λ (c : CommitLine). ltb e.snapshot c.at) (commit_lines_of t)
      (recursion_from_All _ (commit_lines_of t) (λ k d lt earlier. le-ltb _ _ (latest k d lt (ltb-true _ _ earlier))))

  none_open : IsClosed t e → list_any (λ c. leb c.at e.snapshot) (later_commits t e) ≡ false
  none_open closed =
      none_kept (λ (c : CommitLine). ltb e.line c.line) (λ (c : CommitLine). leb c.at e.snapshot) (commit_lines_of t)
      (recursion_from_All _ (commit_lines_of t) (λ k d lt later. lt-leb _ _ (closed k d lt (ltb-true _ _ later))))

  old_told : (line : ℕ) → old_token t i e ≡ Some line → (c : EntryValue) × IsContentOf t e line c × ¬ IsSomeAnd e.zookie (λ z. c.snapshot ≤ z.at)
  old_told line h = by_place (content_of t.entries i) refl h
    where
      by_version : (j : ℕ) → content_of t.entries i ≡ Some j → (o : Option Version) → version_named e.kind (entry_version e) ≡ o
          → (v : Version) × (version_named e.kind (entry_version e) ≡ Some v)
      by_version j is None named = let none : content_of t.entries i ≡ None = rw (at, named) refl in let no : None ≡ Some j = sym none ∙ is in cc
      by_version j is (Some v) named = (v, named)

      by_place : (o : Option ℕ) → content_of t.entries i ≡ o → option_and_then (line_if_short e.zookie) (option_and_then (slice_get t.entries) o) ≡ Some line
          → (c : EntryValue) × IsContentOf t e line c × ¬ IsSomeAnd e.zookie (λ z. c.snapshot ≤ z.at)
      by_place None is h = cc
      by_place (Some j) is h =
          let named = by_version j is (version_named e.kind (entry_version e)) refl in
          let m : Means t.entries named.0 i j = named_content-means t.entries i j e named.0 at named.1 is in
          let c = m.content in
          let told = line_told e.zookie c line (sym (rw m.there refl) ∙ h) in
          let within = slice_get_within t.entries j c m.there in (
            c,
            record {
              version = named.0;
              named = named.1;
              issued = m.issued;
              recorded = (j, within, get_or_from_slice_get t.entries j c c m.there);
              here = told.0;
              earlier = line_before t rising i j e c at m.there m.earlier;
            },
            short_of e.zookie c.snapshot told.1,
          )

  pub unknown_told : is_unknown_version t i e ≡ true → (v : Version) × (version_named e.kind (entry_version e) ≡ Some v)
      × ((c : EntryValue) → Contains t.entries c → c.line < e.line → ¬ IsTrue (issues v c))
  unknown_told h = by_name (version_named e.kind (entry_version e)) refl (and_parts _ _ h)
    where
      by_name : (o : Option Version) → version_named e.kind (entry_version e) ≡ o → (is_some (version_named e.kind (entry_version e)) ≡ true) × (is_none (content_of t.entries i) ≡ true)
          → (v : Version) × (version_named e.kind (entry_version e) ≡ Some v) × ((c : EntryValue) → Contains t.entries c → c.line < e.line → ¬ IsTrue (issues v c))
      by_name None named told = let no : false ≡ true = sym (rw named refl) ∙ told.0 in cc
      by_name (Some v) named told = (
        v,
        named,
        λ c recorded earlier issued.
            let j = recorded.0 in
            let there : slice_get t.entries j ≡ Some c = slice_get-get_or t.entries j c recorded.1 ∙ ap (λ (x : EntryValue). Some x) recorded.2 in
            let none : is_none (position_from (issues v) 0 (take i t.entries)) ≡ true = sym (rw (at, named) refl) ∙ told.1 in
            elim (cases_lt j i) [
              | inl lt ↦ true≢false (sym issued ∙ none_issued v 0 (take i t.entries) none j c (kept_in_front t.entries i j c lt there))
              | inr ge ↦ not_behind j c there earlier ge
            ],
      )
        where
          not_behind : (j : ℕ) (c : EntryValue) → slice_get t.entries j ≡ Some c → c.line < e.line → i ≤ j → ⊥
          not_behind j c there earlier ge = elim (cases_lt i j) [
            | inl lt ↦ let up = line_before t rising j i c e there at lt in absurd (omega (arith, up, earlier))
            | inr le ↦
                let here : i ≡ j = omega (arith, ge, le) in
                let same : Some e ≡ Some c = sym at ∙ ap (slice_get t.entries) here ∙ there in
                let lines : e.line ≡ c.line = cc in
                absurd (omega (arith, lines, earlier))
          ]

  pub denied : AreDenied t e (order_of t i e)
  denied = record {
    stale = λ h. let p = and_parts _ _ h in (check_of e.kind p.0, beyond e.zookie e.snapshot p.1);
    old_token = old_told;
    not_latest = λ line h. let p = and_parts _ _ (told_if (is_content e.kind && list_any (λ c. ltb e.snapshot c.at) (earlier_commits t e)) (last_line (earlier_commits t e)) line h) in
        (content_kind_of e.kind p.0, λ latest. true≢false (sym p.1 ∙ none_later latest));
    open_snapshot = λ line h closed. true≢false (sym (told_if (list_any (λ c. leb c.at e.snapshot) (later_commits t e)) (first_line (later_commits t e)) line h) ∙ none_open closed);
    wrong_token = λ h.
        let p = and_parts _ _ h in
        let q = and_parts _ _ p.1 in
        (content_kind_of e.kind p.0, q.0, λ is. true≢false (sym q.1 ∙ ap not is));
    unknown_version = unknown_told;
  }
