-- What is not told of an entry holds of it.
use Rattle.std.proofs.Common.{◌≡◌, ℕ, ◌≤◌, Bool, true, false, cond, ltb, leb, List, [], ◌∷◌, Option, Some, None, refl, sym, ap, subst, ◌∙◌, inl, inr}
use Rattle.std.specs.Prelude.{IfSome, IsSomeAnd, IsTrue, filter, not, slice_get}
use Rattle.std.specs.Option.{option_or}
use Rattle.std.specs.List.{list_any, AllByRecursion}
use Rattle.std.specs.List.Sorted.{IsStrictlyIncreasing}
use Rattle.std.proofs.lemmas.Bool.{true≢false, cases_Bool, ltb-false, leb-false, lt-ltb, or_parts}
use Rattle.std.proofs.lemmas.List.Elements.{All-from_recursion}
use Rattle.std.proofs.lemmas.Option.{slice_get-get_or, slice_get_within, get_or_from_slice_get, none-some}
use Rattle.zookie.specs.Tokens.{Token}
use Rattle.trace_lines.specs.Values.{EntryValue, TraceValue, entry_lines}
use Rattle.trace_lines.specs.Versions.{Version, entry_version, version_named, issues, content_of, AreIssuedOnce}
use Rattle.trace_lines.specs.declared.entry.EntryKind.{EntryKind}
use Rattle.trace_lines.specs.declared.entry.EntryKind.TheVariants.{Check, Content}
use Rattle.trace_lines.proofs.IssuedVersions.{Means, named_content-means}
use Rattle.token_order.specs.Denied.{IsContentOf}
use Rattle.token_order.specs.Order.{CommitLine, commit_lines_of, IsLatest, IsClosed}
use Rattle.token_order.specs.Found.{is_check, is_content, is_above, line_if_short, old_token, earlier_commits, later_commits, first_line, last_line, not_latest, open_snapshot, is_token_of, is_unknown_version, order_of}
use Rattle.token_order.specs.Upheld.{AreUpheld}
use Rattle.token_order.proofs.Denials.{unknown_told}
use Rattle.token_order.proofs.Lines.{line_before}

-- what a filter passes and a test does not
none_passes : {X : Type 0} (p q : X → Bool) (xs : List X) → list_any q (filter p xs) ≡ false → AllByRecursion (λ x. p x ≡ true → q x ≡ false) xs
none_passes p q [] h = tt
none_passes p q (x ∷ xs) h = elim (cases_Bool (p x)) [
  | inl t ↦
      let parts = or_parts (q x) (list_any q (filter p xs)) (sym (rw t refl) ∙ h) in
      (λ _. parts.0, none_passes p q xs parts.1)
  | inr f ↦ (λ t. absurd (true≢false (sym t ∙ f)), none_passes p q xs (sym (rw f refl) ∙ h))
]

has_last : (c : CommitLine) (cs : List CommitLine) → last_line (c ∷ cs) ≡ None → ⊥
has_last c [] h = none-some c.line (sym h)
has_last c (d ∷ ds) h = by (last_line (d ∷ ds)) h
  where
    by : (o : Option ℕ) → option_or o (Some c.line) ≡ None → ⊥
    by None e = none-some c.line (sym e)
    by (Some n) e = none-some n (sym e)

-- where no line is told, no commit passes
no_last : (q : CommitLine → Bool) (cs : List CommitLine) → cond (list_any q cs) (last_line cs) None ≡ None → list_any q cs ≡ false
no_last q [] h = refl
no_last q (c ∷ cs) h = elim (cases_Bool (list_any q (c ∷ cs))) [
  | inl t ↦ absurd (has_last c cs (sym (rw t refl) ∙ h))
  | inr f ↦ f
]

no_first : (q : CommitLine → Bool) (cs : List CommitLine) → cond (list_any q cs) (first_line cs) None ≡ None → list_any q cs ≡ false
no_first q [] h = refl
no_first q (c ∷ cs) h = elim (cases_Bool (list_any q (c ∷ cs))) [
  | inl t ↦ absurd (none-some c.line (sym (sym (rw t refl) ∙ h)))
  | inr f ↦ f
]

is_latest : (t : TraceValue) (e : EntryValue) → is_content e.kind ≡ true → not_latest t e ≡ None → IsLatest t e
is_latest t e content h k d lt earlier =
    let none = no_last (λ (c : CommitLine). ltb e.snapshot c.at) (earlier_commits t e) (sym (rw content refl) ∙ h) in
    let passes = All-from_recursion _ (commit_lines_of t) (none_passes (λ (c : CommitLine). ltb c.line e.line) (λ (c : CommitLine). ltb e.snapshot c.at) (commit_lines_of t) none) in
    ltb-false _ _ (passes k d lt (lt-ltb _ _ earlier))

is_closed : (t : TraceValue) (e : EntryValue) → open_snapshot t e ≡ None → IsClosed t e
is_closed t e h k d lt later =
    let none = no_first (λ (c : CommitLine). leb c.at e.snapshot) (later_commits t e) h in
    let passes = All-from_recursion _ (commit_lines_of t) (none_passes (λ (c : CommitLine). ltb e.line c.line) (λ (c : CommitLine). leb c.at e.snapshot) (commit_lines_of t) none) in
    leb-false _ _ (passes k d lt (lt-ltb _ _ later))

content_kind : (k : EntryKind) → k ≡ Content → is_content k ≡ true
content_kind k e = rw e refl

check_kind : (k : EntryKind) → k ≡ Check → is_check k ≡ true
check_kind k e = rw e refl

reaches : (z : Option Token) (s : ℕ) → is_above z s ≡ false → IfSome z (λ (z : Token). z.at ≤ s)
reaches None s h = tt
reaches (Some z) s h = ltb-false _ _ h

-- a zookie that is not short of a snapshot demands it
demands : (z : Option Token) (c : EntryValue) → line_if_short z c ≡ None → IsSomeAnd z (λ (z : Token). c.snapshot ≤ z.at)
demands None c h = none-some c.line (sym h)
demands (Some z) c h = elim (cases_Bool (ltb z.at c.snapshot)) [
  | inl t ↦ absurd (none-some c.line (sym (sym (rw t refl) ∙ h)))
  | inr f ↦ ltb-false _ _ f
]

of_snapshot : (b : Bool) → not b ≡ false → b ≡ true
of_snapshot true h = refl
of_snapshot false h = absurd (true≢false h)

module _ (t : TraceValue) (rising : IsStrictlyIncreasing (entry_lines t.entries)) (once : AreIssuedOnce t.entries) (i : ℕ)
    (e : EntryValue) (at : slice_get t.entries i ≡ Some e) where
  content_at : (v : Version) → version_named e.kind (entry_version e) ≡ Some v → (j : ℕ) (m : Means t.entries v i j)
      → IsContentOf t e m.content.line m.content
  content_at v named j m =
      let within = slice_get_within t.entries j m.content m.there in
      record {
        version = v;
        named = named;
        issued = m.issued;
        recorded = (j, within, get_or_from_slice_get t.entries j m.content m.content m.there);
        here = refl;
        earlier = line_before t rising i j e m.content at m.there m.earlier;
      }

  known_by : (o : Option ℕ) → content_of t.entries i ≡ o → is_unknown_version t i e ≡ false → (v : Version)
      → version_named e.kind (entry_version e) ≡ Some v → (line : ℕ) × (c : EntryValue) × IsContentOf t e line c
  known_by None is h v named = absurd (true≢false (sym (rw (named, is) refl) ∙ h))
  known_by (Some j) is h v named =
      let m : Means t.entries v i j = named_content-means t.entries i j e v at named is in
      (m.content.line, m.content, content_at v named j m)

  -- the content check that the version has is the one that the check is compared with
  demanded_by : (o : Option ℕ) → content_of t.entries i ≡ o → old_token t i e ≡ None → (line : ℕ) (c : EntryValue)
      → IsContentOf t e line c → IsSomeAnd e.zookie (λ (z : Token). c.snapshot ≤ z.at)
  demanded_by None is h line c of = absurd (none_before (and_named of.version of.named))
    where
      there : slice_get t.entries of.recorded.0 ≡ Some c
      there = slice_get-get_or t.entries of.recorded.0 c of.recorded.1 ∙ ap (λ (x : EntryValue). Some x) of.recorded.2

      and_named : (v : Version) → version_named e.kind (entry_version e) ≡ Some v → is_unknown_version t i e ≡ true
      and_named v named = rw (named, is) refl

      none_before : is_unknown_version t i e ≡ true → ⊥
      none_before unknown =
          let told = unknown_told t rising i e at unknown in
          let names : Some told.0 ≡ Some of.version = sym told.1 ∙ of.named in
          let version : of.version ≡ told.0 = cc in
          told.2 c of.recorded of.earlier (subst (λ (w : Version). IsTrue (issues w c)) version of.issued)
  demanded_by (Some j) is h line c of =
      let m : Means t.entries of.version i j = named_content-means t.entries i j e of.version at of.named is in
      let short : line_if_short e.zookie m.content ≡ None = sym (rw (is, m.there) refl) ∙ h in
      let there : slice_get t.entries of.recorded.0 ≡ Some c =
      slice_get-get_or t.entries of.recorded.0 c of.recorded.1 ∙ ap (λ (x : EntryValue). Some x) of.recorded.2 in
      let place : j ≡ of.recorded.0 = once of.version j of.recorded.0 m.content c m.there there m.issued of.issued in
      let same : Some m.content ≡ Some c = sym m.there ∙ ap (slice_get t.entries) place ∙ there in
      let is_c : m.content ≡ c = cc in
      subst (λ (x : EntryValue). IsSomeAnd e.zookie (λ (z : Token). x.snapshot ≤ z.at)) is_c (demands e.zookie m.content short)

  pub upheld : AreUpheld t e (order_of t i e)
  upheld = record {
    fresh = λ h check. reaches e.zookie e.snapshot (sym (rw (check_kind e.kind check) refl) ∙ h);
    demanded = demanded_by (content_of t.entries i) refl;
    latest = λ h content. is_latest t e (content_kind e.kind content) h;
    closed = is_closed t e;
    token = λ h content authorized. of_snapshot (is_token_of e.snapshot e.zookie) (sym (rw (content_kind e.kind content, authorized) refl) ∙ h);
    known = known_by (content_of t.entries i) refl;
  }
