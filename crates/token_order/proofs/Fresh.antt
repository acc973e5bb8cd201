-- A trace without findings on tokens is in order.
use Rattle.std.proofs.Common.{◌≡◌, ℕ, ◌<◌, ◌≤◌, true, eqb, length, get_or, Option, Some, None, arith, refl, sym, ap, subst, ◌∙◌, inl, inr}
use Rattle.std.specs.Prelude.{IfSome, IsSomeAnd, slice_get}
use Rattle.std.proofs.lemmas.Bool.{true≢false, cases_Bool, eqb-true}
use Rattle.std.proofs.lemmas.Option.{slice_get-get_or}
use Rattle.zookie.specs.Tokens.{Token}
use Rattle.trace_lines.specs.Values.{EntryValue, TraceValue}
use Rattle.trace_lines.specs.Versions.{Version, entry_version, version_named, version_issued, is_version}
use Rattle.trace_lines.specs.declared.entry.EntryKind.{EntryKind}
use Rattle.trace_lines.specs.declared.entry.EntryKind.TheVariants.{Check, Content}
use Rattle.token_order.specs.Denied.{IsContentOf}
use Rattle.token_order.specs.Order.{IsLatest, CoversVersion, IsFresh, IsInOrder}
use Rattle.token_order.specs.Found.{is_token_of, order_of, nothing_found, HasNoOrderFindings}
use Rattle.token_order.specs.Upheld.{AreUpheld}
use Rattle.token_order.specs.declared.findings.OrderFindings.{OrderFindings}

-- what issued a version is a content check
issued_by_content : (k : EntryKind) (v : Version) (w : Option Version) → is_version v (version_issued k w) ≡ true → k ≡ Content
issued_by_content Check v w h = absurd (true≢false (sym h))
issued_by_content Content v w h = refl

-- a token that is one of a snapshot carries it
pub carries : (z : Option Token) (s : ℕ) → is_token_of s z ≡ true → IsSomeAnd z (λ (z : Token). z.at ≡ s)
carries None s h = absurd (true≢false (sym h))
carries (Some z) s h = elim (cases_Bool (eqb z.at s)) [
  | inl t ↦ eqb-true z.at s t
  | inr f ↦ absurd (true≢false (sym h ∙ rw f refl))
]

-- a zookie between two snapshots
between : (z : Option Token) (c s : ℕ) → IsSomeAnd z (λ (z : Token). c ≤ z.at) → IfSome z (λ (z : Token). z.at ≤ s) → c ≤ s
between None c s demands reaches = absurd demands
between (Some z) c s demands reaches = omega (arith, demands, reaches)

-- a check that is as new as its zookie, and whose zookie is as new as the content check of its version
module _ (t : TraceValue) (e : EntryValue) (fresh : IfSome e.zookie (λ z. z.at ≤ e.snapshot))
    (demanded : (line : ℕ) (c : EntryValue) → IsContentOf t e line c → IsSomeAnd e.zookie (λ z. c.snapshot ≤ z.at)) where
  pub reaches_content : (line : ℕ) (c : EntryValue) → IsContentOf t e line c → c.snapshot ≤ e.snapshot
  reaches_content line c of = between e.zookie c.snapshot e.snapshot (demanded line c of) fresh

  -- is fresh where that content check is latest
  pub fresh_check : ((v : Version) → version_named e.kind (entry_version e) ≡ Some v
      → (line : ℕ) × (c : EntryValue) × IsContentOf t e line c)
      → ((line : ℕ) (c : EntryValue) → IsContentOf t e line c → c.kind ≡ Content → IsLatest t c) → IsFresh t e
  fresh_check known latest = record {
    reaches_zookie = fresh;
    covers_version = covers (version_named e.kind (entry_version e)) refl;
  }
    where
      covers : (o : Option Version) → version_named e.kind (entry_version e) ≡ o → IfSome o (CoversVersion t e)
      covers None is = tt
      covers (Some v) is =
          let by = known v is in
          let c = by.1 in
          let of = by.2 in
          let same : Some of.version ≡ Some v = sym of.named ∙ is in
          let version : of.version ≡ v = cc in
          let issued = subst (λ (w : Version). is_version w (version_issued c.kind (entry_version c)) ≡ true) version of.issued in
          let covered = latest by.0 c of (issued_by_content c.kind v (entry_version c) issued) in
          let reaches = reaches_content by.0 c of in
          record {
            content = c;
            recorded = of.recorded;
            earlier = of.earlier;
            issued = issued;
            reaches_content = reaches;
            covered = λ k d lt before. let h = covered k d lt before in omega (arith, h, reaches);
          }

pub in_order : (t : TraceValue) → ((i : ℕ) (e : EntryValue) → slice_get t.entries i ≡ Some e → AreUpheld t e (order_of t i e))
    → HasNoOrderFindings t → IsInOrder t
in_order t up none = record {
  latest = λ k d lt content. (at k d lt).latest (ap (λ (f : OrderFindings). f.not_latest) (found k d lt)) content;
  closed = λ k d lt. (at k d lt).closed (ap (λ (f : OrderFindings). f.open_snapshot) (found k d lt));
  fresh = λ k d lt check.
      fresh_check t (get_or t.entries k d) ((at k d lt).fresh (ap (λ (f : OrderFindings). f.stale) (found k d lt)) check)
      ((at k d lt).demanded (ap (λ (f : OrderFindings). f.old_token) (found k d lt)))
      ((at k d lt).known (ap (λ (f : OrderFindings). f.unknown_version) (found k d lt))) latest_content;
  issued = λ k d lt content authorized.
      carries (get_or t.entries k d).zookie (get_or t.entries k d).snapshot
      ((at k d lt).token (ap (λ (f : OrderFindings). f.wrong_token) (found k d lt)) content authorized);
}
  where
    at : (k : ℕ) (d : EntryValue) → k < length t.entries → AreUpheld t (get_or t.entries k d) (order_of t k (get_or t.entries k d))
    at k d lt = up k (get_or t.entries k d) (slice_get-get_or t.entries k d lt)

    found : (k : ℕ) (d : EntryValue) → k < length t.entries → order_of t k (get_or t.entries k d) ≡ nothing_found
    found k d lt = none k (get_or t.entries k d) (slice_get-get_or t.entries k d lt)

    latest_content : {e : EntryValue} → (line : ℕ) (c : EntryValue) → IsContentOf t e line c → c.kind ≡ Content → IsLatest t c
    latest_content line c of content =
        let j = of.recorded.0 in
        let there : slice_get t.entries j ≡ Some c = slice_get-get_or t.entries j c of.recorded.1 ∙ ap (λ (x : EntryValue). Some x) of.recorded.2 in
        (up j c there).latest (ap (λ (f : OrderFindings). f.not_latest) (none j c there)) content
