-- What the types of a trace keep, from one line to the next.
use Rattle.std.proofs.Common.{◌≡◌, ℕ, ◌<◌, ◌≤◌, List, [], ◌∷◌, ◌++◌, length, suc, zero, take, drop, get_or, Option, Some, None, arith, refl, sym, ap, ◌∙◌, inl, inr}
use Rattle.std.specs.Prelude.{All, slice_get}
use Rattle.std.specs.List.Sorted.{IsStrictlyIncreasing}
use Rattle.std.proofs.Math.ListN.{get_or-append}
use Rattle.std.proofs.Math.Seq.{get_or-append_seam, take-append_seam}
use Rattle.std.proofs.lemmas.Bool.{cases_lt}
use Rattle.std.proofs.lemmas.List.{length-append, length-map, map-append, take-append-le, drop-append-le, take_all, drop_all, get_or-map}
use Rattle.std.proofs.lemmas.List.Elements.{All-push}
use Rattle.std.proofs.lemmas.List.Kept.{AllPairs-from_increasing}
use Rattle.std.proofs.lemmas.Option.{slice_get-get_or}
use Rattle.version_chains.specs.Commits.{Commit}
use Rattle.trace_lines.specs.Values.{EntryValue, entry_lines, after_last}
use Rattle.trace_lines.specs.Versions.{content_among, content_of}
use Rattle.trace_lines.specs.Kept.{IsPlaced, IsKept}
use Rattle.trace_lines.proofs.RisingLines.{last_of, rising_push}

-- numbers that rise are all below the number after the last
all_below : (ns : List ℕ) (n : ℕ) → IsStrictlyIncreasing ns → after_last ns ≤ n → All (λ x. x < n) ns
all_below [] n up le k d lt = absurd (omega (arith, lt))
all_below (x ∷ xs) n up le k d lt =
    let last = last_of x xs in
    let default : get_or (x ∷ xs) (length xs) d ≡ get_or (x ∷ xs) (length xs) 0 = same_default (x ∷ xs) (length xs) d (omega arith) in
    elim (cases_lt k (length xs)) [
      | inl below ↦ let pair = AllPairs-from_increasing (x ∷ xs) up k (length xs) d below (omega arith) in omega (arith, pair, default, last, le)
      | inr ge ↦ let end : k ≡ length xs = omega (arith, lt, ge) in rw (end, default) (omega (arith, last, le))
    ]
  where
    same_default : (ys : List ℕ) (k d : ℕ) → k < length ys → get_or ys k d ≡ get_or ys k 0
    same_default [] k d h = absurd (omega (arith, h))
    same_default (y ∷ ys) zero d h = refl
    same_default (y ∷ ys) (suc k) d h = same_default ys k d (omega (arith, h))

entries_below : (es : List EntryValue) (n : ℕ) → IsStrictlyIncreasing (entry_lines es) → after_last (entry_lines es) ≤ n → All (λ (e : EntryValue). e.line < n) es
entries_below es n up le k d lt =
    let at = get_or-map (λ (e : EntryValue). e.line) es k d 0 lt in
    let below = all_below (entry_lines es) n up le k 0 (rw (length-map es (λ (e : EntryValue). e.line)) lt) in
    omega (arith, at, below)

-- a commit more stands behind the entries so far
still_placed : (lines : List ℕ) (n : ℕ) (e : EntryValue) → IsPlaced lines e → e.line < n → IsPlaced (lines ++ n ∷ []) e
still_placed lines n e is lt = record {
  counted = let more = length-append lines (n ∷ []) in omega (arith, more, is.counted);
  earlier = rw (take-append-le e.before lines (n ∷ []) is.counted) is.earlier;
  later = rw (drop-append-le e.before lines (n ∷ []) is.counted) (All-push (λ (l : ℕ). e.line < l) (drop e.before lines) n is.later lt);
}

-- an entry more stands behind all commits so far
placed_last : (lines : List ℕ) (e : EntryValue) → IsStrictlyIncreasing lines → after_last lines ≤ e.line → e.before ≡ length lines → IsPlaced lines e
placed_last lines e up le all = record {
  counted = omega (arith, all);
  earlier = rw (take_all e.before lines (omega (arith, all))) (all_below lines e.line up le);
  later = rw (drop_all e.before lines (omega (arith, all))) (λ k d lt. absurd (omega (arith, lt)));
}

module _ (commits : List Commit) (lines : List ℕ) (es : List EntryValue) (contents : List (Option ℕ)) (is : IsKept commits lines es contents) where
  pub kept_commit : (c : Commit) (n : ℕ) → after_last lines ≤ n → after_last (entry_lines es) ≤ n → IsKept (commits ++ c ∷ []) (lines ++ n ∷ []) es contents
  kept_commit c n behind below = record {
    counted = let a = length-append commits (c ∷ []) in let b = length-append lines (n ∷ []) in omega (arith, a, b, is.counted);
    commits_rise = rising_push lines n is.commits_rise behind;
    entries_rise = is.entries_rise;
    placed = λ k d lt. still_placed lines n (get_or es k d) (is.placed k d lt) (entries_below es n is.entries_rise below k d lt);
    named = is.named;
  }

  name_pushed : (e : EntryValue) (content : Option ℕ) → length contents ≡ length es → content ≡ content_among es e
      → (i : ℕ) → i < length (es ++ e ∷ []) → slice_get (contents ++ content ∷ []) i ≡ Some (content_of (es ++ e ∷ []) i)
  name_pushed e content same found i lt =
      let more = length-append es (e ∷ []) in
      let longer = length-append contents (content ∷ []) in
      let seen : slice_get (contents ++ content ∷ []) i ≡ Some (get_or (contents ++ content ∷ []) i None) = slice_get-get_or (contents ++ content ∷ []) i None (omega (arith, same, lt, more, longer)) in
      let asked : slice_get (es ++ e ∷ []) i ≡ Some (get_or (es ++ e ∷ []) i e) = slice_get-get_or (es ++ e ∷ []) i e lt in
      elim (cases_lt i (length es)) [
        | inl old ↦
            let had : slice_get contents i ≡ Some (get_or contents i None) = slice_get-get_or contents i None (omega (arith, same, old)) in
            let knew : slice_get es i ≡ Some (get_or es i e) = slice_get-get_or es i e old in
            let was : slice_get contents i ≡ Some (content_among (take i es) (get_or es i e)) = is.named i old ∙ rw knew refl in
            rw (seen, get_or-append contents (content ∷ []) None i (omega (arith, same, old)), asked, get_or-append es (e ∷ []) e i old, take-append-le i es (e ∷ []) (omega (arith, old))) (sym had ∙ was)
        | inr ge ↦
            let last : i ≡ length es = omega (arith, lt, more, ge) in
            let here : i ≡ length contents = last ∙ sym same in
            rw (seen, asked) (ap (λ (o : Option ℕ). Some o) (
            ap (λ (j : ℕ). get_or (contents ++ content ∷ []) j None) here ∙ get_or-append_seam contents content [] None ∙ found
            ∙ sym (rw (last, get_or-append_seam es e [] e, take-append_seam es (e ∷ [])) refl)
            ))
      ]

  pub kept_entry : (e : EntryValue) (content : Option ℕ) → after_last lines ≤ e.line → after_last (entry_lines es) ≤ e.line → e.before ≡ length lines
      → length contents ≡ length es → content ≡ content_among es e
      → IsKept commits lines (es ++ e ∷ []) (contents ++ content ∷ [])
  kept_entry e content behind below before same found = record {
    counted = is.counted;
    commits_rise = is.commits_rise;
    entries_rise = rw (map-append (λ (x : EntryValue). x.line) es (e ∷ [])) (rising_push (entry_lines es) e.line is.entries_rise below);
    placed = All-push (IsPlaced lines) es e is.placed (placed_last lines e is.commits_rise behind before);
    named = name_pushed e content same found;
  }
