use Rattle.std.proofs.Common.{◌≡◌, ℕ, ◌<◌, ◌≤◌, ◌==◌, ◌||◌, not, Bool, true, false, inl, inr, Some, sym, ◌∙◌, ap, arith}
use Rattle.std.specs.Prelude.{slice_get}
use Rattle.std.proofs.lemmas.Bool.{cases_lt, eq-eqb, ne_eqb}
use Rattle.std.proofs.lemmas.Option.{slice_get_within}
use Rattle.token_order.proofs.Lines.{line_before}
use Rattle.trace_lines.specs.EntryViews.{entry_value}
use Rattle.trace_lines.specs.Values.{EntryValue, TraceValue, entry_lines}
use Rattle.std.specs.List.Sorted.{IsStrictlyIncreasing}
use Rattle.carry_laws.specs.Asked.{is_audited}
use Rattle.carry_laws.proofs.AskLemmas.{none_on_line, one_on_line}
use Rattle.follow.proofs.asking.is_asked.Goals as goal

-- where entries before number i stand in front of a line, and those from there on do not, one alone may stand on it
others : (t : TraceValue) → IsStrictlyIncreasing (entry_lines t.entries) → (line i : ℕ) (e : EntryValue)
    → slice_get t.entries i ≡ Some e → line ≤ e.line
    → ((j : ℕ) (x : EntryValue) → slice_get t.entries j ≡ Some x → j < i → x.line < line)
    → (j : ℕ) (x : EntryValue) → slice_get t.entries j ≡ Some x → (j ≡ i → ⊥) → x.line ≡ line → ⊥
others t rising line i e at from before j x there differ same = elim (cases_lt j i) [
  | inl lt ↦ let below = before j x there lt in omega (arith, below, same)
  | inr ge ↦ elim (cases_lt i j) [
    | inl lt ↦ let up = line_before t rising j i x e there at lt in omega (arith, up, same, from)
    | inr le ↦ differ (omega (arith, ge, le))
  ]
]

pub returns-then-i-len : goal.returns-then-i-len
returns-then-i-len c =
    let t = c.args.trace.now in
    let all = c.if-i-len.true in
    let count = c.len.ensures.count in
    sym (none_on_line (is_audited c.args.known t.entries) c.args.line t.entries (λ j x at same.
    let within = slice_get_within t.entries j x at in
    let below = c.entries_before-i.ensures.before j x at (omega (arith, within, all, count)) in
    omega (arith, below, same)))

pub returns-then-entry-line : goal.returns-then-entry-line
returns-then-entry-line c =
    let t = c.args.trace.now in
    let i = c.entries_before-i.result in
    let e = entry_value c.entry-entry.result in
    let at = c.entry-entry.ensures.value in
    let h : not (e.line == c.args.line) ≡ true = ap not (ne_eqb e.line c.args.line (λ same. let apart = c.if-entry-line.true in apart same)) in
    h ∙ sym (one_on_line (is_audited c.args.known t.entries) c.args.line t.entries i e at
    (others t c.len.ensures.rising c.args.line i e at (c.entries_before-i.ensures.behind i e at (omega arith))
    c.entries_before-i.ensures.before)
    ∙ ap (λ (b : Bool). b || is_audited c.args.known t.entries e) h)

pub returns-else-entry-line : goal.returns-else-entry-line
returns-else-entry-line c =
    let t = c.args.trace.now in
    let i = c.entries_before-i.result in
    let e = entry_value c.entry-entry.result in
    let at = c.entry-entry.ensures.value in
    let same = c.if-entry-line.false in
    let h : not (e.line == c.args.line) ≡ false = ap not (eq-eqb e.line c.args.line same) in
    c.is_audited.ensures e at
    ∙ sym (one_on_line (is_audited c.args.known t.entries) c.args.line t.entries i e at
    (others t c.len.ensures.rising c.args.line i e at (c.entries_before-i.ensures.behind i e at (omega arith))
    c.entries_before-i.ensures.before)
    ∙ ap (λ (b : Bool). b || is_audited c.args.known t.entries e) h)
