use Rattle.std.proofs.Common.{◌≡◌, ◌+◌, ◌<◌, ◌∷◌, ◌∙◌, ℕ, List, ap, sym, arith, drop, length, map}
use Rattle.std.proofs.lemmas.Bool.{not-false}
use Rattle.std.proofs.lemmas.List.{drop_more}
use Rattle.std.proofs.lemmas.Slice.Eq.{bytes_eq-Decides}
use Rattle.carry.specs.Values.{item_value, said_value}
use Rattle.carry.specs.declared.value.Item.{Item}
use Rattle.carry.specs.declared.value.Said.{Said}
use Rattle.runs.specs.DeclaredTexts.{declared_in, texts_of, with_declared}
use Rattle.runs.proofs.handing.are_declaring.Goals as goal
use Rattle.runs.proofs.handing.are_declaring.Goals.{in-Declares+else-k-declared+else-ne, in-Commits, in-Records}

pub loop-item-preserved : goal.loop-item-preserved
loop-item-preserved c =
    let items = c.args.items.now in
    let ds = c.args.declared.now in
    let i = c.loop-item.item-index in
    let k = c.loop-item.k in
    let within = c.loop-item.invariant.0 in
    let further = declared_in (map item_value (drop (i + 1) items)) in
    let rest_of : ℕ → List (List ℕ) = λ n. texts_of (drop n ds) in
    let first : declared_in (map item_value (drop i items)) ≡ with_declared (said_value c.item-item.result.said) further =
    ap (λ (xs : List Item). declared_in (map item_value xs))
    (drop_more items i c.item-item.result c.loop-item-test.true
    ∙ ap (λ (x : Item). x ∷ drop (i + 1) items) (sym c.item-item.is)) in
    let said : Said → List (List ℕ) = λ s. with_declared (said_value s) further in
    elim c.match-item.branch [
      | in-Declares+else-k-declared+else-ne w ↦
          let text = w.in-Declares.text.now in
          let before : k < length ds = omega (arith, within, w.if-k-declared.false) in
          let same = (bytes_eq-Decides w.as_str.result.now text).0 (not-false _ (sym w.ne.ensures ∙ w.if-ne.false)) in
          let next = w.k-is in (
            omega (arith, before, next),
            λ rest. c.loop-item.invariant.1
                (first ∙ ap said w.in-Declares.is
                ∙ ap (λ (ts : List (List ℕ)). text ∷ ts) (rest ∙ ap rest_of next)
                ∙ ap (λ (t : List ℕ). t ∷ rest_of (k + 1)) (sym same ∙ w.as_str.ensures.value)
                ∙ sym (ap texts_of (drop_more ds k w.index-declared-k.result before))),
          )
      | in-Commits w ↦
          let next = w.k-is in (
            omega (arith, within, next),
            λ rest. c.loop-item.invariant.1 (first ∙ ap said w.in-Commits.is ∙ rest ∙ ap rest_of next),
          )
      | in-Records w ↦
          let next = w.k-is in (
            omega (arith, within, next),
            λ rest. c.loop-item.invariant.1 (first ∙ ap said w.in-Records.is ∙ rest ∙ ap rest_of next),
          )
    ]
