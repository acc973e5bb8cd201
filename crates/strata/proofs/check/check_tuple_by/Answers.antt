use Rattle.std.proofs.Common.{◌≡◌, List, ℕ, Bool, false, ◌∙◌, sym}
use Rattle.std.specs.Str.{bytes_eq}
use Rattle.tuple_text.specs.Refs.{set_value}
use Rattle.rewrites.proofs.Names.{clash, one_name, same_name}
use Rattle.strata.proofs.LastTuple.{last_rules_decide, others_unbroken}
use Rattle.strata.proofs.check.check_tuple_by.Goals as goal
use Rattle.strata.proofs.check.check_tuple_by.Goals.{else-has_more-via-then-has_more+else-eq, else-has_more-via-else-has_more}

differs : {A : Type 0} (x y : List ℕ) (b : Bool) → b ≡ bytes_eq x y → b ≡ false → x ≡ y → A
differs x y b is apart same = clash (bytes_eq x y) (rw same (same_name y)) (sym is ∙ apart)

pub returns-then-eq : goal.returns-then-eq
returns-then-eq c before again none =
    rw (← c.in-Set.ensures.parts, ← c.set-set.ensures.parts)
    (c.check_user.ensures)

pub returns-then-eq-2 : goal.returns-then-eq-2
returns-then-eq-2 c before again none =
    rw (← c.in-Set.ensures.parts, ← c.set-set.ensures.parts) (
    c.check_user_last.ensures.edges
    ∙ last_rules_decide c.args.rules.now before again.last c.args.namespace.now (set_value c.set-set.result) (set_value c.in-Set.user) c.requires.well_formed again.are again.named
    (λ same. elim c.else-has_more.branch [
      | else-has_more-via-then-has_more+else-eq w ↦ differs c.in-Set.user.namespace.now c.args.namespace.now w.eq.result w.eq.ensures w.if-eq.false same
      | else-has_more-via-else-has_more w ↦ again.count w.if-has_more.false
    ])
    (rw (← c.in-Set.ensures.parts, ← c.set-set.ensures.parts) at none) (sym c.eq-2.ensures ∙ c.if-eq-2.true)
    )

pub returns : goal.returns
returns c before again none =
    rw (← c.in-Set.ensures.parts, ← c.set-set.ensures.parts) (
    others_unbroken c.args.rules.now before again.last c.args.namespace.now (set_value c.set-set.result) (set_value c.in-Set.user) c.requires.well_formed again.are again.named
    (λ same. elim c.else-has_more.branch [
      | else-has_more-via-then-has_more+else-eq w ↦ differs c.in-Set.user.namespace.now c.args.namespace.now w.eq.result w.eq.ensures w.if-eq.false same
      | else-has_more-via-else-has_more w ↦ again.count w.if-has_more.false
    ])
    (rw (← c.in-Set.ensures.parts, ← c.set-set.ensures.parts) at none) (sym c.eq-2.ensures ∙ c.if-eq-2.false)
    )

pub check_user_last-requires : goal.check_user_last-requires
check_user_last-requires c none = rw (one_name c.set-set.result.namespace.now c.args.namespace.now (sym c.eq-2.ensures ∙ c.if-eq-2.true)) (c.requires.through none)
