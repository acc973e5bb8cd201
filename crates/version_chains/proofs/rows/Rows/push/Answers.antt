use Rattle.std.proofs.Common.{◌++◌, ◌∷◌, [], List, ℕ, ap, ◌∙◌, map, sym, subst}
use Rattle.std.specs.Prelude.{string_bytes}
use Rattle.version_chains.specs.Rows.{AreRows, Kept, kept_in}
use Rattle.version_chains.specs.declared.row.Row.{Row}
use Rattle.version_chains.proofs.KeptLemmas.{all-kept, kept-more, on_err, rows-kept, rows-more}
use Rattle.version_chains.proofs.rows.Rows.push.Goals as goal

pub known_set-known-requires : goal.known_set-known-requires
known_set-known-requires c =
    subst (λ (rs : List Row). AreRows c.deref.result.now rs) (sym c.deref-2.ensures.value)
    (subst (λ (text : List ℕ). AreRows text c.self.inside.rows.items) (sym c.deref.ensures) c.self.invariant)

pub invariant_of-self : goal.invariant_of-self
invariant_of-self c = rows-kept _ _ c.push_texts.ensures.goes_on c.self.inside.rows.items c.self.invariant

pub returns-in_err-row-clause-err : goal.returns-in_err-row-clause-err
returns-in_err-row-clause-err c =
    on_err _ (all-kept _ _ c.push_texts.ensures.goes_on c.self.inside.rows.items c.self.invariant ∙ c.self.view_is)

pub invariant_of-self-in_err-push : goal.invariant_of-self-in_err-push
invariant_of-self-in_err-push c =
    subst (AreRows (string_bytes c.push_texts.new.text)) (sym c.in_err-push.ensures.items)
    (rows-kept _ _ c.push_texts.ensures.goes_on c.self.inside.rows.items c.self.invariant)

pub returns-in_err-push-clause-err : goal.returns-in_err-push-clause-err
returns-in_err-push-clause-err c =
    on_err _ (
    ap (λ (rs : List Row). map (kept_in (string_bytes c.push_texts.new.text)) rs) c.in_err-push.ensures.items
    ∙ all-kept _ _ c.push_texts.ensures.goes_on c.self.inside.rows.items c.self.invariant
    ∙ c.self.view_is
    )

pub invariant_of-self-2 : goal.invariant_of-self-2
invariant_of-self-2 c =
    rows-more (string_bytes c.push_texts.new.text) c.self.inside.rows.items c.push.new.self.items c.in_ok-row.row c.in_ok-push.ensures.items
    (rows-kept _ _ c.push_texts.ensures.goes_on c.self.inside.rows.items c.self.invariant) c.in_ok-row.ensures.row

pub returns-clause-ok : goal.returns-clause-ok
returns-clause-ok c =
    kept-more (string_bytes c.push_texts.new.text) c.self.inside.rows.items c.push.new.self.items c.in_ok-row.row c.in_ok-push.ensures.items
    ∙ ap (λ (ks : List Kept). ks ++ kept_in (string_bytes c.push_texts.new.text) c.in_ok-row.row ∷ [])
    (all-kept _ _ c.push_texts.ensures.goes_on c.self.inside.rows.items c.self.invariant ∙ c.self.view_is)
    ∙ ap (λ (k : Kept). c.args.self.now ++ k ∷ []) c.in_ok-row.ensures.kept
