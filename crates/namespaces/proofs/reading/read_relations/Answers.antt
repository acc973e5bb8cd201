use Rattle.std.proofs.Common.{◌≡◌, ℕ, ◌+◌, ◌<◌, ◌≤◌, List, length, get_or, drop, Ok, ap, refl, ◌∙◌}
use Rattle.std.proofs.lemmas.List.{drop_all}
use Rattle.serde_json.specs.View.{view, items_view}
use Rattle.serde_json.specs.declared.value.Value.{Value}
use Rattle.namespaces.specs.Adding as adding
use Rattle.namespaces.specs.Declaration.{Relation}
use Rattle.namespaces.specs.Shown.{show_relations}
use Rattle.namespaces.proofs.Tables.{show_relations-append}
use Rattle.namespaces.proofs.Shapes.{after}
use Rattle.namespaces.proofs.Exits.{exit_gives, exit_memory, item_left, step, item_fails, item_read, all_read}
use Rattle.namespaces.proofs.reading.read_relations.Goals as goal

here : (vs ws : List Value) (i : ℕ) (v : Value) (front : List Relation) → vs ≡ ws → i < length vs → v ≡ get_or vs i v
    → after front (adding.relations (items_view (drop i vs))) ≡ adding.relations (items_view vs)
    → after front (step (adding.relation (view v)) (adding.relations (items_view (drop (i + 1) vs)))) ≡ adding.relations (items_view ws)
here vs ws i v front same within is read =
    rw (item_left vs i v within is) at read ∙ ap (λ (l : List Value). adding.relations (items_view l)) same

ended : (vs ws : List Value) (i : ℕ) (front : List Relation) → vs ≡ ws → length vs ≤ i
    → after front (adding.relations (items_view (drop i vs))) ≡ adding.relations (items_view vs)
    → adding.relations (items_view ws) ≡ Ok front
ended vs ws i front same past read = rw (← same) (all_read front _ (rw (drop_all i vs past) at read))

pub returns-in_err-read_relation : goal.returns-in_err-read_relation
returns-in_err-read_relation c =
    exit_gives _ _ _ _ c.from_residual.ensures.1 (item_fails _ _ _ _ _
    (here _ _ _ _ _ c.deref-value-items.ensures.value c.loop-value-test.true c.value-item.is c.loop-value.invariant)
    c.in_err-read_relation.ensures)

pub returns-in_err-push : goal.returns-in_err-push
returns-in_err-push c = exit_memory _ _ _ c.from_residual-in_err-push.ensures.1

pub loop-value-preserved : goal.loop-value-preserved
loop-value-preserved c =
    item_read _ _ _ _ _ _ (here _ _ _ _ _ refl c.loop-value-test.true c.value-item.is c.loop-value.invariant)
    c.in_ok-read_relation.ensures (ap show_relations c.in_ok-push.ensures.items ∙ show_relations-append
    c.loop-value.relations.items _)

pub returns : goal.returns
returns c = ended _ _ _ _ c.deref-value-items.ensures.value c.loop-value-test.false c.loop-value.invariant
