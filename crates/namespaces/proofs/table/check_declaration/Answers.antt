use Rattle.std.proofs.Common.{◌≡◌, Bool, true, false, not, ◌&&◌, cond, List, Result, Ok, Err, refl, ap, ◌∙◌}
use Rattle.std.specs.List.{list_any, list_all}
use Rattle.tuple_text.specs.Forms.{is_name}
use Rattle.refusals.specs.Refusals.{◌>>=◌}
use Rattle.namespaces.specs.declared.fault.RulesFault.{RulesFault}
use Rattle.namespaces.specs.declared.fault.RulesFault.TheVariants.{Name, RepeatedNamespace, RepeatedRelation, UndeclaredRelation, TooDeep, TooMany}
use Rattle.namespaces.specs.Adding as adding
use Rattle.namespaces.specs.Declaration.{Relation, Namespace}
use Rattle.namespaces.specs.Lookup.{relation_names}
use Rattle.namespaces.specs.Drafts.{show_draft}
use Rattle.namespaces.proofs.Exits.{exit_gives, first_fails, goes_on}
use Rattle.namespaces.proofs.table.check_declaration.Goals as goal

-- the tests before a table is made, and those of the table
abbrev names : Bool → Namespace → Result (Unit {0}) RulesFault
names repeated new =
    cond (not (is_name new.name && list_all adding.is_well_named new.relations)) (Err Name)
    (cond repeated (Err RepeatedNamespace) (Ok tt))

abbrev table : List Relation → Result (List Relation) RulesFault
table rs = cond (adding.has_repeats (relation_names rs)) (Err RepeatedRelation) (Ok rs)

abbrev relations : Bool → List Relation → Result (Unit {0}) RulesFault
relations full rs =
    cond (not (list_all (adding.reads_declared rs) rs)) (Err UndeclaredRelation)
    (cond (list_any adding.is_too_deep rs) (Err TooDeep) (cond (adding.is_over_limits full rs) (Err TooMany) (Ok tt)))

tested-steps : (repeated full : Bool) (new : Namespace)
    → adding.tested repeated full new ≡ (names repeated new >>= λ u. table new.relations >>= λ rs. relations full rs >>= λ v. Ok (record { name = new.name; relations = rs }))
unfolding adding.tested
tested-steps repeated full new =
    let bad = not (is_name new.name && list_all adding.is_well_named new.relations) in
    let again = adding.has_repeats (relation_names new.relations) in
    ap (λ (end : Result Namespace RulesFault). cond bad (Err Name)
    (cond repeated (Err RepeatedNamespace) (cond again (Err RepeatedRelation) end)))
    (last (not (list_all (adding.reads_declared new.relations) new.relations))
    (list_any adding.is_too_deep new.relations) (adding.is_over_limits full new.relations) new)
    ∙ first bad repeated again new.relations (λ rs. relations full rs >>= λ v. Ok (record { name = new.name; relations = rs }))
  where
    first : (a b c : Bool) (rs : List Relation) (end : List Relation → Result Namespace RulesFault)
        → cond a (Err Name) (cond b (Err RepeatedNamespace) (cond c (Err RepeatedRelation) (end rs)))
        ≡ (cond a (Err Name) (cond b (Err RepeatedNamespace) (Ok (tt {0}))) >>= λ u. cond c (Err RepeatedRelation)
        (Ok rs) >>= end)
    first true b c rs end = refl
    first false true c rs end = refl
    first false false true rs end = refl
    first false false false rs end = refl

    last : (a b c : Bool) (new : Namespace)
        → cond a (Err UndeclaredRelation) (cond b (Err TooDeep) (cond c (Err TooMany) (Ok new)))
        ≡ (cond a (Err UndeclaredRelation) (cond b (Err TooDeep) (cond c (Err TooMany) (Ok (tt {0})))) >>= λ v. Ok new)
    last true b c new = refl
    last false true c new = refl
    last false false true new = refl
    last false false false new = refl

-- the steps behind those of the names
behind : (repeated full : Bool) (new : Namespace) → names repeated new ≡ Ok tt
    → adding.tested repeated full new ≡ (table new.relations >>= λ rs. relations full rs >>= λ v. Ok (record { name = new.name; relations = rs }))
behind repeated full new named = tested-steps repeated full new ∙ goes_on _ _ _ named

pub returns-in_err-check_names : goal.returns-in_err-check_names
returns-in_err-check_names c =
    exit_gives _ _ _ _ c.from_residual.ensures.1 (rw
    (tested-steps c.args.repeated c.args.full (show_draft c.args.draft))
    (first_fails _ _ _ c.in_err-check_names.ensures))

pub returns-in_err-relations : goal.returns-in_err-relations
returns-in_err-relations c =
    exit_gives _ _ _ _ c.from_residual-in_err-relations.ensures.1
    (rw (behind c.args.repeated c.args.full (show_draft c.args.draft) c.in_ok-check_names.ensures)
    (first_fails _ _ _ c.in_err-relations.ensures))

pub returns-in_err-check_relations : goal.returns-in_err-check_relations
returns-in_err-check_relations c =
    exit_gives _ _ _ _ c.from_residual-in_err-check_relations.ensures.1
    (rw (
      behind c.args.repeated c.args.full (show_draft c.args.draft) c.in_ok-check_names.ensures,
      goes_on _ _ _
          c.in_ok-relations.ensures,
    ) (first_fails _ _ _ c.in_err-check_relations.ensures))

pub returns : goal.returns
returns c =
    behind c.args.repeated c.args.full (show_draft c.args.draft) c.in_ok-check_names.ensures ∙ goes_on _ _ _
    c.in_ok-relations.ensures ∙ goes_on _ _ _ c.in_ok-check_relations.ensures
