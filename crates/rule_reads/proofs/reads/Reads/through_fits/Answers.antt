use Rattle.std.proofs.Common.{◌≡◌, ◌∙◌, ℕ, List, [], ap, sym, subst}
use Rattle.std.specs.Prelude.{Contains}
use Rattle.tuple_text.specs.Refs.{set_value}
use Rattle.tuple_text.specs.Sets.{SetValue}
use Rattle.tuple_text.specs.declared.users.User.{User}
use Rattle.tuple_text.specs.declared.users.User.TheVariants.{Set}
use Rattle.rule_reads.specs.Reads.{IsLowWhereStored, pair_mark, relation_mark, relation_of_user, tupleset_mark}
use Rattle.rule_reads.proofs.Reading.{each_marked}
use Rattle.rule_reads.proofs.reads.Reads.through_fits.Goals as goal

pub returns : goal.returns
returns c all g e user i n m =
    let s = c.args.tuple.now.set in
    let same_user : Set (set_value c.in-Set.user) ≡ Set g = c.in-Set.ensures.parts ∙ user in
    let same : set_value c.in-Set.user ≡ g = cc in
    let users : c.in-Set.user.namespace.now ≡ g.namespace = ap (λ (x : SetValue). x.namespace) same in
    let names : c.relation_mark-mark.result ≡ tupleset_mark e =
    c.relation_mark-mark.ensures ∙ (λ j. relation_mark (c.set-set.ensures.parts j).namespace (c.set-set.ensures.parts j).relation) ∙ (λ j. relation_mark (sym n j) (sym m j)) in
    let low = each_marked (IsLowWhereStored c.args.scope.rules.now c.args.scope.kinds.now c.in-Set.user.namespace.now) tupleset_mark c.args.self.now.through.items c.args.self.now.tuplesets c.requires.marked.tuplesets
    c.relation_mark-mark.result (c.through_fits_along.ensures all) e i names in
    let there = subst (λ (u : User). Contains c.args.scope.kinds.now.pairs (pair_mark s (relation_of_user u).namespace)) user c.requires.stored in
    subst (λ (q : List ℕ). IsLowWhereStored c.args.scope.rules.now c.args.scope.kinds.now q e) users low
    (subst (Contains c.args.scope.kinds.now.pairs) (λ j. pair_mark (record { namespace = sym n j; id = []; relation = sym m j }) g.namespace) there)
