use Rattle.std.proofs.Common.{rules, ◌≡◌, ◌<◌, ◌^◌, false}
use Rattle.namespaces.specs.Lookup.{rule_at}
use Rattle.rewrites.specs.Parts.{computed_names}
use Rattle.goal_cone.proofs.TargetLemmas.{none_read}
use Rattle.goal_cone.proofs.through.names_read.Goals as goal

pub returns-then-not-may_declare : goal.returns-then-not-may_declare
returns-then-not-may_declare c = λ declaring.
    let none : c.may_declare.result ≡ false = search rules in
    let small : c.args.at < 2 ^ 64 = search rules in
    let names = computed_names c.args.through.now in
    let read = none_read (rule_at c.args.rules.now c.args.at c.args.namespace.now) names (c.may_declare.ensures none names c.args.at declaring small) in
    search (rules, read)
