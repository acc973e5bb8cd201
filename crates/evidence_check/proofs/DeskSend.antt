-- What a thread keeps from one record to the next may go to it.
use denote.Param.Send.{IsSend, IsSync, sendable}
use denote.Ref.{NamedLft}
use Rattle.std.proofs.Crossing.{crosses}
use Rattle.std.proofs.MapsCrossing as maps
use Rattle.rewrites.proofs.rewrite.Rewrite.TheLaws.TheKnot.{send-Rewrite, sync-Rewrite}
use Rattle.rewrites.specs.contracts.parts.Part as part
use Rattle.snapshots.specs.contracts.timeline.Timeline as timeline
use Rattle.wide_rules.specs.contracts.answers.Answers as answers
use Rattle.wide_rules.specs.contracts.covers.Covers as covers
use Rattle.wide_rules.specs.contracts.kept.Kept as kept
use Rattle.wide_rules.specs.contracts.paths.Path as path
use Rattle.wide_rules.specs.contracts.paths.Paths as paths
use Rattle.wide_rules.specs.contracts.asking.Parts as parts
use Rattle.wide_rules.specs.contracts.asked_rule.AskedRule as asked_rule
use Rattle.evidence_check.specs.contracts.asked_rules.AskedRules as asked_rules
use Rattle.evidence_check.specs.contracts.blocks.Desk as desk
use Rattle.evidence_check.proofs.TraceSync.{chains_sync, parted_sync, rules_sync, trace_sync, usersets_sync}

answers_send : IsSend answers.the_row
answers_send = search (sendable, crosses) depth 40 fits 100000

kept_send : IsSend kept.the_row
kept_send = search (sendable, crosses, maps.crosses) depth 40 fits 100000

path_send : IsSend path.the_row
path_send = search (sendable, crosses) depth 40 fits 100000

paths_send : IsSend paths.the_row
paths_send = search (sendable, crosses, path_send) depth 40 fits 100000

part_sync : IsSync part.the_row
part_sync = search (sendable, crosses, maps.crosses, sync-Rewrite) depth 40 fits 100000

part_send : IsSend part.the_row
part_send = search (sendable, crosses, maps.crosses, send-Rewrite) depth 40 fits 100000

covers_send : IsSend (covers.the_field).row
covers_send = search (sendable, crosses, part_send) depth 40 fits 100000

timeline_send : (κ : NamedLft) → IsSend ((timeline.the_field κ).row)
timeline_send κ = search (sendable, crosses, rules_sync, chains_sync, usersets_sync) depth 40 fits 100000

parts_send : (κ : NamedLft) → IsSend (parts.the_row κ)
parts_send κ = search (sendable, crosses, timeline_send, kept_send, covers_send, part_sync) depth 40 fits 100000

rule_send : (κ : NamedLft) → IsSend (asked_rule.the_row κ)
rule_send κ = search (sendable, crosses, answers_send, paths_send, parts_send, parted_sync) depth 40 fits 100000

rules_send : (κ : NamedLft) → IsSend (asked_rules.the_row κ)
rules_send κ = search (sendable, crosses, maps.crosses, rule_send, trace_sync) depth 40 fits 100000

pub desk_send : (κ : NamedLft) → IsSend (desk.the_row κ)
desk_send κ = search (sendable, crosses, rules_send) depth 40 fits 100000
