-- Threads may share a trace: they may share each of its parts.
use denote.Param.Send.{IsSync, sendable}
use Rattle.std.proofs.Crossing.{crosses}
use Rattle.std.proofs.MapsCrossing as maps
use Rattle.tuple_text.specs.contracts.tuples.Tuple as tuple
use Rattle.marks.specs.contracts.places.Places as places
use Rattle.version_chains.specs.contracts.arena.Arena as arena
use Rattle.version_chains.specs.contracts.chains.Chains as chains
use Rattle.rewrites.proofs.rewrite.Rewrite.TheLaws.TheKnot.{sync-Rewrite}
use Rattle.rewrites.proofs.parts.Node.TheLaws.TheKnot.{sync-Node}
use Rattle.rewrites.specs.contracts.parts.PartedRule as parted
use Rattle.namespaces.specs.contracts.relation.PlainRule as plain
use Rattle.namespaces.specs.contracts.relation.Relation as relation
use Rattle.namespaces.specs.contracts.table.Namespace as namespace
use Rattle.namespaces.specs.contracts.rules.Line as line
use Rattle.namespaces.specs.contracts.rules.Rules as rules
use Rattle.userset_index.specs.contracts.spans.Spans as spans
use Rattle.userset_index.specs.contracts.moments.Times as times
use Rattle.userset_index.specs.contracts.index.UsersetIndex as usersets
use Rattle.trace_lines.specs.contracts.trace.Trace as trace

tuple_sync : IsSync tuple.the_row
tuple_sync = search (sendable, crosses, maps.crosses) depth 40

places_sync : IsSync places.the_row
places_sync = search (sendable, crosses, maps.crosses) depth 40

arena_sync : IsSync arena.the_row
arena_sync = search (sendable, crosses, maps.crosses, tuple_sync, places_sync) depth 40

pub chains_sync : IsSync chains.the_row
chains_sync = search (sendable, crosses, maps.crosses, arena_sync) depth 40

pub parted_sync : IsSync parted.the_row
parted_sync = search (sendable, crosses, maps.crosses, sync-Rewrite, sync-Node) depth 40 fits 100000

plain_sync : IsSync (plain.the_field).row
plain_sync = search (sendable, crosses, maps.crosses, sync-Rewrite, parted_sync) depth 40 fits 100000

relation_sync : IsSync relation.the_row
relation_sync = search (sendable, crosses, maps.crosses, sync-Rewrite, plain_sync) depth 40 fits 100000

namespace_sync : IsSync (namespace.the_field).row
namespace_sync = search (sendable, crosses, maps.crosses, relation_sync) depth 40 fits 100000

line_sync : IsSync line.the_row
line_sync = search (sendable, namespace_sync) depth 40

pub rules_sync : IsSync rules.the_row
rules_sync = search (sendable, crosses, maps.crosses, line_sync) depth 40 fits 100000

spans_sync : IsSync spans.the_row
spans_sync = search (sendable, crosses, maps.crosses, places_sync) depth 40

times_sync : IsSync times.the_row
times_sync = search (sendable, crosses, maps.crosses, spans_sync) depth 40

pub usersets_sync : IsSync usersets.the_row
usersets_sync = search (sendable, crosses, maps.crosses, spans_sync, times_sync) depth 40

pub trace_sync : IsSync trace.the_row
trace_sync =
    search (sendable, crosses, maps.crosses, rules_sync, chains_sync, usersets_sync) depth
    40 fits 100000
