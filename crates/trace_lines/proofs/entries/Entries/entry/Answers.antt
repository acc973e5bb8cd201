use Rattle.std.proofs.Common.{◌∙◌, ap}
use Rattle.std.specs.Prelude.{string_bytes}
use Rattle.trace_lines.specs.Recorded.{Recorded}
use Rattle.trace_lines.proofs.EntryLemmas.{entry_in, entry_is}
use Rattle.trace_lines.proofs.entries.Entries.entry.Goals as goal

pub read-requires : goal.read-requires
read-requires c = rw c.deref.ensures
    (entry_in (string_bytes c.self.inside.text) c.self.inside.kept.items c.args.self.now c.self.view_is c.args.i c.requires c.index.result.now c.index.ensures c.self.invariant)

pub returns : goal.returns
returns c r at =
    let is = entry_is (string_bytes c.self.inside.text) c.self.inside.kept.items c.args.self.now c.self.view_is c.args.i c.requires c.index.result.now c.index.ensures r at in
    c.read.ensures ∙ rw c.deref.ensures (ap (λ (x : Recorded). x.entry) is)
