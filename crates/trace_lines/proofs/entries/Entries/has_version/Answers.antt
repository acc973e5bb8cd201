use Rattle.std.proofs.Common.{◌∙◌, ap, ℕ, List}
use Rattle.std.specs.Prelude.{option_map, string_bytes}
use Rattle.version_chains.specs.Texts.{set_in}
use Rattle.trace_lines.specs.Issued.{version_value}
use Rattle.trace_lines.specs.KeptEntries.{label_in}
use Rattle.trace_lines.specs.Recorded.{Recorded}
use Rattle.trace_lines.specs.Versions.{entry_version, is_version, version_of}
use Rattle.trace_lines.proofs.EntryLemmas.{entry_in, entry_is}
use Rattle.trace_lines.proofs.entries.Entries.has_version.Goals as goal

pub set_at-requires : goal.set_at-requires
set_at-requires c = rw c.deref.ensures
    (entry_in (string_bytes c.self.inside.text) c.self.inside.kept.items c.args.self.now c.self.view_is c.args.i c.requires c.index-kept.result.now c.index-kept.ensures c.self.invariant).goal

pub label_in-requires : goal.label_in-requires
label_in-requires c = rw c.deref-2.ensures
    (entry_in (string_bytes c.self.inside.text) c.self.inside.kept.items c.args.self.now c.self.view_is c.args.i c.requires c.index-kept.result.now c.index-kept.ensures c.self.invariant).label

pub returns : goal.returns
returns c r at =
    let kept = c.index-kept.result.now in
    let set = c.set_at.ensures ∙ ap (λ (text : List ℕ). set_in text kept.goal) c.deref.ensures in
    let label = c.label_in.ensures ∙ ap (λ (text : List ℕ). label_in text kept.has_label kept.label_at kept.label_len) c.deref-2.ensures in
    let is = entry_is (string_bytes c.self.inside.text) c.self.inside.kept.items c.args.self.now c.self.view_is c.args.i c.requires c.index-kept.result.now c.index-kept.ensures r at in
    c.is_version.ensures
    ∙ (λ j. is_version (version_value c.args.version) (option_map (version_of (set j)) (label j)))
    ∙ ap (λ (x : Recorded). is_version (version_value c.args.version) (entry_version x.entry)) is
