use Rattle.std.proofs.Common.{◌≡◌, None, sym, ap, is_some, string_bytes}
use Rattle.names.specs.Names.{place_of}
use Rattle.names.proofs.NamesLemmas.{stands_nowhere}
use Rattle.namespaces.proofs.Indexes.{with_revision-there, with_revision-new}
use Rattle.namespaces.proofs.index.note.Goals as goal

pub note_first-requires : goal.note_first-requires
note_first-requires c =
    let nowhere : place_of (string_bytes c.args.name) c.args.namespaces.now.entries ≡ None = rw c.as_str.ensures.value at (sym c.in-None.ensures.index) in
    ap is_some (stands_nowhere (string_bytes c.args.name) c.args.namespaces.now.entries nowhere)

pub returns-in-Some-clause-ok : goal.returns-in-Some-clause-ok
returns-in-Some-clause-ok c =
    let at = rw c.as_str.ensures.value at (sym c.in-Some.ensures.index) in
    rw (with_revision-there (string_bytes c.args.name) c.args.revision c.args.namespaces.now.entries c.in-Some.index at) c.note_further.ensures.ok

pub returns-in-None-clause-ok : goal.returns-in-None-clause-ok
returns-in-None-clause-ok c =
    let nowhere : place_of (string_bytes c.args.name) c.args.namespaces.now.entries ≡ None = rw c.as_str.ensures.value at (sym c.in-None.ensures.index) in
    rw (with_revision-new (string_bytes c.args.name) c.args.revision c.args.namespaces.now.entries (stands_nowhere (string_bytes c.args.name) c.args.namespaces.now.entries nowhere)) c.note_first.ensures.ok
