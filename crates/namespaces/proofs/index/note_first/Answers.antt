use Rattle.std.proofs.Common.{◌∙◌, ap, refl, not}
use Rattle.namespaces.specs.Index.{show_index}
use Rattle.namespaces.proofs.Indexes.{show_index-push}
use Rattle.namespaces.proofs.index.note_first.Goals as goal

pub returns-clause-ok : goal.returns-clause-ok
returns-clause-ok c =
    ap show_index (c.in_ok-put.ensures.put (c.in_ok-put.ensures.new ∙ ap not c.requires))
    ∙ show_index-push c.args.namespaces.now.entries (c.args.name, c.push.new.self) ∙ rw (c.in_ok-push.ensures.items, c.new-revisions.ensures.items) refl
