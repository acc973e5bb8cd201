use Rattle.std.proofs.Common.{◌∙◌, ap}
use Rattle.namespaces.specs.Index.{show_index}
use Rattle.namespaces.proofs.Tables.{on_err_always}
use Rattle.namespaces.proofs.Indexes.{put_back, put_back_more}
use Rattle.namespaces.proofs.index.note_further.Goals as goal

pub returns-in_err-pushed-clause-unchanged : goal.returns-in_err-pushed-clause-unchanged
returns-in_err-pushed-clause-unchanged c =
    let es = c.args.namespaces.now.entries in
    let same = put_back es c.args.index c.new.result c.replace-revisions.result c.push-pushed.new.self c.replace-revisions.ensures.was c.in_err-pushed.ensures.items in
    on_err_always c.from_residual.result (ap show_index c.replace.ensures.new ∙ rw c.replace-revisions.ensures.new same)

pub returns-clause-ok : goal.returns-clause-ok
returns-clause-ok c =
    let es = c.args.namespaces.now.entries in
    ap show_index c.replace.ensures.new
    ∙ rw c.replace-revisions.ensures.new (put_back_more es c.args.index c.new.result c.replace-revisions.result c.push-pushed.new.self c.replace-revisions.ensures.was c.args.revision c.in_ok-pushed.ensures.items)
