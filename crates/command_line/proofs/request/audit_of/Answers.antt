use Rattle.std.proofs.Common.{◌≡◌, ◌∙◌, ap, ap₂, sym, Bool, true, not, is_some, Option, Some}
use Rattle.clap.specs.Words.{Text}
use Rattle.command_line.specs.Asked.{audits}
use Rattle.command_line.proofs.Whole.{some_of_mapped}
use Rattle.command_line.proofs.request.audit_of.Goals as goal

pub returns-clause-asked : goal.returns-clause-asked
returns-clause-asked c t e w n early f =
    let named = c.text-evidence.ensures ∙ f.evidence in
    let same = some_of_mapped c.text-evidence.result e named in
    let made = c.has-make.ensures.whole (not (is_some e)) f.make ∙ ap not same in
    let told = c.has-early.ensures.whole early f.early_given in
    let fits : c.has-early.result ≡ true → is_some c.text-evidence.result ≡ true = λ is. sym same ∙ f.fits (sym told ∙ is) in
    c.ask_for_audit.ensures.asked t w n (c.text-trace.ensures ∙ f.trace) made (c.number-workers.ensures.whole w f.workers_given) (c.number-slice.ensures.whole n f.slice_given) fits
    ∙ ap₂ (λ (o : Option Text) (b : Bool). Some (audits t o w n b)) named told
