use Rattle.std.proofs.Common.{◌≡◌, ◌∙◌, ℕ, List, subst, sym}
use Rattle.std.specs.Prelude.{string_bytes}
use Rattle.std.specs.declared.vec.Vec.{Vec}
use Rattle.std.specs.declared.alloc.Global.{Global}
use Rattle.audit.specs.Devices.{writes}
use Rattle.audit.specs.Made.{AreRecords}
use Rattle.audit.proofs.Answering.{told-map}
use Rattle.audit.proofs.made.tell_records.Goals as goal

pub returns : goal.returns
returns g c =
    told-map (λ said v. (said ≡ c.as_str.result.now) × (v ≡ c.in_ok-text.given_up))
    (λ text v. AreRecords c.args.trace.now text v.items)
    (writes g.W.Sink.taken g.W.Sink.flushes g.W.Sink.failures g.W.Sink.idle g.W.Write.contents c.args.out.now
    c.tell.new.out) c.tell.result
    (λ said v h.
    subst (λ (text : List ℕ). AreRecords c.args.trace.now text v.items) (sym (h.0 ∙ c.as_str.ensures.value))
    (subst (λ (x : Vec ℕ Global). AreRecords c.args.trace.now (string_bytes c.in_ok-text.text) x.items) (sym h.1)
    c.in_ok-text.ensures)) c.tell.ensures
