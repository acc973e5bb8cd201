use Rattle.std.proofs.Common.{◌<◌, List, length, sym, subst, ◌∙◌, ap, ◌≡◌, Some}
use Rattle.std.specs.Prelude.{slice_get, slice_set, string_bytes}
use Rattle.version_chains.specs.Rows.{Kept}
use Rattle.version_chains.proofs.KeptLemmas.{kept-later, rows-later}
use Rattle.version_chains.proofs.rows.Rows.set_latest.Goals as goal

pub invariant_of-self : goal.invariant_of-self
invariant_of-self c =
    rows-later (string_bytes c.self.inside.text) c.self.inside.rows.items c.args.number c.index_mut.result.now c.args.latest
    (subst (λ (ks : List Kept). c.args.number < length ks) (sym c.self.view_is) c.requires) c.index_mut.ensures.value c.self.invariant

pub returns : goal.returns
returns c r at =
    kept-later (string_bytes c.self.inside.text) c.self.inside.rows.items c.args.number c.index_mut.result.now c.args.latest
    (subst (λ (ks : List Kept). c.args.number < length ks) (sym c.self.view_is) c.requires) c.index_mut.ensures.value r
    (subst (λ (ks : List Kept). slice_get ks c.args.number ≡ Some r) (sym c.self.view_is) at)
    ∙ ap (λ (ks : List Kept). slice_set ks c.args.number (record { tuple = r.tuple; latest = c.args.latest })) c.self.view_is
