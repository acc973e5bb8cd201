use Rattle.std.proofs.Common.{◌∙◌, List, Some, ap}
use Rattle.std.specs.Prelude.{slice_get, string_bytes}
use Rattle.version_chains.specs.Rows.{Kept}
use Rattle.version_chains.proofs.KeptLemmas.{none-there, row-there}
use Rattle.version_chains.proofs.rows.Rows.get.Goals as goal

pub read-requires : goal.read-requires
read-requires c =
    let row = row-there (string_bytes c.self.inside.text) c.self.inside.rows.items c.deref.result.now c.args.number c.deref.ensures.value c.in-Some.row.now
    c.in-Some.ensures.lookup.3.0 c.in-Some.ensures.lookup.1 c.self.invariant in
    rw c.deref-in-Some.ensures row.0

pub returns-in-Some : goal.returns-in-Some
returns-in-Some c =
    let row = row-there (string_bytes c.self.inside.text) c.self.inside.rows.items c.deref.result.now c.args.number c.deref.ensures.value c.in-Some.row.now
    c.in-Some.ensures.lookup.3.0 c.in-Some.ensures.lookup.1 c.self.invariant in
    ap Some c.read.ensures ∙ rw c.deref-in-Some.ensures row.1 ∙ ap (λ (ks : List Kept). slice_get ks c.args.number) c.self.view_is

pub returns-in-None : goal.returns-in-None
returns-in-None c =
    none-there (string_bytes c.self.inside.text) c.self.inside.rows.items c.deref.result.now c.args.number c.deref.ensures.value c.in-None.ensures.lookup.3
    ∙ ap (λ (ks : List Kept). slice_get ks c.args.number) c.self.view_is
